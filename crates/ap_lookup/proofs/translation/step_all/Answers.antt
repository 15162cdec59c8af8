use Rattle.std.proofs.Common.{take, ap, arith, Ok}
use Rattle.ap_live.specs.Lexicon.{lexicon_of}
use Rattle.ap_live.proofs.Coherence.{coherent}
use Rattle.ap_lookup.proofs.Translations as laws
use Rattle.ap_lookup.proofs.translation.step_all.Goals as goal

pub returns-then-not-fits-clause-lives : goal.returns-then-not-fits-clause-lives
returns-then-not-fits-clause-lives c =
    let many = laws.so_many c.args.compiled.now c.args.sensitive c.args.symbols.now c.loop-at.at
    c.index-symbols-at.result c.loop-at-test.true c.index-symbols-at.is in
    (c.in_ok-fits.ensures.off (ap Ok c.if-not-fits.true) (take c.loop-at.at c.args.symbols.now) many
    c.loop-at.invariant.lives).0

pub returns-then-not-fits-clause-ends : goal.returns-then-not-fits-clause-ends
returns-then-not-fits-clause-ends c =
    let many = laws.so_many c.args.compiled.now c.args.sensitive c.args.symbols.now c.loop-at.at
    c.index-symbols-at.result c.loop-at-test.true c.index-symbols-at.is in
    let off = (c.in_ok-fits.ensures.off (ap Ok c.if-not-fits.true)
    (take c.loop-at.at c.args.symbols.now) many c.loop-at.invariant.lives).1 in
    laws.dead_past (lexicon_of c.args.compiled.now c.args.sensitive) c.args.symbols.now c.loop-at.at
    (coherent c.args.compiled.now c.args.sensitive c.alphabet.ensures.sound)
    (laws.dead_next c.args.compiled.now c.args.sensitive c.args.symbols.now c.loop-at.at
    c.index-symbols-at.result c.loop-at-test.true c.index-symbols-at.is off)

pub loop-at-preserved : goal.loop-at-preserved
loop-at-preserved c = record {
  fits = omega (arith, c.loop-at-test.true);
  lives = laws.live_more c.args.compiled.now c.args.sensitive c.args.symbols.now c.loop-at.at
      c.index-symbols-at.result c.loop-at-test.true c.index-symbols-at.is c.step_one.new.lives
      (c.in_ok-fits.ensures.on (ap Ok c.if-not-fits.false) (take c.loop-at.at c.args.symbols.now)
      c.loop-at.invariant.lives).0;
}
