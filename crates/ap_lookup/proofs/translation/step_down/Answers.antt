use Rattle.std.proofs.Common.{◌≡◌, ℕ, ◌-◌, true, false, List, take, arith, sym, ◌∙◌, subst}
use Rattle.ap_symbol.specs.declared.symbol.Symbol.{Symbol}
use Rattle.ap_live.specs.Lexicon.{lexicon_of}
use Rattle.ap_live.specs.SectionLives.{AreLive}
use Rattle.ap_live.proofs.Greatest.{greatest_down, greatest_here}
use Rattle.ap_lookup.specs.Matching.{is_match}
use Rattle.ap_lookup.proofs.Translations as laws
use Rattle.ap_lookup.proofs.translation.step_down.Goals as goal

pub returns-then-at-least-clause-value : goal.returns-then-at-least-clause-value
returns-then-at-least-clause-value c =
    sym (c.loop-at.invariant.is
    ∙ laws.none_below (lexicon_of c.args.compiled.now c.args.sensitive) c.args.least
    c.args.symbols.now c.loop-at.at (omega (arith, c.if-at-least.true)))

pub returns-then-reads_any-clause-value : goal.returns-then-reads_any-clause-value
returns-then-reads_any-clause-value c =
    sym (c.loop-at.invariant.is
    ∙ greatest_here (is_match (lexicon_of c.args.compiled.now c.args.sensitive) c.args.least
    c.args.symbols.now) c.loop-at.at c.loop-at-test.true
    (laws.match_reads (lexicon_of c.args.compiled.now c.args.sensitive) c.args.least
    c.args.symbols.now c.loop-at.at true (omega (arith, c.if-at-least.false))
    (sym (c.reads_any.ensures c.args.sensitive _ c.loop-at.invariant.lives)
    ∙ c.if-reads_any.true)))

pub returns-then-at-least-clause-none : goal.returns-then-at-least-clause-none
returns-then-at-least-clause-none c = λ _ within.
    let at : c.loop-at.at ≡ c.args.least - 1 =
    (let low = c.loop-at.invariant.low within in omega (arith, low, c.if-at-least.true)) in
    subst (λ (k : ℕ). AreLive c.args.compiled.now c.args.sensitive (take k c.args.symbols.now)
    c.loop-at.lives) at c.loop-at.invariant.lives

pub returns-clause-none : goal.returns-clause-none
returns-clause-none c = λ _ within.
    let at : c.loop-at.at ≡ c.args.least - 1 =
    (let low = c.loop-at.invariant.low within in omega (arith, low, c.loop-at-test.false)) in
    subst (λ (k : ℕ). AreLive c.args.compiled.now c.args.sensitive (take k c.args.symbols.now)
    c.loop-at.lives) at c.loop-at.invariant.lives

pub loop-at-preserved : goal.loop-at-preserved
loop-at-preserved c = record {
  lives = subst (λ (symbols : List Symbol). AreLive c.args.compiled.now c.args.sensitive symbols
      c.cut.new.self) (laws.taken_again (c.loop-at.at - 1) c.loop-at.at c.args.symbols.now
      (omega arith)) (c.cut.ensures c.args.compiled.now c.args.sensitive _
      c.loop-at.invariant.lives);
  below = omega (arith, c.loop-at.invariant.below);
  low = λ _. omega (arith, c.if-at-least.false, c.loop-at-test.true);
  is = c.loop-at.invariant.is
      ∙ greatest_down (is_match (lexicon_of c.args.compiled.now c.args.sensitive) c.args.least
      c.args.symbols.now) c.loop-at.at c.loop-at-test.true
      (laws.match_reads (lexicon_of c.args.compiled.now c.args.sensitive) c.args.least
      c.args.symbols.now c.loop-at.at false (omega (arith, c.if-at-least.false))
      (sym (c.reads_any.ensures c.args.sensitive _ c.loop-at.invariant.lives)
      ∙ c.if-reads_any.false));
}
