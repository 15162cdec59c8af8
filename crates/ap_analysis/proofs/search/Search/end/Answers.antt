use Rattle.std.proofs.Common.{arith, subst, inl, inr}
use Rattle.ap_stream.proofs.ItemFronts.{front_short}
use Rattle.ap_live.specs.Lexicon.{lexicon_of}
use Rattle.ap_analysis.specs.Items.{symbol_of}
use Rattle.ap_analysis.specs.Vain.{IsWalk}
use Rattle.ap_analysis.specs.declared.search.Walk.{Walk}
use Rattle.ap_analysis.proofs.search.Search.end.Goals as goal

pub overflow_add-result : goal.overflow_add-result
overflow_add-result c =
    let walk = subst (λ (w : Walk). IsWalk (lexicon_of c.args.compiled.now c.args.sensitive)
    c.args.reads.now c.args.finished c.args.self.now.looked w) c.in-Meets.is c.requires.walk in
    let within = walk.0.ends.here.within in
    let short = front_short symbol_of c.args.reads.now in
    omega (arith, within, short)

pub returns-in_ok-ended-in-Ends-clause-ended : goal.returns-in_ok-ended-in-Ends-clause-ended
returns-in_ok-ended-in-Ends-clause-ended c =
    let walk = subst (λ (w : Walk). IsWalk (lexicon_of c.args.compiled.now c.args.sensitive)
    c.args.reads.now c.args.finished c.args.self.now.looked w) c.in-Ends.is c.requires.walk in
    c.in_ok-ended-in-Ends.ensures.ended c.args.finished (inl walk.1)

pub returns-in_ok-ended-in-All-clause-ended : goal.returns-in_ok-ended-in-All-clause-ended
returns-in_ok-ended-in-All-clause-ended c =
    c.in_ok-ended-in-All.ensures.ended c.args.finished (inr c.if-not-finished.false)
