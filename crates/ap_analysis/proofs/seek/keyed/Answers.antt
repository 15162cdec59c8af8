use Rattle.std.proofs.Common.{arith, sym, ◌∙◌}
use Rattle.ap_analysis.proofs.FrontSteps.{closed_plain, closed_copies, open_step}
use Rattle.ap_analysis.proofs.seek.keyed.Goals as goal

pub returns-then-is_white-clause-step : goal.returns-then-is_white-clause-step
returns-then-is_white-clause-step c = λ lexicon sensitive n text whole fits few is gives.
    let copies = c.is_copying.ensures c.if-not-is_copying.false in
    closed_copies lexicon sensitive whole c.args.piece.now n fits few c.args.found is c.args.count
    text gives copies.0 copies.1

pub returns-then-is_bare-clause-step : goal.returns-then-is_bare-clause-step
returns-then-is_bare-clause-step c = λ lexicon sensitive n text whole fits few is gives.
    open_step lexicon sensitive whole c.args.piece.now n fits few c.args.found is c.args.count text
    gives c.if-found.true (let z = c.if-span-gt0.true in omega (arith, z))
    (c.is_bare.ensures c.if-is_bare.true) (sym c.is_white.ensures ∙ c.if-is_white.false)

pub returns-clause-step : goal.returns-clause-step
returns-clause-step c = λ lexicon sensitive n text whole fits few is gives.
    closed_plain lexicon sensitive whole c.args.piece.now n fits few c.args.found is c.args.count
    text gives (sym c.is_white.ensures ∙ c.if-is_white.false)
