use Rattle.std.proofs.Common.{◌∙◌, arith, sym}
use Rattle.std.proofs.lemmas.List.{length-take-le}
use Rattle.ap_format.proofs.Runs.{some_white, none_white}
use Rattle.ap_format.proofs.Moving.{cuts_closed, if_both}
use Rattle.ap_format.proofs.cutter.Cutter.go_on_white.Goals as goal

pub add_white-requires-clause-more : goal.add_white-requires-clause-more
add_white-requires-clause-more c =
    some_white _ c.requires.some (sym c.is_white.ensures ∙ c.if-is_white.true)

pub returns-clause-cuts : goal.returns-clause-cuts
returns-clause-cuts c =
    if_both _ _ _ _ (λ n count cuts. cuts_closed _ _ _ _ _ _ _ c.in_ok-close.ensures.closes cuts
    (none_white _ c.requires.some (sym c.is_white.ensures ∙ c.if-is_white.false) n)
    (let size = length-take-le n c.args.piece.now count.1 in omega (arith, size, count.0)))
    c.begin.ensures.count c.begin.ensures.cuts
