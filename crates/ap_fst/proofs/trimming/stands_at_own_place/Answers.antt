use Rattle.std.proofs.Common.{◌∙◌, ◌≡◌, ap, arith, get_or, Some}
use Rattle.std.proofs.lemmas.Bool.Decides.{nat_tests}
use Rattle.std.proofs.lemmas.Option.{slice_get-get_or}
use Rattle.ap_fst.proofs.trimming.stands_at_own_place.Goals as goal

pub returns : goal.returns
returns c = λ t. let e : get_or c.args.states.now c.args.state 0 ≡ c.args.state =
    grind (arith, nat_tests) in
    slice_get-get_or c.args.states.now c.args.state 0 (omega arith) ∙ ap Some e
