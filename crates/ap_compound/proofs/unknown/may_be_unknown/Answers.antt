use Rattle.ap_compound.proofs.Unknowns.{not_unknown}
use Rattle.ap_compound.proofs.unknown.may_be_unknown.Goals as goal

pub returns-in-Some : goal.returns-in-Some
returns-in-Some c = λ e. not_unknown c.args.unit.now c.in-Some.bytes.now c.in-Some.ensures
    (c.begins_with_star.ensures e)
