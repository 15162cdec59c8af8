use Rattle.std.proofs.Common.{map, reverse, ap}
use Rattle.std.specs.Option.{option_map}
use Rattle.ap_dix.specs.Plain.{plain}
use Rattle.ap_dix.specs.Views.{stage_of}
use Rattle.ap_dix.proofs.PlainLaws.{from_below, closed_on}
use Rattle.ap_dix.proofs.stages.close_step.Goals as goal

pub returns-in_ok-top-in-Some-Some : goal.returns-in_ok-top-in-Some-Some
returns-in_ok-top-in-Some-Some c =
    closed_on (stage_of c.in-Some-Some.outer) (reverse (map stage_of c.pop.new.self.items))
    (reverse (map stage_of c.args.below.items)) (stage_of c.in_ok-top-in-Some-Some.top)
    c.in-Some-Some.choices _
    (from_below stage_of c.pop.new.self.items c.in-Some-Some.outer c.args.below.items
    c.in-Some-Some.ensures.items)
    c.in_ok-top-in-Some-Some.ensures
    (ap (option_map (λ made. map plain made.items)) c.in-Some-Some.is-1)
