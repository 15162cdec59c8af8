use Rattle.std.proofs.Common.{◌∙◌, subst, sym}
use Rattle.std.proofs.lemmas.Option.{same_Some}
use Rattle.ap_live.specs.Trails.{IsTrail, Trails}
use Rattle.ap_live.proofs.ways.Ways.cut_trail.Goals as goal

pub returns-in-Some : goal.returns-in-Some
returns-in-Some c = λ m seen t e is. c.cut.ensures m.edges seen
    (subst (λ (z : Trails). IsTrail m.edges seen z)
    (same_Some t c.in-Some.trail (sym e ∙ c.in-Some.is)) is)
