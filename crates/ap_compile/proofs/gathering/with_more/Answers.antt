use Rattle.std.proofs.Common.{refl, false}
use Rattle.ap_compile.specs.Gatherings.{before_shared}
use Rattle.ap_compile.proofs.gathering.with_more.Goals as goal

pub returns : goal.returns
returns c = before_shared c.pop.new.self.items c.in-Some.level
    (record { ending = c.in-Some.level.ending; fronts = c.in_ok-fronts.fronts; is_new = false })
    c.in-Some.ensures.items c.in_ok-push.ensures.items refl refl c.in_ok-fronts.ensures
