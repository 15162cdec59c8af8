use Rattle.std.proofs.Common.{◌∙◌, ap}
use Rattle.ap_exec.specs.States.{overlaid}
use Rattle.ap_exec.proofs.Overlays.{overlaid-None}
use Rattle.ap_exec.proofs.changes.reach.Goals as goal

pub fresh-preserved : goal.fresh-preserved
fresh-preserved c = λ base. ap (overlaid base) c.in_ok-push.ensures.items
    ∙ overlaid-None base c.fresh.fresh.items ∙ c.fresh.invariant base
