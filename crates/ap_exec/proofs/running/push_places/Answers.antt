use Rattle.std.proofs.Common.{◌∙◌, ap, refl, get_or, List, Option, ℕ}
use Rattle.ap_exec.specs.Stacks.{between}
use Rattle.ap_exec.specs.Units.{number_at}
use Rattle.ap_exec.proofs.Stacking.{place_more}
use Rattle.ap_exec.proofs.running.push_places.Goals as goal

pub params-preserved : goal.params-preserved
params-preserved c =
    let p = get_or c.args.params.now c.params.param-index 0 in
    place_more c.args.scope.from c.args.scope.to c.args.positions.now.items c.params.positions.items
    c.push-in-params.new.self.items c.args.params.now c.params.param-index p
    c.number_at-unit.result
    c.requires.order c.requires.within c.params-test.true c.params.invariant
    (c.number_at-unit.ensures
    ∙ ap (λ (xs : List (Option ℕ)). number_at (between c.args.scope.from c.args.scope.to xs) p)
    c.deref-in-params.ensures.value)
    refl c.in_ok-push-2.ensures.items
