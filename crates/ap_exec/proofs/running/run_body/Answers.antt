use Rattle.std.proofs.Common.{◌∙◌, ap, sym, subst, arith, List, length}
use Rattle.std.proofs.lemmas.Result.{err_from_is_err_and}
use Rattle.ap_exec.specs.Results.{Ran, Fails}
use Rattle.ap_exec.specs.Running.{RunState}
use Rattle.ap_exec.specs.Stacks.{frames_cost, AreNested}
use Rattle.ap_exec.specs.States.{run_state, definitions}
use Rattle.ap_exec.specs.declared.stack.Frame.{Frame}
use Rattle.ap_exec.proofs.Stacking.{nested_last, cost_more, last_first, start_runs}
use Rattle.ap_exec.proofs.running.run_body.Goals as goal

pub run_first-requires : goal.run_first-requires
run_first-requires c =
    let nested = nested_last 0 c.pop.new.self.items c.in-Some.frame
    (length c.frames.stack.positions.items)
    (subst (λ (fs : List Frame). AreNested 0 fs (length c.frames.stack.positions.items))
    c.in-Some.ensures.items c.frames.invariant.0) in
    record { is_scope = record { order = nested.1; within = nested.2 }; below = nested.0 }

pub frames-smaller : goal.frames-smaller
frames-smaller c =
    let w = definitions c.args.world in
    let cost = ap (frames_cost w) c.in-Some.ensures.items
    ∙ cost_more w c.pop.new.self.items c.in-Some.frame in
    omega (arith, cost, c.in_ok-run_first.ensures.cost)

pub frames-preserved : goal.frames-preserved
frames-preserved c = (
  c.in_ok-run_first.ensures.nested,
  c.in_ok-run_first.ensures.leads
      ∙ sym (last_first (definitions c.args.world) c.frames.stack c.pop.new.self.items
      c.in-Some.frame
      (run_state c.args.world c.frames.state) c.in-Some.ensures.items) ∙ c.frames.invariant.1,
)

pub returns-in_err-run_first : goal.returns-in_err-run_first
returns-in_err-run_first c =
    let w = definitions c.args.world in
    let p = err_from_is_err_and c.from_residual-in_err-run_first.result
    c.from_residual-in_err-run_first.ensures.1 in
    let whole =
    sym (last_first w c.frames.stack c.pop.new.self.items c.in-Some.frame
    (run_state c.args.world c.frames.state) c.in-Some.ensures.items)
    ∙ c.frames.invariant.1 ∙ c.in_ok-push.ensures.left w (run_state c.args.world c.args.state.now)
    in
    let start = start_runs w (record {
      frames = c.in_ok-bodies.bodies;
      positions = c.args.positions;
    })
    c.len.result (length c.args.world.macros.now) c.args.action.now
    (run_state c.args.world c.args.state.now) c.in_ok-bodies.ensures
    (c.len.ensures ∙ c.args.positions.ok.0) in
    rw (p.1, p.2) (subst (λ (r : Ran RunState). Fails c.in_err-run_first.field-0.0 r) (whole ∙
    start)
    c.in_err-run_first.ensures.leads)
