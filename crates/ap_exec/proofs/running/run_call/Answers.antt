use Rattle.std.proofs.Common.{◌≡◌, refl, ◌∙◌, ◌++◌, ap, sym, arith, List, ℕ, take, length}
use Rattle.ap_exec.specs.Results.{Ran, ◌>>=◌}
use Rattle.ap_exec.specs.Running.{RunState, places_of}
use Rattle.ap_exec.specs.Stacks.{unwound, positions_within}
use Rattle.ap_exec.specs.States.{definitions}
use Rattle.ap_exec.proofs.Stacking.{macros_past, nested_higher, behind_reaches, call_leads, call_costs}
use Rattle.ap_exec.proofs.running.run_call.Goals as goal

pub returns-then-held-scope-clause-left : goal.returns-then-held-scope-clause-left
returns-then-held-scope-clause-left c = λ s.
    let w = definitions c.args.world in
    sym (ap (λ (r : Ran RunState). r >>= unwound w c.args.stack.now.positions.items
    c.args.stack.now.frames.items)
    (macros_past w c.args.scope.visible c.args.held.now.n
    (places_of (positions_within c.args.stack.now.positions.items c.args.scope)
    c.args.held.now.params.items) s c.if-held-scope.true))

pub returns-then-held-scope-clause-nested : goal.returns-then-held-scope-clause-nested
returns-then-held-scope-clause-nested c =
    nested_higher 0 c.args.stack.now.frames.items c.args.scope.to _ c.requires.is_scope.within
    c.requires.below

pub push-requires : goal.push-requires
push-requires c =
    let behind = c.in_ok-push_places.ensures in
    let count : c.len.result ≡ length c.push_places.new.positions.items =
    c.len.ensures ∙ c.push_places.new.positions.ok.0 in
    let reach = behind_reaches (definitions c.args.world) c.args.stack.now.positions.items
    c.push_places.new.positions.items _ c.args.stack.now.frames.items c.args.scope
    c.args.held.now.n c.len.result c.body_at.result.now c.requires.is_scope.within
    c.requires.below behind count in
    record {
      is_scope = record { order = reach; within = omega (arith, count) };
      below = nested_higher 0 c.args.stack.now.frames.items c.args.scope.to c.len.result reach
          c.requires.below;
    }

pub returns-clause-left : goal.returns-clause-left
returns-clause-left c = λ s.
    let w = definitions c.args.world in
    let count : c.len.result ≡ length c.push_places.new.positions.items =
    c.len.ensures ∙ c.push_places.new.positions.ok.0 in
    let positions = positions_within c.args.stack.now.positions.items c.args.scope in
    c.in_ok-push.ensures.left w s
    ∙ call_leads w c.args.stack.now.positions.items c.push_places.new.positions.items
    (places_of positions c.args.held.now.params.items) c.args.stack.now.frames.items c.args.scope
    c.args.held.now.n c.len.result c.body_at.result.now c.requires.is_scope.within
    c.requires.below
    (c.in_ok-push_places.ensures
    ∙ ap (λ (ps : List ℕ). take c.args.scope.to c.args.stack.now.positions.items
    ++ places_of positions ps) c.deref.ensures.value) count c.if-held-scope.false
    (c.body_at.ensures w refl) s

pub returns-clause-cost : goal.returns-clause-cost
returns-clause-cost c =
    let w = definitions c.args.world in
    let count : c.len.result ≡ length c.push_places.new.positions.items =
    c.len.ensures ∙ c.push_places.new.positions.ok.0 in
    let cost = call_costs w c.args.stack.now.positions.items c.push_places.new.positions.items _
    c.args.stack.now.frames.items c.args.scope c.args.held.now.n c.len.result
    c.body_at.result.now c.requires.is_scope.within c.requires.below
    c.in_ok-push_places.ensures count c.if-held-scope.false (c.body_at.ensures w refl) in
    omega (arith, cost, c.in_ok-push.ensures.cost w)
