use Rattle.std.proofs.Common.{arith, ◌≡◌, ◌∙◌, ◌+◌, ◌-◌, ◌≤◌, length, ap, sym, drop, length-drop}
use Rattle.ap_stream.specs.Steps.{bytes_of}
use Rattle.ap_stream.proofs.StepLaws.{bytes_kept}
use Rattle.ap_stream.proofs.queue.Queue.forget.Goals as goal
use Rattle.ap_stream.proofs.queue.Queue.forget.Goals.{After-size_of_front}

kept : (c : After-size_of_front) → (c.size_of_front.result ≤ c.self.inside.bytes)
    × (c.self.inside.bytes - c.size_of_front.result
    ≡ bytes_of (drop (c.self.inside.from + c.args.count) c.self.inside.items.items))
kept c =
    let e : c.as_slice.result.now ≡ drop c.self.inside.from c.self.inside.items.items = cc in
    bytes_kept c.self.inside.items.items c.as_slice.result.now c.self.inside.from c.args.count
    c.self.inside.bytes c.size_of_front.result e c.self.invariant.1 c.size_of_front.ensures

pub overflow_sub-self : goal.overflow_sub-self
overflow_sub-self c = (kept c).0

pub invariant_of-self : goal.invariant_of-self
invariant_of-self c = (
  omega arith,
  (kept (goal.at.invariant_of-self c).After-size_of_front).1
      ∙ ap bytes_of (sym c.let_go.ensures),
)

pub invariant_of-self-else-is_worth_moving : goal.invariant_of-self-else-is_worth_moving
invariant_of-self-else-is_worth_moving c =
    let d = length-drop c.self.inside.from c.self.inside.items.items in
    let r : c.args.count ≤ length c.args.self.now = c.requires in
    let v = ap length c.self.view_is in (
      omega (arith, d, r, v, c.self.invariant.0),
      (kept (goal.at.invariant_of-self-else-is_worth_moving c).After-size_of_front).1,
    )
