use Rattle.std.proofs.Common.{arith, ◌≡◌, ◌∙◌, length, ap, sym, drop, ◌++◌, ◌∷◌, []}
use Rattle.std.proofs.lemmas.List.{length-append}
use Rattle.ap_stream.specs.Steps.{bytes_of}
use Rattle.ap_stream.proofs.StepLaws.{bytes_pushed}
use Rattle.ap_stream.proofs.queue.Queue.push.Goals as goal

pub invariant_of-self-2 : goal.invariant_of-self-2
invariant_of-self-2 c =
    let e : c.push.new.self.items ≡ c.self.inside.items.items ++ c.args.read ∷ [] =
    c.in_ok-push.ensures.items in
    let l = ap length e ∙ length-append c.self.inside.items.items (c.args.read ∷ []) in
    let b = bytes_pushed c.self.inside.items.items c.self.inside.from c.self.inside.bytes
    c.args.read c.self.invariant.0 c.self.invariant.1 in (
      omega (arith, l, c.self.invariant.0),
      b
          ∙ ap (λ items. bytes_of (drop c.self.inside.from items)) (sym e),
    )
