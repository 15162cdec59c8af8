use Rattle.std.proofs.Common.{◌≡◌, ◌+◌, ◌-◌, ap, Some, arith, take, drop, ◌∙◌}
use Rattle.ap_outside.proofs.Pieces.{piece-rest}
use Rattle.ap_outside.proofs.mem_source.MemSourceSource.take.Goals as goal

pub returns-clause-taken : goal.returns-clause-taken
returns-clause-taken c =
    let same : (c.args.self.now.at + c.min-count.result) - c.args.self.now.at ≡ c.min-count.result =
    omega arith in
    ap Some (piece-rest c.args.self.now.bytes.items c.copy_from_slice.new.self _ c.args.self.now.at
    c.min-count.result
    (c.copy_from_slice.ensures.after
    ∙ ap (λ k. take k (drop c.args.self.now.at c.deref-2.result.now)) same
    ∙ ap (λ xs. take c.min-count.result (drop c.args.self.now.at xs)) c.deref-2.ensures.value)
    (omega arith))
