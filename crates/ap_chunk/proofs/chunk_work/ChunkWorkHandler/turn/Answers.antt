use Rattle.std.proofs.Common.{refl, arith, ap, sym, ◌∙◌, ◌≡◌, ◌<◌, length, drop, ◌++◌, Ok}
use Rattle.ap_stream.specs.Limits.{span_max}
use Rattle.ap_stream.specs.Steps.{bytes_of}
use Rattle.ap_stream.proofs.StepLaws.{bytes_none}
use Rattle.ap_chunk.proofs.Turns.{over_silent, step_is, turned_limit, turned_overlong, turned_within, turned_wrote}
use Rattle.ap_chunk.proofs.chunk_work.ChunkWorkHandler.turn.Goals as goal

pub returns-then-is_finished-clause-over : goal.returns-then-is_finished-clause-over
returns-then-is_finished-clause-over c = λ _.
    let none : length c.args.self.now.items ≡ 0 =
    omega (arith, c.held_count.ensures, c.if-held_count-eq0.true) in (
      refl,
      refl,
      sym c.is_finished.ensures
          ∙ c.if-is_finished.true,
      none,
      bytes_none c.args.self.now.items none,
      over_silent
          c.args.self.now.rules c.args.self.now.vars c.args.self.now.items none,
    )

pub returns-then-held_bytes-clause-limit : goal.returns-then-held_bytes-clause-limit
returns-then-held_bytes-clause-limit c = λ other xs last.
    let some : 0 < length c.args.self.now.items =
    omega (arith, c.held_count.ensures, c.if-held_count-eq0.false) in
    let bytes = ap bytes_of c.in-Ok-None.ensures.items in
    let long : span_max < bytes_of c.args.self.now.items =
    omega (arith, bytes, c.held_bytes.ensures, c.if-held_bytes.true) in
    turned_overlong c.args.self.now c.args.self.now.vars some c.first_place-place.result
    c.first_place-place.ensures (c.in-Ok-None.ensures.grows (ap Ok c.in-Ok-None.field-0-is))
    long xs

pub returns-in-Ok-Some-Stops-clause-limit : goal.returns-in-Ok-Some-Stops-clause-limit
returns-in-Ok-Some-Stops-clause-limit c = λ other xs last.
    let some : 0 < length c.args.self.now.items =
    omega (arith, c.held_count.ensures, c.if-held_count-eq0.false) in
    turned_limit c.args.self.now c.next.new.self.vars some c.in-Ok-Some-Stops.kind
    c.first_place-place.result c.first_place-place.ensures
    (step_is c.args.self.now c.next.new.self.vars c.in-Ok-Some-Stops.field-0
    c.in-Ok-Some-Stops.field-0-0 _ c.in-Ok-Some-Stops.field-0-is c.in-Ok-Some-Stops.field-0-0-is
    c.in-Ok-Some-Stops.ensures.step) xs last

pub forget-requires : goal.forget-requires
forget-requires c =
    let some : 0 < length c.args.self.now.items =
    omega (arith, c.held_count.ensures, c.if-held_count-eq0.false) in
    let w = turned_within c.args.self.now c.next.new.self.vars some c.in-Ok-Some-Gives.count
    c.in-Ok-Some-Gives.text c.know.ensures
    (step_is c.args.self.now c.next.new.self.vars c.in-Ok-Some-Gives.field-0
    c.in-Ok-Some-Gives.field-0-0 _ c.in-Ok-Some-Gives.field-0-is c.in-Ok-Some-Gives.field-0-0-is
    c.in-Ok-Some-Gives.ensures.step) in
    let e = ap length c.in-Ok-Some-Gives.ensures.items in
    omega (arith, w, e)

pub returns-in-Ok-clause-wrote : goal.returns-in-Ok-clause-wrote
returns-in-Ok-clause-wrote c = λ _.
    let some : 0 < length c.args.self.now.items =
    omega (arith, c.held_count.ensures, c.if-held_count-eq0.false) in
    let is = c.in-Ok-Some-Gives.ensures in
    turned_wrote c.args.self.now c.next.new.self.vars some c.in-Ok-Some-Gives.count
    c.in-Ok-Some-Gives.text c.know.ensures
    (step_is c.args.self.now c.next.new.self.vars c.in-Ok-Some-Gives.field-0
    c.in-Ok-Some-Gives.field-0-0 _ c.in-Ok-Some-Gives.field-0-is c.in-Ok-Some-Gives.field-0-0-is
    is.step)
    c.forget.new.self c.args.into.now c.extend.new.self
    (c.forget.ensures.items ∙ ap (drop c.in-Ok-Some-Gives.count) is.items)
    (c.forget.ensures.rules ∙ is.rules)
    c.forget.ensures.vars
    (c.forget.ensures.finished ∙ is.finished)
    (c.in-Ok.ensures.ok ∙ ap (λ text. c.args.into.now ++ text) c.as_slice.ensures)
