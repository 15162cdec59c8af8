use Rattle.std.proofs.Common.{refl, arith, ap, sym, ◌∙◌, ◌≡◌, ◌<◌, length, drop, ◌++◌, Ok, false}
use Rattle.ap_stream.specs.Limits.{span_max}
use Rattle.ap_stream.specs.Steps.{bytes_of}
use Rattle.ap_live.specs.Lexicon.{lexicon_of}
use Rattle.ap_lookup.specs.PostGenerating.{begins_alarm}
use Rattle.ap_lookup.specs.PostWorks.{Posting}
use Rattle.ap_stream.proofs.StepLaws.{bytes_none}
use Rattle.ap_lookup.proofs.PostTurns.{over_silent, step_is, turned_bare, turned_limit, turned_overlong, turned_within, turned_wrote}
use Rattle.ap_lookup.proofs.post_generation_work.PostGenerationWorkHandler.turn.Goals as goal

pub returns-then-is_finished-clause-over : goal.returns-then-is_finished-clause-over
returns-then-is_finished-clause-over c = λ _.
    let none : length c.args.self.now.items ≡ 0 =
    omega (arith, c.held_count.ensures, c.if-held_count-eq0.true) in (
      refl,
      refl,
      sym c.is_finished.ensures ∙ c.if-is_finished.true,
      none,
      bytes_none c.args.self.now.items none,
      over_silent (lexicon_of c.args.self.now.compiled c.args.self.now.sensitive)
          c.args.self.now.sensitive c.args.self.now.items none,
    )

pub returns-then-held_bytes-clause-limit : goal.returns-then-held_bytes-clause-limit
returns-then-held_bytes-clause-limit c = λ other xs last.
    let some : 0 < length c.args.self.now.items =
    omega (arith, c.held_count.ensures, c.if-held_count-eq0.false) in
    let bytes = ap (λ (h : Posting). bytes_of h.items) c.in-Ok-None.ensures.same in
    let long : span_max < bytes_of c.args.self.now.items =
    omega (arith, bytes, c.held_bytes.ensures, c.if-held_bytes.true) in
    let waits = c.in-Ok-None.ensures.waits (ap Ok c.in-Ok-None.field-0-is) in
    turned_overlong c.args.self.now c.in-Ok-None.ensures.coherent some c.first_place-place.result
    c.first_place-place.ensures waits.1 long xs

pub returns-in-Ok-Some-Stops-clause-limit : goal.returns-in-Ok-Some-Stops-clause-limit
returns-in-Ok-Some-Stops-clause-limit c = λ other xs last.
    let some : 0 < length c.args.self.now.items =
    omega (arith, c.held_count.ensures, c.if-held_count-eq0.false) in
    turned_limit c.args.self.now c.in-Ok-Some-Stops.ensures.coherent some c.in-Ok-Some-Stops.kind
    c.first_place-place.result c.first_place-place.ensures
    (step_is c.args.self.now c.in-Ok-Some-Stops.field-0 c.in-Ok-Some-Stops.field-0-0 _
    c.in-Ok-Some-Stops.field-0-is c.in-Ok-Some-Stops.field-0-0-is
    c.in-Ok-Some-Stops.ensures.step) xs last

pub forget-requires : goal.forget-requires
forget-requires c =
    let some : 0 < length c.args.self.now.items =
    omega (arith, c.held_count.ensures, c.if-held_count-eq0.false) in
    let w = turned_within c.args.self.now c.in-Ok-Some-Gives.ensures.coherent some
    c.in-Ok-Some-Gives.count c.in-Ok-Some-Gives.text c.in-Ok-Some-Gives.ensures.items
    (step_is c.args.self.now c.in-Ok-Some-Gives.field-0 c.in-Ok-Some-Gives.field-0-0 _
    c.in-Ok-Some-Gives.field-0-is c.in-Ok-Some-Gives.field-0-0-is
    c.in-Ok-Some-Gives.ensures.step) in
    let e = ap (λ (h : Posting). length h.items) c.in-Ok-Some-Gives.ensures.same in
    omega (arith, w, e)

pub returns-in-Ok-extend-clause-wrote : goal.returns-in-Ok-extend-clause-wrote
returns-in-Ok-extend-clause-wrote c = λ _.
    let some : 0 < length c.args.self.now.items =
    omega (arith, c.held_count.ensures, c.if-held_count-eq0.false) in
    let same = c.in-Ok-Some-Gives.ensures.same in
    turned_wrote c.args.self.now c.in-Ok-Some-Gives.ensures.coherent some c.in-Ok-Some-Gives.count
    c.in-Ok-Some-Gives.text c.in-Ok-Some-Gives.ensures.items
    (step_is c.args.self.now c.in-Ok-Some-Gives.field-0 c.in-Ok-Some-Gives.field-0-0 _
    c.in-Ok-Some-Gives.field-0-is c.in-Ok-Some-Gives.field-0-0-is
    c.in-Ok-Some-Gives.ensures.step)
    c.forget.new.self c.args.into.now c.extend.new.self
    (c.forget.ensures.items ∙ ap (λ (h : Posting). drop c.in-Ok-Some-Gives.count h.items) same)
    (c.forget.ensures.compiled ∙ ap (λ (h : Posting). h.compiled) same)
    (c.forget.ensures.sensitive ∙ ap (λ (h : Posting). h.sensitive) same)
    (c.forget.ensures.finished ∙ ap (λ (h : Posting). h.finished) same)
    (c.in-Ok-extend.ensures.ok ∙ ap (λ text. c.args.into.now ++ text) c.as_slice.ensures)

pub returns-in-Ok-clause-wrote : goal.returns-in-Ok-clause-wrote
returns-in-Ok-clause-wrote c = λ _.
    let some : 0 < length c.args.self.now.items =
    omega (arith, c.held_count.ensures, c.if-held_count-eq0.false) in
    let bare : begins_alarm c.args.self.now.items ≡ false = sym c.is_at_alarm.ensures
    ∙ c.if-not-is_at_alarm.true in
    let copied = c.in-Ok.ensures.copied in
    turned_wrote c.args.self.now c.in-Ok.ensures.coherent some 1 copied.0 c.in-Ok.ensures.items
    (turned_bare c.args.self.now copied.0 some bare copied.1)
    c.pass_on.new.self c.args.into.now c.pass_on.new.into c.in-Ok.ensures.left
    c.in-Ok.ensures.compiled c.in-Ok.ensures.sensitive c.in-Ok.ensures.finished copied.2
