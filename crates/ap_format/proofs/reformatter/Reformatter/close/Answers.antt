use Rattle.std.proofs.Common.{ap, arith, length, length-append, refl, sym, ◌∙◌, Ok}
use Rattle.ap_stream.specs.Reading.{IsRead}
use Rattle.ap_stream.specs.declared.dialect.Dialect.TheVariants.{Generated}
use Rattle.ap_format.specs.Giving.{Unread}
use Rattle.ap_format.specs.Reformatted.{bare_item}
use Rattle.ap_format.proofs.RetTurns.{bare_fits}
use Rattle.ap_format.proofs.Taken.{closes_item, closes_none, not_memory, over_end, stops_end, stops_now}
use Rattle.ap_format.proofs.reformatter.Reformatter.close.Goals as goal
use Rattle.ap_format.proofs.reformatter.Reformatter.close.Goals.{Joined-read}

-- the item that was read
is_read : (c : Joined-read) → IsRead Generated c.in-Ok-Some.read
is_read c = rw (c.in-Ok-Some.field-0-is, c.self.invariant.0) at c.in-Ok-Some.ensures.item

pub returns-in-Some-clause-stops : goal.returns-in-Some-clause-stops
returns-in-Some-clause-stops c = λ _. (
  refl,
  stops_now c.args.self.now c.in-Some.fault c.requires.sound
      (ap (λ (u : Unread). u.stop) (sym c.self.view_is) ∙ c.in-Some.is),
)

pub returns-in-Ok-None-clause-closes : goal.returns-in-Ok-None-clause-closes
returns-in-Ok-None-clause-closes c =
    rw (← c.self.view_is)
    (closes_none c.self.inside.passed c.self.inside.reader c.end.new.self c.self.inside.stop
    c.self.inside.stop c.self.invariant.0 c.end.ensures.dialect _
    (rw c.in-Ok-None.field-0-is at c.in-Ok-None.ensures.given))

pub returns-in-Ok-None-clause-over : goal.returns-in-Ok-None-clause-over
returns-in-Ok-None-clause-over c = λ _.
    over_end c.self.inside.passed c.self.inside.reader c.end.new.self c.self.invariant.0
    c.end.ensures.dialect
    (c.end.ensures.over (c.in-Ok-None.is ∙ ap Ok c.in-Ok-None.field-0-is)).1

pub returns-in-Ok-clause-closes : goal.returns-in-Ok-clause-closes
returns-in-Ok-clause-closes c =
    rw (← c.self.view_is)
    (closes_item c.self.inside.passed c.self.inside.reader c.end.new.self c.self.inside.stop
    c.self.inside.stop c.self.invariant.0 c.end.ensures.dialect _ _ c.in-Ok-Some.read
    (rw c.in-Ok-Some.field-0-is at c.in-Ok-Some.ensures.given) c.in-Ok.ensures.ok
    (is_read c).some)

pub returns-in-Ok-clause-short : goal.returns-in-Ok-clause-short
returns-in-Ok-clause-short c =
    let size = ap length c.in-Ok.ensures.ok
    ∙ length-append c.args.out.now (bare_item c.in-Ok-Some.read.item) in
    let fits = bare_fits c.in-Ok-Some.read (is_read c) in
    omega (arith, size, fits)

pub returns-clause-stops : goal.returns-clause-stops
returns-clause-stops c = λ differs.
    let shown = c.in-Err.ensures.shown (c.self.invariant.1 c.in-None.is)
    (not_memory c.self.inside.passed c.in-Err.fault (rw c.moved-fault.ensures at differs)) in (
      refl,
      rw (← c.self.view_is, c.moved-fault.ensures)
          (stops_end c.self.inside.passed c.self.inside.reader c.end.new.self c.in-Err.fault
          c.self.invariant.0 c.end.ensures.dialect shown.0 shown.1 shown.2),
    )
