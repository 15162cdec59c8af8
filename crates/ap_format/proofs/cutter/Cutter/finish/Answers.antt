use Rattle.std.proofs.Common.{◌≡◌, arith, [], sym, refl, append-nil}
use Rattle.ap_format.proofs.Moving.{ends_none, ends_closed, ends_part, ends_stop, stops_bad, stops_long}
use Rattle.ap_format.proofs.cutter.Cutter.finish.Goals as goal

pub returns-in-Nothing-clause-ends : goal.returns-in-Nothing-clause-ends
returns-in-Nothing-clause-ends c =
    let none : c.self.inside.held.items ≡ [] = rw c.in-Nothing.is at c.self.invariant in
    rw (← c.self.view_is) (
      [],
      sym (append-nil c.args.out.now),
      omega arith,
      none,
      λ _. refl,
      ends_none c.self.inside.place c.self.inside.held.items none,
    )

pub returns-in-Ok-clause-ends : goal.returns-in-Ok-clause-ends
returns-in-Ok-clause-ends c =
    let held = rw c.in-White.is at c.self.invariant in
    ends_closed _ _ _ _ c.in-Ok.ensures.closes (rw (← c.self.view_is) held.1)

pub returns-in-Character-clause-stops : goal.returns-in-Character-clause-stops
returns-in-Character-clause-stops c = λ _.
    let held = rw c.in-Character.is at c.self.invariant in
    rw (← c.self.view_is) (
      refl,
      refl,
      ends_part c.self.inside.place c.self.inside.held.items held.0 held.1,
    )

pub returns-in-NotChar-clause-stops : goal.returns-in-NotChar-clause-stops
returns-in-NotChar-clause-stops c = λ _.
    let held = rw c.in-NotChar.is at c.self.invariant in
    rw (← c.self.view_is) (refl, refl, ends_stop _ _ (stops_bad _ held.0 held.1))

pub returns-in-TooLong-clause-stops : goal.returns-in-TooLong-clause-stops
returns-in-TooLong-clause-stops c = λ _.
    let held = rw c.in-TooLong.is at c.self.invariant in
    rw (← c.self.view_is) (refl, refl, ends_stop _ _ (stops_long _ held.0 held.1))
