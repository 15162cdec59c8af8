use Rattle.std.proofs.Common.{refl}
use Rattle.ap_format.proofs.Moving.{stops_bad, stops_long}
use Rattle.ap_format.proofs.cutter.Cutter.take.Goals as goal

pub returns-in-NotChar-clause-stops : goal.returns-in-NotChar-clause-stops
returns-in-NotChar-clause-stops c = λ _.
    let held = rw c.in-NotChar.is at c.self.invariant in
    rw (← c.self.view_is) (refl, refl, stops_bad _ held.0 held.1)

pub returns-in-TooLong-clause-stops : goal.returns-in-TooLong-clause-stops
returns-in-TooLong-clause-stops c = λ _.
    let held = rw c.in-TooLong.is at c.self.invariant in
    rw (← c.self.view_is) (refl, refl, stops_long _ held.0 held.1)
