use Rattle.std.proofs.Common.{arith, ap, ◌≡◌, ◌<◌, Ok}
use Rattle.ap_stream.proofs.copying.give_front.Goals as goal

pub returns-clause-wrote : goal.returns-clause-wrote
returns-clause-wrote g c = λ some.
    let more : 0 < c.unit_size-size.result = let z = c.if-size-eq0.false in omega (arith, z) in
    let zero : c.in_ok-kept.kept ≡ 0 = let z = c.if-kept-gt0.false in omega (arith, z) in
    let none = c.in_ok-kept.ensures.none zero in
    let is = c.unit_size-size.ensures.unit more in
    let made = c.in_ok-unit.ensures.wrote (ap Ok c.if-not-branch.false) in
    record {
      words = is.0;
      unit = is.1;
      given = made.0;
      is = rw none at made.1;
      gives = rw (c.in_ok-kept.ensures.same, c.requires.dialect) at made.2;
    }
