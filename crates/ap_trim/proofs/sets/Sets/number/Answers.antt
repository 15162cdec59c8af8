use Rattle.std.proofs.Common.{inl, refl}
use Rattle.ap_det.proofs.Numberings.{found, inserted}
use Rattle.ap_trim.proofs.sets.Sets.number.Goals as goal

pub returns-in-Some : goal.returns-in-Some
returns-in-Some c = rw (← c.self.view_is)
    (record {
      at = found c.self.inside.sets.keys c.args.set.now c.in-Some.number
          c.in-Some.ensures.index;
      grew = inl refl;
    })

pub returns : goal.returns
returns c =
    let s = c.in_ok-number.ensures.stored in
    rw (← c.self.view_is) (inserted c.self.inside.sets.keys c.insert_full.new.self.keys
    c.in_ok-owned.owned c.args.set.now c.in_ok-number.number c.in_ok-owned.ensures.items
    c.in_ok-number.ensures.keys c.in_ok-number.ensures.index s.0 s.1 s.2)
