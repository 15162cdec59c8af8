use Rattle.std.proofs.Common.{refl, sym, ◌-◌}
use Rattle.ap_fst.proofs.Listing.{in_from_place}
use Rattle.ap_live.proofs.notes.Notes.find.Goals as goal

pub returns-then-is_same : goal.returns-then-is_same
returns-then-is_same c = record {
  note = c.in-Some.note.now;
  listed = in_from_place c.args.self.now (c.loop.at - 1) c.in-Some.note.now
      (sym c.in-Some.ensures);
  place_is = c.if-note-place.true;
  ahead_is = refl;
  same = c.is_same.ensures c.if-is_same.true;
}
