use Rattle.std.proofs.Common.{refl}
use Rattle.ap_live.specs.declared.notes.Note.{Note}
use Rattle.ap_live.proofs.Walks.{last_given}
use Rattle.ap_live.proofs.notes.Notes.add.Goals as goal

pub returns : goal.returns
returns c =
    let last : Note =
    record {
      place = c.args.place;
      ahead = c.args.ahead;
      met = c.args.met;
      before = c.chain-before.result;
    } in
    rw c.count_last.ensures (last_given c.args.place c.args.ahead c.args.met c.args.self.now
    c.self.inside.list.items c.add_note.new.list.items last c.self.view_is
    (c.add_note.ensures.added c.if-not-add_note.false)
    (record { place_is = refl; ahead_is = refl; met_is = refl }))
