use Rattle.std.proofs.Common.{refl}
use Rattle.ap_live.specs.declared.walked.Walked.{Walked}
use Rattle.ap_live.proofs.Walks.{note_added}
use Rattle.ap_live.proofs.walked.Walked.note.Goals as goal

pub returns : goal.returns
returns c =
    let new : Walked =
    record {
      recent = c.add.new.self;
      earlier = c.make_room.new.self.earlier;
      passed = c.make_room.new.self.passed;
      last = c.max-self.result;
    } in
    note_added c.args.place c.in-Some.place c.args.ahead c.in-Some-met.met c.args.lives.now
    c.args.self.now c.make_room.new.self new c.in-Some.ensures.1 c.in-Some-met.ensures
    c.make_room.ensures.kept c.make_room.ensures.passed c.add.ensures refl refl
