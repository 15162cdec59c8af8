use Rattle.ap_chunk.specs.Parts.{parts_of}
use Rattle.ap_chunk.proofs.Fronts.{next_wall, next_gap, next_unit}
use Rattle.ap_chunk.proofs.Walks.{wall_end}
use Rattle.ap_chunk.proofs.search.Walk.step.Goals as goal

pub returns-in-Other-clause-ends : goal.returns-in-Other-clause-ends
returns-in-Other-clause-ends c = λ e.
    wall_end (parts_of c.args.rules.now c.args.reads.now) c.args.self.now c.requires.walk.walked
    (next_wall c.args.rules.now c.args.reads.now c.args.self.now.seen c.index-reads-self.result
    c.in_ok-look.field-0 c.look.new.room.row.items c.requires.more c.in_ok-look.ensures.kind
    c.in-Other.is)

pub returns-in-Blank-clause-on : goal.returns-in-Blank-clause-on
returns-in-Blank-clause-on c = λ e. c.step_blank.ensures.on (cc)
    (parts_of c.args.rules.now c.args.reads.now) c.requires.walk
    (next_gap c.args.rules.now c.args.reads.now c.args.self.now.seen c.index-reads-self.result
    c.in_ok-look.field-0 c.look.new.room.row.items c.requires.more c.in_ok-look.ensures.kind
    c.in-Blank.is)

pub returns-in-Blank-clause-ends : goal.returns-in-Blank-clause-ends
returns-in-Blank-clause-ends c = λ e. c.step_blank.ensures.ends (cc)
    (parts_of c.args.rules.now c.args.reads.now) c.requires.walk
    (next_gap c.args.rules.now c.args.reads.now c.args.self.now.seen c.index-reads-self.result
    c.in_ok-look.field-0 c.look.new.room.row.items c.requires.more c.in_ok-look.ensures.kind
    c.in-Blank.is)

pub returns-in-Unit-clause-on : goal.returns-in-Unit-clause-on
returns-in-Unit-clause-on c = λ e. c.step_unit.ensures.on e
    (parts_of c.args.rules.now c.args.reads.now) c.requires.walk
    (next_unit c.args.rules.now c.args.reads.now c.args.self.now.seen c.index-reads-self.result
    c.in_ok-look.field-0 c.look.new.room.row.items c.requires.more c.in_ok-look.ensures.kind
    c.as_slice.result.now c.as_slice.ensures.value c.in-Unit.is)

pub returns-in-Unit-clause-ends : goal.returns-in-Unit-clause-ends
returns-in-Unit-clause-ends c = λ e. c.step_unit.ensures.ends e
    (parts_of c.args.rules.now c.args.reads.now) c.requires.walk
    (next_unit c.args.rules.now c.args.reads.now c.args.self.now.seen c.index-reads-self.result
    c.in_ok-look.field-0 c.look.new.room.row.items c.requires.more c.in_ok-look.ensures.kind
    c.as_slice.result.now c.as_slice.ensures.value c.in-Unit.is)
