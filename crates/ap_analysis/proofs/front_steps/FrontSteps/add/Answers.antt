use Rattle.std.proofs.Common.{arith, refl, inl, inr, length}
use Rattle.ap_analysis.specs.FrontSteps.{step_of}
use Rattle.ap_analysis.proofs.FrontFits.{space_copied, all_grown, all_marked, appended}
use Rattle.ap_analysis.proofs.front_steps.FrontSteps.add.Goals as goal

pub returns-in_err-extend_from_slice : goal.returns-in_err-extend_from_slice
returns-in_err-extend_from_slice c = λ lexicon sensitive is all.
    let room = c.make_room.ensures lexicon sensitive all in
    record {
      each = all_grown c.extend_from_slice.result lexicon sensitive
          c.make_room.new.self.bytes.items c.args.key.now c.extend_from_slice.new.self.items
          c.make_room.new.self.marks.items c.extend_from_slice.ensures.items room.each;
      spaces = room.spaces;
    }

pub returns-in_err-extend_from_slice-2 : goal.returns-in_err-extend_from_slice-2
returns-in_err-extend_from_slice-2 c = λ lexicon sensitive is all.
    let room = c.make_room.ensures lexicon sensitive all in
    record {
      each = all_grown c.extend_from_slice-2.result lexicon sensitive
          c.extend_from_slice.new.self.items c.args.text.now c.extend_from_slice-2.new.self.items
          c.make_room.new.self.marks.items c.extend_from_slice-2.ensures.items
          (all_grown c.extend_from_slice.result lexicon sensitive
          c.make_room.new.self.bytes.items c.args.key.now c.extend_from_slice.new.self.items
          c.make_room.new.self.marks.items c.extend_from_slice.ensures.items room.each);
      spaces = room.spaces;
    }

pub returns-then-held-ge-STEPS_MAX : goal.returns-then-held-ge-STEPS_MAX
returns-then-held-ge-STEPS_MAX c = λ lexicon sensitive is all.
    c.make_room.ensures lexicon sensitive all

pub returns-in_err-push : goal.returns-in_err-push
returns-in_err-push c = λ lexicon sensitive is all.
    let room = c.make_room.ensures lexicon sensitive all in
    record {
      each = all_marked c.push.result lexicon sensitive c.make_room.new.self.bytes.items
          c.args.key.now c.args.text.now c.extend_from_slice.new.self.items
          c.extend_from_slice-2.new.self.items c.make_room.new.self.marks.items
          c.push.new.self.items
          (record {
            first = c.len-first.result;
            size = length c.args.key.now;
            wrote = length c.args.text.now;
            count = c.args.count;
            any_ending = c.args.any_ending;
          })
          (appended c.extend_from_slice.result c.in_ok-extend_from_slice.field-0
          c.make_room.new.self.bytes.items c.args.key.now c.extend_from_slice.new.self.items
          c.in_ok-extend_from_slice.was c.extend_from_slice.ensures.items)
          (appended c.extend_from_slice-2.result c.in_ok-extend_from_slice-2.field-0
          c.extend_from_slice.new.self.items c.args.text.now c.extend_from_slice-2.new.self.items
          c.in_ok-extend_from_slice-2.was c.extend_from_slice-2.ensures.items)
          c.push.ensures.items (omega (arith, c.len-first.ensures)) refl refl is room.each;
      spaces = room.spaces;
    }

pub returns : goal.returns
returns c = λ lexicon sensitive is all.
    let room = c.make_room.ensures lexicon sensitive all in
    record {
      each = all_marked c.push.result lexicon sensitive c.make_room.new.self.bytes.items
          c.args.key.now c.args.text.now c.extend_from_slice.new.self.items
          c.extend_from_slice-2.new.self.items c.make_room.new.self.marks.items
          c.push.new.self.items
          (record {
            first = c.len-first.result;
            size = length c.args.key.now;
            wrote = length c.args.text.now;
            count = c.args.count;
            any_ending = c.args.any_ending;
          })
          (appended c.extend_from_slice.result c.in_ok-extend_from_slice.field-0
          c.make_room.new.self.bytes.items c.args.key.now c.extend_from_slice.new.self.items
          c.in_ok-extend_from_slice.was c.extend_from_slice.ensures.items)
          (appended c.extend_from_slice-2.result c.in_ok-extend_from_slice-2.field-0
          c.extend_from_slice.new.self.items c.args.text.now c.extend_from_slice-2.new.self.items
          c.in_ok-extend_from_slice-2.was c.extend_from_slice-2.ensures.items)
          c.push.ensures.items (omega (arith, c.len-first.ensures)) refl refl is room.each;
      spaces = λ e. elim (c.knows_space-spaces.ensures e) [
        | inl before ↦ room.spaces before
        | inr space ↦ space_copied lexicon sensitive
            (step_of c.args.key.now c.args.text.now c.args.count c.args.any_ending) space is
      ];
    }
