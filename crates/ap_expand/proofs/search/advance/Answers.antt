use Rattle.std.proofs.Common.{refl, arith, ◌≡◌, ◌≤◌, length, reverse, subst}
use Rattle.std.proofs.lemmas.List.{length-reverse}
use Rattle.ap_dix.specs.declared.dictionary.EntryPart.{EntryPart}
use Rattle.ap_dix.specs.declared.dictionary.EntryPart.TheVariants.{Paradigm}
use Rattle.std.specs.Prelude.{List, ◌∷◌}
use Rattle.ap_expand.specs.Walks.{SameSteps}
use Rattle.ap_expand.specs.declared.frame.Frame.{Frame}
use Rattle.ap_expand.proofs.Entering.{met-steps}
use Rattle.ap_expand.proofs.search.advance.Goals as goal

pub returns-in-Some-clause-advanced : goal.returns-in-Some-clause-advanced
returns-in-Some-clause-advanced c = λ uses.
    let frame : Frame = record {
      entries = c.entries_of.result;
      rest = c.in-Some.met.rest;
      parent =
          c.in-Some.met.parent;
      left_len = c.len.result;
      right_len = c.len-in-Some.result;
      lr =
          c.args.lr;
      rl = c.args.rl;
    } in
    let comes = rw c.in-Some.is at c.in_ok-met.ensures.comes in
    let steps : SameSteps (reverse c.args.frames.now) c.as_slice.result.now
    (length c.args.frames.now) c.args.left.now.items c.args.right.now.items
    (Paradigm c.in-Some.met.number ∷ c.in-Some.met.rest.now) c.in-Some.met.parent
    c.walk.new.left.items c.walk.new.right.items = comes.1 in
    let steps_of : SameSteps (reverse c.args.frames.now) c.args.entry.now.parts
    (length c.args.frames.now) c.args.left.now.items c.args.right.now.items
    (Paradigm c.in-Some.met.number ∷ c.in-Some.met.rest.now) c.in-Some.met.parent
    c.walk.new.left.items c.walk.new.right.items =
    subst (λ (ps : List EntryPart). SameSteps (reverse c.args.frames.now) ps
    (length c.args.frames.now) c.args.left.now.items c.args.right.now.items
    (Paradigm c.in-Some.met.number ∷ c.in-Some.met.rest.now) c.in-Some.met.parent
    c.walk.new.left.items c.walk.new.right.items) c.as_slice.ensures steps
    in
    let lower : c.in-Some.met.parent ≤ length (reverse c.args.frames.now) = comes.0 in
    let left_is : c.len.result ≡ length c.walk.new.left.items = omega arith in
    let right_is : c.len-in-Some.result ≡ length c.walk.new.right.items = omega arith in (
      met-steps uses c.args.pardefs.now (reverse c.args.frames.now) c.args.entry.now.parts
          (length c.args.frames.now) c.args.left.now.items c.args.right.now.items
          c.walk.new.left.items c.walk.new.right.items c.args.lr c.args.rl c.in-Some.met.number
          frame c.requires.sound steps_of c.entries_of.ensures left_is right_is refl refl,
      omega (arith, length-reverse c.args.frames.now),
      left_is,
      right_is,
      c.requires.empty,
    )
