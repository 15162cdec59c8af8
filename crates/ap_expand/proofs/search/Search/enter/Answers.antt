use Rattle.std.proofs.Common.{arith, subst, ◌∙◌, sym, ap, ◌≡◌, ◌-◌, ◌++◌, ◌∷◌, [], reverse, length, take}
use Rattle.std.specs.Prelude.{None, List}
use Rattle.ap_expand.specs.Search.{sections_trace, pardefs_trace, written_step, stack_trace, IsStack}
use Rattle.ap_expand.specs.Walks.{way_of}
use Rattle.ap_expand.specs.Places.{Advanced}
use Rattle.ap_expand.specs.declared.search.Arrival.TheVariants.{Opened, Ended}
use Rattle.ap_expand.specs.declared.frame.Frame.{Frame}
use Rattle.ap_expand.proofs.Entering.{Enters, push-linked, opened-stack, opened, ended, with_entries}
use Rattle.ap_expand.proofs.search.Search.enter.Goals as goal

pub advance-requires-clause-linked : goal.advance-requires-clause-linked
advance-requires-clause-linked c =
    push-linked c.args.self.now.left.items c.args.self.now.right.items c.args.self.now.below.items
    c.as_slice.result.now c.args.self.now.top c.args.others c.requires.search.stack
    (c.as_slice.ensures.value ∙ c.in_ok-push.ensures.items)

pub returns-in-Ok-Opened-clause-search : goal.returns-in-Ok-Opened-clause-search
returns-in-Ok-Opened-clause-search c =
    let advanced : Advanced c.args.self.now.uses.items c.args.self.now.pardefs.now
    c.as_slice.result.now c.args.entry.now.parts
    (way_of c.truncate.new.self.items c.truncate-2.new.self.items c.uses_lr-lr.result
    c.uses_rl-rl.result) c.advance.new.left.items c.advance.new.right.items c.advance.new.line
    (Opened c.in-Ok-Opened.frame) =
    rw c.in-Ok-Opened.field-0-is at (c.in-Ok-Opened.ensures.advanced c.args.self.now.uses.items)
    in
    record {
      stack =
          subst (λ (fs : List Frame). IsStack c.advance.new.left.items c.advance.new.right.items
          (c.in-Ok-Opened.frame ∷ reverse fs)) c.as_slice.ensures.value
          (opened-stack c.args.self.now.left.items c.args.self.now.right.items
          c.args.self.now.below.items c.args.self.now.top c.args.others c.truncate.new.self.items
          c.truncate-2.new.self.items c.as_slice.result.now c.advance.new.left.items
          c.advance.new.right.items c.in-Ok-Opened.frame c.requires.search.stack
          c.truncate.ensures.items c.truncate-2.ensures.items
          (c.as_slice.ensures.value ∙ c.in_ok-push.ensures.items) c.in-Ok-Opened.ensures.left
          c.in-Ok-Opened.ensures.right advanced.1 advanced.2 advanced.3);
      sound = c.requires.search.sound;
    }

pub returns-in-Ok-Opened-clause-took : goal.returns-in-Ok-Opened-clause-took
returns-in-Ok-Opened-clause-took c =
    let advanced : Advanced c.args.self.now.uses.items c.args.self.now.pardefs.now c.as_slice.result.now c.args.entry.now.parts
    (way_of c.truncate.new.self.items c.truncate-2.new.self.items c.uses_lr-lr.result
    c.uses_rl-rl.result) c.advance.new.left.items c.advance.new.right.items c.advance.new.line
    (Opened c.in-Ok-Opened.frame) =
    rw c.in-Ok-Opened.field-0-is at (c.in-Ok-Opened.ensures.advanced c.args.self.now.uses.items) in
    let frames_are : c.as_slice.result.now ≡ c.push.new.self.items = c.as_slice.ensures.value in
    let enters : Enters c.args.self.now.uses.items c.args.self.now.left.items c.args.self.now.right.items
    c.args.self.now.below.items c.args.self.now.top c.args.entry.now c.args.others
    c.truncate.new.self.items c.truncate-2.new.self.items c.uses_lr-lr.result
    c.uses_rl-rl.result c.as_slice.result.now c.advance.new.left.items
    c.advance.new.right.items = record {
      stack = c.requires.search.stack;
      first = c.requires.first;
      taken = c.requires.taken;
      lr_is = c.uses_lr-lr.ensures;
      rl_is = c.uses_rl-rl.ensures;
      left_is = c.truncate.ensures.items;
      right_is = c.truncate-2.ensures.items;
      frames_are = c.as_slice.ensures.value ∙ c.in_ok-push.ensures.items;
      left_begins = c.in-Ok-Opened.ensures.left;
      right_begins = c.in-Ok-Opened.ensures.right;
    } in (
      opened c.args.self.now.uses.items (pardefs_trace c.args.self.now.uses.items [] c.args.self.now.pardefs.now)
          (sections_trace c.args.self.now.uses.items (pardefs_trace c.args.self.now.uses.items [] c.args.self.now.pardefs.now)
          c.args.self.now.sections.now) c.args.self.now.left.items c.args.self.now.right.items
          c.args.self.now.below.items c.args.self.now.top c.args.entry.now c.args.others
          c.truncate.new.self.items c.truncate-2.new.self.items c.uses_lr-lr.result
          c.uses_rl-rl.result c.as_slice.result.now c.advance.new.left.items
          c.advance.new.right.items c.in-Ok-Opened.frame enters advanced.0 advanced.2 advanced.3
          ∙ ap (λ (fs : List Frame). None
          ∷ (stack_trace c.args.self.now.uses.items (pardefs_trace c.args.self.now.uses.items [] c.args.self.now.pardefs.now) c.advance.new.left.items
          c.advance.new.right.items (c.in-Ok-Opened.frame ∷ reverse fs)
          ++ sections_trace c.args.self.now.uses.items (pardefs_trace c.args.self.now.uses.items [] c.args.self.now.pardefs.now)
          c.args.self.now.sections.now)) frames_are,
      advanced.4,
    )

pub returns-then-written-clause-took : goal.returns-then-written-clause-took
returns-then-written-clause-took c =
    let advanced : Advanced c.args.self.now.uses.items c.args.self.now.pardefs.now c.as_slice.result.now c.args.entry.now.parts
    (way_of c.truncate.new.self.items c.truncate-2.new.self.items c.uses_lr-lr.result
    c.uses_rl-rl.result) c.advance.new.left.items c.advance.new.right.items c.advance.new.line
    (Ended c.in-Ok-Ended.written) =
    rw c.in-Ok-Ended.field-0-is at (c.in-Ok-Ended.ensures.advanced c.args.self.now.uses.items) in
    let frames_are : c.as_slice.result.now ≡ c.push.new.self.items = c.as_slice.ensures.value in
    let enters : Enters c.args.self.now.uses.items c.args.self.now.left.items c.args.self.now.right.items
    c.args.self.now.below.items c.args.self.now.top c.args.entry.now c.args.others
    c.truncate.new.self.items c.truncate-2.new.self.items c.uses_lr-lr.result
    c.uses_rl-rl.result c.as_slice.result.now c.advance.new.left.items
    c.advance.new.right.items = record {
      stack = c.requires.search.stack;
      first = c.requires.first;
      taken = c.requires.taken;
      lr_is = c.uses_lr-lr.ensures;
      rl_is = c.uses_rl-rl.ensures;
      left_is = c.truncate.ensures.items;
      right_is = c.truncate-2.ensures.items;
      frames_are = c.as_slice.ensures.value ∙ c.in_ok-push.ensures.items;
      left_begins = c.in-Ok-Ended.ensures.left;
      right_begins = c.in-Ok-Ended.ensures.right;
    } in
    let popped : c.pop.new.self.items
    ≡ take (length c.as_slice.result.now - 1) c.as_slice.result.now =
    c.pop.ensures.rest ∙ ap (λ n. take (n - 1) c.push.new.self.items) (omega arith)
    ∙ ap (λ (fs : List Frame). take (length c.as_slice.result.now - 1) fs) (sym frames_are) in
    ended c.args.self.now.uses.items (pardefs_trace c.args.self.now.uses.items [] c.args.self.now.pardefs.now)
    (sections_trace c.args.self.now.uses.items (pardefs_trace c.args.self.now.uses.items [] c.args.self.now.pardefs.now) c.args.self.now.sections.now)
    c.args.self.now.left.items c.args.self.now.right.items c.args.self.now.below.items
    c.args.self.now.top c.args.entry.now c.args.others c.truncate.new.self.items
    c.truncate-2.new.self.items c.uses_lr-lr.result c.uses_rl-rl.result c.as_slice.result.now
    c.advance.new.left.items c.advance.new.right.items c.pop.new.self.items
    (written_step c.in-Ok-Ended.written c.advance.new.line) enters advanced.0 popped
    ∙ ap (λ b. written_step b c.advance.new.line
    ∷ (stack_trace c.args.self.now.uses.items (pardefs_trace c.args.self.now.uses.items [] c.args.self.now.pardefs.now) c.advance.new.left.items
    c.advance.new.right.items (with_entries c.args.self.now.top c.args.others
    ∷ reverse c.pop.new.self.items)
    ++ sections_trace c.args.self.now.uses.items (pardefs_trace c.args.self.now.uses.items [] c.args.self.now.pardefs.now)
    c.args.self.now.sections.now)) c.if-written.true

pub returns-else-written-clause-took : goal.returns-else-written-clause-took
returns-else-written-clause-took c =
    let advanced : Advanced c.args.self.now.uses.items c.args.self.now.pardefs.now c.as_slice.result.now c.args.entry.now.parts
    (way_of c.truncate.new.self.items c.truncate-2.new.self.items c.uses_lr-lr.result
    c.uses_rl-rl.result) c.advance.new.left.items c.advance.new.right.items c.advance.new.line
    (Ended c.in-Ok-Ended.written) =
    rw c.in-Ok-Ended.field-0-is at (c.in-Ok-Ended.ensures.advanced c.args.self.now.uses.items) in
    let frames_are : c.as_slice.result.now ≡ c.push.new.self.items = c.as_slice.ensures.value in
    let enters : Enters c.args.self.now.uses.items c.args.self.now.left.items c.args.self.now.right.items
    c.args.self.now.below.items c.args.self.now.top c.args.entry.now c.args.others
    c.truncate.new.self.items c.truncate-2.new.self.items c.uses_lr-lr.result
    c.uses_rl-rl.result c.as_slice.result.now c.advance.new.left.items
    c.advance.new.right.items = record {
      stack = c.requires.search.stack;
      first = c.requires.first;
      taken = c.requires.taken;
      lr_is = c.uses_lr-lr.ensures;
      rl_is = c.uses_rl-rl.ensures;
      left_is = c.truncate.ensures.items;
      right_is = c.truncate-2.ensures.items;
      frames_are = c.as_slice.ensures.value ∙ c.in_ok-push.ensures.items;
      left_begins = c.in-Ok-Ended.ensures.left;
      right_begins = c.in-Ok-Ended.ensures.right;
    } in
    let popped : c.pop.new.self.items
    ≡ take (length c.as_slice.result.now - 1) c.as_slice.result.now =
    c.pop.ensures.rest ∙ ap (λ n. take (n - 1) c.push.new.self.items) (omega arith)
    ∙ ap (λ (fs : List Frame). take (length c.as_slice.result.now - 1) fs) (sym frames_are) in (
      ended c.args.self.now.uses.items (pardefs_trace c.args.self.now.uses.items [] c.args.self.now.pardefs.now)
          (sections_trace c.args.self.now.uses.items (pardefs_trace c.args.self.now.uses.items [] c.args.self.now.pardefs.now)
          c.args.self.now.sections.now) c.args.self.now.left.items c.args.self.now.right.items
          c.args.self.now.below.items c.args.self.now.top c.args.entry.now c.args.others
          c.truncate.new.self.items c.truncate-2.new.self.items c.uses_lr-lr.result
          c.uses_rl-rl.result c.as_slice.result.now c.advance.new.left.items
          c.advance.new.right.items c.pop.new.self.items
          (written_step c.in-Ok-Ended.written c.advance.new.line) enters advanced.0 popped
          ∙ ap (λ b. written_step b c.advance.new.line
          ∷ (stack_trace c.args.self.now.uses.items (pardefs_trace c.args.self.now.uses.items [] c.args.self.now.pardefs.now) c.advance.new.left.items
          c.advance.new.right.items (with_entries c.args.self.now.top c.args.others
          ∷ reverse c.pop.new.self.items)
          ++ sections_trace c.args.self.now.uses.items (pardefs_trace c.args.self.now.uses.items [] c.args.self.now.pardefs.now)
          c.args.self.now.sections.now)) c.if-written.false,
      advanced.1 c.if-written.false,
    )
