use Rattle.std.proofs.Common.{◌+◌, [], ◌∷◌, arith, get_or}
use Rattle.ap_live.specs.Spreads.{HasLeft, HasLeftBelow, IsPlace}
use Rattle.ap_live.specs.Trails.{node}
use Rattle.ap_live.specs.declared.outline.Entry.{Entry}
use Rattle.ap_live.proofs.NodeLaws.{adds_edge, adds_none, adds_seen, adds_two, grows_more, grows_none}
use Rattle.ap_live.proofs.Outlining.{IsHere, all_before, all_below, coded_here, left_below, no_entry, none_before, read_at}
use Rattle.ap_live.proofs.nodes.push_coded.Goals as goal

pub loop-place-init : goal.loop-place-init
loop-place-init c = record {
  grown = grows_none c.args.nodes.now.items;
  added = λ edges pick from first left is. adds_none edges pick from c.args.back
      (HasLeftBelow edges left c.args.low) c.args.nodes.now.items
      (none_before edges c.args.outline.now pick from first c.args.last c.args.low c.args.code left
      c.requires is);
}

pub returns-then-entry-code-clause-added : goal.returns-then-entry-code-clause-added
returns-then-entry-code-clause-added c = λ edges pick from first left is.
    adds_seen edges pick from c.args.back (HasLeftBelow edges left c.loop-place.place)
    (HasLeft edges left) c.args.nodes.now.items c.loop-place.nodes.items
    (all_before edges c.args.outline.now pick from first c.args.last c.args.low c.args.code left
    c.loop-place.place (get_or c.as_slice-entries.result.now c.loop-place.place no_entry) c.requires
    (read_at c.as_slice-entries.result.now c.args.outline.now.entries.items c.loop-place.place
    c.as_slice-entries.ensures.value (omega arith)) c.if-entry-code.true (omega arith)
    c.loop-place-test.true is) (c.loop-place.invariant.added edges pick from first left is)

pub loop-place-preserved : goal.loop-place-preserved
loop-place-preserved c =
    let entry : Entry = get_or c.as_slice-entries.result.now c.loop-place.place no_entry in
    record {
      grown = grows_more c.args.nodes.now.items c.loop-place.nodes.items c.push.new.self.items
          c.loop-place.invariant.grown
          (node entry.to c.loop-place.place c.args.back ∷ [], c.in_ok-push.ensures.items);
      added = λ edges pick from first left is.
          let e : IsHere edges pick from c.loop-place.place entry =
          coded_here edges c.args.outline.now pick from first c.args.last c.args.low c.args.code
          left c.loop-place.place entry
          (read_at c.as_slice-entries.result.now c.args.outline.now.entries.items c.loop-place.place
          c.as_slice-entries.ensures.value (omega arith)) c.if-entry-code.false (omega arith)
          c.loop-place-test.true is in
          adds_two edges pick from c.args.back (HasLeftBelow edges left c.loop-place.place)
          (IsPlace c.loop-place.place) (HasLeftBelow edges left (c.loop-place.place + 1))
          c.args.nodes.now.items c.loop-place.nodes.items c.push.new.self.items
          (λ s j p q. left_below edges left c.loop-place.place j q)
          (c.loop-place.invariant.added edges pick from first left is)
          (adds_edge edges pick from c.args.back e.edge c.loop-place.place e.at e.leaves
          entry.to c.loop-place.nodes.items c.push.new.self.items e.to_is e.picked
          c.in_ok-push.ensures.items);
    }

pub returns-clause-added : goal.returns-clause-added
returns-clause-added c = λ edges pick from first left is.
    adds_seen edges pick from c.args.back (HasLeftBelow edges left c.loop-place.place)
    (HasLeft edges left) c.args.nodes.now.items c.loop-place.nodes.items
    (all_below edges c.args.outline.now pick from first c.args.last c.args.low c.args.code left
    c.loop-place.place (omega arith) is) (c.loop-place.invariant.added edges pick from first left is)
