use Rattle.std.proofs.Common.{arith, get_or}
use Rattle.ap_live.specs.Fitting.{pick_of}
use Rattle.ap_live.proofs.Outlining.{coded_starts, coded_stops, coded_more, coded_over, no_entry, read_at}
use Rattle.ap_live.proofs.rows.spread_coded.Goals as goal

pub loop-place-init : goal.loop-place-init
loop-place-init c = λ edges from first left is. coded_starts edges c.args.outline.now
    (pick_of c.args.pick) from first c.args.last c.args.low c.args.code left
    c.args.states.now.items c.args.links.now.items c.requires is

pub returns-then-entry-code : goal.returns-then-entry-code
returns-then-entry-code c = λ edges from first left is. coded_stops edges c.args.outline.now
    (pick_of c.args.pick) from first c.args.last c.args.low c.args.code left
    c.args.states.now.items c.args.links.now.items c.loop-place.states.items
    c.loop-place.links.items c.loop-place.place
    (get_or c.as_slice-entries.result.now c.loop-place.place no_entry) c.requires
    (read_at c.as_slice-entries.result.now c.args.outline.now.entries.items c.loop-place.place
    c.as_slice-entries.ensures.value (omega arith)) c.if-entry-code.true (omega arith)
    c.loop-place-test.true is (c.loop-place.invariant edges from first left is)

pub loop-place-preserved : goal.loop-place-preserved
loop-place-preserved c = λ edges from first left is. coded_more edges c.args.outline.now
    (pick_of c.args.pick) from first c.args.last c.args.low c.args.code left
    c.args.states.now.items c.args.links.now.items c.loop-place.states.items
    c.loop-place.links.items c.add_arrival.new.states.items c.add_arrival.new.links.items
    c.loop-place.place (get_or c.as_slice-entries.result.now c.loop-place.place no_entry)
    (read_at c.as_slice-entries.result.now c.args.outline.now.entries.items c.loop-place.place
    c.as_slice-entries.ensures.value (omega arith)) c.if-entry-code.false (omega arith)
    c.loop-place-test.true c.in_ok-add_arrival.ensures is
    (c.loop-place.invariant edges from first left is)

pub returns : goal.returns
returns c = λ edges from first left is. coded_over edges c.args.outline.now
    (pick_of c.args.pick) from first c.args.last c.args.low c.args.code left
    c.args.states.now.items c.args.links.now.items c.loop-place.states.items
    c.loop-place.links.items c.loop-place.place (omega arith) is
    (c.loop-place.invariant edges from first left is)
