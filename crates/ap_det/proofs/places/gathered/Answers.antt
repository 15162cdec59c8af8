use Rattle.std.proofs.Common.{arith, get_or}
use Rattle.std.proofs.lemmas.Option.{slice_get-get_or}
use Rattle.ap_fst.proofs.Adding.{adds_begun, adds_next, adds_as}
use Rattle.ap_det.specs.Exits.{IsPlaceOf}
use Rattle.ap_det.proofs.Sorting.{PlaceAt, place_as, gathered_all}
use Rattle.ap_det.proofs.places.gathered.Goals as goal

pub loop-state-init : goal.loop-state-init
loop-state-init c = adds_begun (PlaceAt c.args.fst.now.edges c.args.set.now)
    c.new-places.result.items

pub loop-state-preserved : goal.loop-state-preserved
loop-state-preserved c =
    adds_next (PlaceAt c.args.fst.now.edges c.args.set.now) c.loop-state.state-index
    c.new-places.result.items c.loop-state.places.items c.add_places.new.places.items
    c.loop-state.invariant
    (adds_as (IsPlaceOf c.args.fst.now.edges (get_or c.args.set.now c.loop-state.state-index 0))
    (PlaceAt c.args.fst.now.edges c.args.set.now c.loop-state.state-index)
    c.loop-state.places.items c.add_places.new.places.items
    (place_as c.args.fst.now.edges c.args.set.now c.loop-state.state-index
    (get_or c.args.set.now c.loop-state.state-index 0)
    (slice_get-get_or c.args.set.now c.loop-state.state-index 0 c.loop-state-test.true))
    c.in_ok-add_places.ensures)

pub returns : goal.returns
returns c = gathered_all c.args.fst.now.edges c.args.set.now c.loop-state.state-index
    c.new-places.result.items c.loop-state.places.items c.new-places.ensures.items (omega arith)
    c.loop-state.invariant
