use Rattle.std.proofs.Common.{arith, get_or}
use Rattle.std.proofs.lemmas.Option.{slice_get-get_or}
use Rattle.ap_fst.proofs.Adding.{adds_begun, adds_next, adds_as}
use Rattle.ap_trim.specs.Reading.{FitsFrom}
use Rattle.ap_trim.proofs.Adding.{FitsAt, fits_as, fits_all}
use Rattle.ap_trim.proofs.reading.targets_by.Goals as goal

pub loop-state-init : goal.loop-state-init
loop-state-init c = adds_begun (FitsAt c.args.fst.now c.args.set.now c.args.symbol.now)
    c.new-targets.result.items

pub loop-state-preserved : goal.loop-state-preserved
loop-state-preserved c =
    adds_next (FitsAt c.args.fst.now c.args.set.now c.args.symbol.now) c.loop-state.state-index
    c.new-targets.result.items c.loop-state.targets.items c.add_fitting.new.targets.items
    c.loop-state.invariant
    (adds_as (FitsFrom c.args.fst.now c.args.symbol.now
    (get_or c.args.set.now c.loop-state.state-index 0))
    (FitsAt c.args.fst.now c.args.set.now c.args.symbol.now c.loop-state.state-index)
    c.loop-state.targets.items c.add_fitting.new.targets.items
    (fits_as c.args.fst.now c.args.set.now c.args.symbol.now c.loop-state.state-index
    (get_or c.args.set.now c.loop-state.state-index 0)
    (slice_get-get_or c.args.set.now c.loop-state.state-index 0 c.loop-state-test.true))
    c.in_ok-add_fitting.ensures)

pub returns : goal.returns
returns c = fits_all c.args.fst.now c.args.set.now c.args.symbol.now c.loop-state.state-index
    c.new-targets.result.items c.loop-state.targets.items c.new-targets.ensures.items (omega arith)
    c.loop-state.invariant
