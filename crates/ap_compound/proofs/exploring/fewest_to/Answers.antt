use Rattle.std.proofs.Common.{◌≡◌, Some, ◌∙◌, sym, length}
use Rattle.std.specs.Prelude.{slice_get}
use Rattle.ap_compound.specs.Places.{Arrives}
use Rattle.ap_compound.proofs.Least.{least_more}
use Rattle.ap_compound.proofs.Steps.{place_read, arrives_is, arrives_of}
use Rattle.ap_compound.proofs.exploring.fewest_to.Goals as goal

pub loop-at-preserved : goal.loop-at-preserved
loop-at-preserved c =
    let there : slice_get c.args.places.now c.loop-at.at ≡ Some c.index-places-at.result =
    place_read c.args.places.now c.loop-at.at c.index-places-at.result c.loop-at-test.true
    c.index-places-at.is in
    least_more (Arrives c.args.places.now (length c.args.places.now)) c.loop-at.at c.loop-at.found
    c.in_ok-next.next c.lesser-found.result c.loop-at.invariant
    (λ m e. arrives_is c.args.places.now (length c.args.places.now) c.loop-at.at m
    c.index-places-at.result there (sym c.in_ok-next.ensures ∙ e))
    (λ m h. c.in_ok-next.ensures ∙ arrives_of c.args.places.now (length c.args.places.now)
    c.loop-at.at m c.index-places-at.result there h) c.lesser-found.ensures
