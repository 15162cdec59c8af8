use Rattle.std.proofs.Common.{◌≡◌, Some, ◌∙◌, sym, arith}
use Rattle.std.specs.Prelude.{slice_get}
use Rattle.ap_compound.specs.Places.{Completes}
use Rattle.ap_compound.proofs.Least.{least_more}
use Rattle.ap_compound.proofs.Steps.{place_read, completes_is, completes_of, completes_none, completes_end}
use Rattle.ap_compound.proofs.exploring.fewest_parts.Goals as goal

pub loop-at-init : goal.loop-at-init
loop-at-init c = record { behind = omega arith; least = completes_none c.args.places.now }

pub loop-at-preserved : goal.loop-at-preserved
loop-at-preserved c =
    let there : slice_get c.args.places.now c.loop-at.at ≡ Some c.index-places-at.result =
    place_read c.args.places.now c.loop-at.at c.index-places-at.result c.loop-at-test.true
    c.index-places-at.is in
    record {
      behind = omega arith;
      least = least_more (Completes c.args.places.now) c.loop-at.at c.loop-at.found
          c.in_ok-next.next c.lesser-found.result c.loop-at.invariant.least
          (λ m e. completes_is c.args.places.now c.loop-at.at m c.index-places-at.result
          c.loop-at.invariant.behind there (sym c.in_ok-next.ensures ∙ e))
          (λ m h. c.in_ok-next.ensures ∙ completes_of c.args.places.now c.loop-at.at m
          c.index-places-at.result there h) c.lesser-found.ensures;
    }

pub returns : goal.returns
returns c = completes_end c.args.places.now c.loop-at.at c.loop-at.found c.loop-at-test.false
    c.loop-at.invariant.least
