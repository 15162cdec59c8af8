use Rattle.ap_compile.proofs.Gathered.{place_next, places_listed}
use Rattle.ap_compile.proofs.places.places_of.Goals as goal

pub loop-at-preserved : goal.loop-at-preserved
loop-at-preserved c = place_next c.args.entries.now c.loop-at.places.items c.push.new.self.items
    (record { codes = c.in_ok-codes.codes; entry = c.loop-at.at }) c.in_ok-push.ensures.items
    c.loop-at.invariant

pub returns : goal.returns
returns c = places_listed c.args.entries.now c.loop-at.places.items c.loop-at.at
    c.loop-at-test.false c.loop-at.invariant
