use Rattle.std.proofs.Common.{sym, rules}
use Rattle.ap_fst.proofs.PlaceLaws.{place_one, place_searched}
use Rattle.ap_fst.proofs.trimming.number_of.Goals as goal

pub returns-then-stands_at_own_place : goal.returns-then-stands_at_own_place
returns-then-stands_at_own_place c =
    sym (place_one c.args.states.now c.requires c.args.state c.args.state
    (c.stands_at_own_place.ensures (search rules)))

pub returns : goal.returns
returns c = place_searched c.args.states.now c.args.state c.binary_search.result c.requires
    c.binary_search.ensures.position c.ok.result c.ok.ensures.value
