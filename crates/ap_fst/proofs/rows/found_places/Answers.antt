use Rattle.std.proofs.Common.{sym, ◌∙◌, nat_eq}
use Rattle.indexmap.specs.IndexMap.{get}
use Rattle.ap_fst.proofs.Growing.{none_from_not}
use Rattle.ap_fst.proofs.RowLaws.{searching_begun, searching_on, stepped, found_all}
use Rattle.ap_fst.proofs.rows.found_places.Goals as goal

pub search-init : goal.search-init
search-init c = searching_begun c.args.moves.now c.args.arcs.now.finish c.args.state
    c.in_ok-near.near c.add.new.self c.new-places.result.items c.in_ok-near.ensures
    c.in_ok-add.ensures c.new-places.ensures.items

pub search-preserved : goal.search-preserved
search-preserved c = searching_on c.args.moves.now c.args.arcs.now.finish c.args.state
    c.in-Some.next c.search.near c.go_on.new.near c.search.places.items c.go_on.new.places.items
    c.search.at (sym c.get.ensures.value ∙ c.in-Some.is)
    (stepped c.args.moves.now c.args.arcs.now (get nat_eq c.args.rows.now) c.in-Some.next
    c.search.near c.go_on.new.near c.search.places.items c.go_on.new.places.items
    c.requires.arcs c.requires.rows c.in_ok-go_on.ensures) c.search.invariant

pub returns : goal.returns
returns c = found_all c.args.moves.now c.args.arcs.now.finish c.args.state c.search.near
    c.search.places.items c.search.at
    (none_from_not c.get.result c.in_default.not-Some ∙ c.get.ensures.value) c.search.invariant
