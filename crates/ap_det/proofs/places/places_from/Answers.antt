use Rattle.std.proofs.Common.{subst, List}
use Rattle.ap_fst.specs.declared.label.Edge.{Edge}
use Rattle.ap_det.specs.Exits.{edge_at, RisesByLabel}
use Rattle.ap_det.proofs.Sorting.{sorted_members}
use Rattle.ap_det.proofs.places.places_from.Goals as goal

pub returns-clause-exactly : goal.returns-clause-exactly
returns-clause-exactly c =
    sorted_members c.args.fst.now.edges c.args.set.now c.in_ok-places.places.items
    c.sort_places.new.places.items c.sort_places.ensures.permutation c.in_ok-places.ensures

pub returns-clause-rises : goal.returns-clause-rises
returns-clause-rises c =
    subst (λ (z : List Edge). RisesByLabel (edge_at z c.sort_places.new.places.items))
    c.edges.ensures.value c.sort_places.ensures.rises
