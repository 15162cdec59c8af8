use Rattle.std.proofs.Common.{◌∙◌, ap, subst, sym, List}
use Rattle.std.specs.List.Sorted.{IsNonDecreasingBy}
use Rattle.ap_fst.specs.Lists.{IsKeyRange}
use Rattle.ap_fst.specs.Machines.{edge_from, Machine}
use Rattle.ap_fst.specs.declared.label.Edge.{Edge}
use Rattle.ap_fst.proofs.Listing.{range_inside, range_outside}
use Rattle.ap_fst.proofs.WalkLaws.{edges_sorted}
use Rattle.ap_fst.proofs.fst.Fst.span_near.Goals as goal

pub range_near-requires : goal.range_near-requires
range_near-requires c = subst (λ (z : List Edge). IsNonDecreasingBy edge_from z)
    (sym c.as_slice.ensures) (edges_sorted c.self.inside.edges c.self.invariant.edges_ascend)

pub returns-clause-span : goal.returns-clause-span
returns-clause-span c =
    let r : IsKeyRange edge_from c.args.state c.args.self.now.edges c.range_near.result.0
    c.range_near.result.1 =
    subst (λ (z : List Edge). IsKeyRange edge_from c.args.state z c.range_near.result.0
    c.range_near.result.1) (c.as_slice.ensures ∙ ap (λ (m : Machine). m.edges) c.self.view_is)
    c.range_near.ensures in
    record {
      end = r.end;
      inside = range_inside edge_from c.args.state c.args.self.now.edges c.range_near.result.0
          c.range_near.result.1 r;
      outside = range_outside edge_from c.args.state c.args.self.now.edges c.range_near.result.0
          c.range_near.result.1 r;
    }
