use Rattle.std.proofs.Common.{◌∙◌, ap, subst, sym, List}
use Rattle.std.specs.Option.{option_copied}
use Rattle.std.specs.List.Sorted.{IsNonDecreasingBy}
use Rattle.ap_fst.specs.Lists.{IsKeyRange}
use Rattle.ap_fst.specs.Order.{left_place}
use Rattle.ap_fst.specs.Machines.{Machine}
use Rattle.ap_fst.specs.declared.label.Edge.{Edge}
use Rattle.ap_fst.proofs.LeftLaws.{places_sorted, span_by_range}
use Rattle.ap_fst.proofs.fst.Fst.span_by.Goals as goal

pub range_by-requires : goal.range_by-requires
range_by-requires c = subst (λ (z : List Edge). IsNonDecreasingBy
    (left_place c.args.state (option_copied c.args.left)) z) (sym c.as_slice.ensures)
    (places_sorted c.args.state (option_copied c.args.left) c.self.inside.edges
    c.self.invariant.edges_ascend)

pub returns-clause-span : goal.returns-clause-span
returns-clause-span c = span_by_range c.args.state (option_copied c.args.left) c.args.self.now.edges
    c.range_by.result.0 c.range_by.result.1
    (subst (λ (z : List Edge). IsKeyRange (left_place c.args.state (option_copied c.args.left)) 1 z
    c.range_by.result.0 c.range_by.result.1)
    (c.as_slice.ensures ∙ ap (λ (m : Machine). m.edges) c.self.view_is) c.range_by.ensures)
