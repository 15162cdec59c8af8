use Rattle.std.proofs.Common.{refl, sym, subst, List, ℕ, length}
use Rattle.ap_fst.specs.declared.label.Edge.{Edge}
use Rattle.ap_det.specs.Exits.{edge_at}
use Rattle.ap_det.specs.Numbered.{IsNumbered}
use Rattle.ap_det.proofs.Sorting.{number_within}
use Rattle.ap_det.proofs.Grouping.{group_added}
use Rattle.ap_det.proofs.groups.add_group.Goals as goal

pub returns-clause-group : goal.returns-clause-group
returns-clause-group c =
    let edge : Edge = record {
      from = c.args.from;
      label = c.in_ok-label.label;
      to =
          c.in_ok-to.to;
    } in
    let n : IsNumbered c.args.sets.now c.number.new.self c.in_ok-targets.targets.items
    c.in_ok-to.to = subst (λ (z : List ℕ). IsNumbered c.args.sets.now c.number.new.self z
    c.in_ok-to.to) c.as_slice.ensures.value c.in_ok-to.ensures in
    group_added (edge_at c.args.edges.now c.args.places.now) c.args.from c.args.low
    c.group_end-high.result c.in_ok-to.to (length c.args.places.now) c.in-Some.first.now
    c.in_ok-label.label c.args.sets.now c.number.new.self c.in_ok-targets.targets.items edge
    c.args.made.now c.push.new.self c.requires.rises
    (number_within c.args.edges.now c.args.places.now) c.requires.there (sym c.in-Some.ensures)
    c.group_end-high.ensures.group c.in_ok-targets.ensures n c.in_ok-label.ensures refl refl
    refl c.in_ok-push.ensures.ok
