use Rattle.std.proofs.Common.{◌≡◌, ℕ, Bool, true, false, List, sym, arith, rules}
use Rattle.std.specs.Prelude.{IsTrue, nat_le}
use Rattle.std.proofs.lemmas.Bool.{true≢false}
use Rattle.std.proofs.lemmas.Bool.Decides.{nat_tests}
use Rattle.std.specs.List.{IsAllAdjacentAnswer}
use Rattle.std.specs.List.Sorted.{IsNonDecreasingBy}
use Rattle.std.proofs.lemmas.Fn.{always_returns_same}
use Rattle.std.proofs.lemmas.List.Sorted.{IsNonDecreasingBy-from_all_adjacent}
use Rattle.ap_fst.specs.Graphs.{arc_from}
use Rattle.ap_fst.specs.declared.graph.Arc.{Arc}
use Rattle.ap_fst.proofs.graph.are_sorted.Goals as goal

by_test : (arcs : List Arc) (answer : Bool) →
    IsAllAdjacentAnswer (λ x y b. b ≡ nat_le (arc_from x) (arc_from y)) arcs answer →
    IsTrue answer → IsNonDecreasingBy arc_from arcs
by_test arcs true h t = IsNonDecreasingBy-from_all_adjacent arc_from arcs
    (λ k d l. let e = h k d l in grind (arith, nat_tests))
by_test arcs false h t = absurd (true≢false (sym t))

pub returns : goal.returns
returns c =
    by_test c.args.arcs.now c.is_sorted_by.result
    (c.is_sorted_by.ensures.cases (λ x y. nat_le (arc_from x) (arc_from y))
    (always_returns_same _ (λ a r. r ≡ nat_le (arc_from a.0.now) (arc_from a.1.0.now)) _
    (λ a r q k. search rules)))
