use Rattle.std.proofs.Common.{◌≡◌, Some, arith, get_or, slice_get, sym, subst, List, ℕ}
use Rattle.std.proofs.lemmas.Option.{slice_get-get_or}
use Rattle.std.specs.List.Sorted.{IsNonDecreasingBy}
use Rattle.ap_fst.specs.Machines.{edge_from}
use Rattle.ap_fst.specs.declared.label.Edge.{Edge}
use Rattle.ap_fst.proofs.WalkLaws.{edges_sorted}
use Rattle.ap_live.specs.Outlines.{AreEntries, AreFirsts, IsBit, SoFar}
use Rattle.ap_live.specs.declared.outline.First.{First}
use Rattle.ap_live.proofs.Outlining.{so_far_kept, so_far_more}
use Rattle.ap_live.proofs.outline.outline_of.Goals as goal

pub fill-requires : goal.fill-requires
fill-requires c = subst (λ (z : List Edge). IsNonDecreasingBy edge_from z)
    (sym c.edges-edges.ensures.value)
    (edges_sorted c.args.fst.now.edges c.edges-edges.ensures.sound.edges_ascend)

pub fill-requires-2 : goal.fill-requires-2
fill-requires-2 c = subst (λ (z : List Edge). IsNonDecreasingBy edge_from z)
    (sym c.edges-edges.ensures.value)
    (edges_sorted c.args.fst.now.edges c.edges-edges.ensures.sound.edges_ascend)

pub loop-place-preserved : goal.loop-place-preserved
loop-place-preserved c =
    let edges : List Edge = c.edges-edges.result.now in
    let place : ℕ = c.loop-place.place in
    let so_far : SoFar edges c.loop-place.firsts.items place c.loop-place.codes =
    c.loop-place.invariant.so_far in
    let other : Edge = c.index-edges-place-in-loop-place.result in
    let edge : Edge = get_or edges place other in
    let at : slice_get edges place ≡ Some edge =
    slice_get-get_or edges place other (omega (arith, c.loop-place-test.true)) in
    record {
      firsts = c.in_ok-fill.ensures.firsts c.loop-place.invariant.firsts
          (so_far_kept edges c.loop-place.firsts.items place c.loop-place.codes
          c.with_count.result c.with_count.ensures so_far);
      so_far = so_far_more edges c.fill.new.firsts.items place c.codes_behind.result
          c.with_code-codes.result edge at
          (subst (λ (z : List First). SoFar edges z place c.codes_behind.result)
          c.as_slice.ensures.value
          (c.codes_behind.ensures edges
          (subst (λ (z : List First). SoFar edges z place c.loop-place.codes)
          (sym c.as_slice.ensures.value)
          (c.in_ok-fill.ensures.so_far c.loop-place.codes so_far))))
          c.with_code-codes.ensures.kept
          (λ b is. c.with_code-codes.ensures.has b
          (subst (λ (z : ℕ). IsBit z b) (sym c.code_of-code.ensures) is));
      entries = c.in_ok-add_entry.ensures c.loop-place.invariant.entries;
    }

pub returns : goal.returns
returns c =
    let edges : List Edge = c.edges-edges.result.now in
    record {
      firsts = subst (λ (z : List Edge). AreFirsts z c.fill-2.new.firsts.items)
          c.edges-edges.ensures.value
          (c.in_ok-fill-2.ensures.firsts c.loop-place.invariant.firsts
          (λ state f there count j e at low high. so_far_kept edges c.loop-place.firsts.items
          c.loop-place.place c.loop-place.codes c.with_count-2.result c.with_count-2.ensures
          c.loop-place.invariant.so_far state f there count j e at low
          (omega (arith, high, c.loop-place-test.false))));
      entries = subst (λ (z : List Edge). AreEntries z c.loop-place.entries.items)
          c.edges-edges.ensures.value c.loop-place.invariant.entries;
    }
