use Rattle.std.proofs.Common.{ap, ◌∙◌, sym, subst, List, ℕ, take, drop, length, ◌+◌, ◌-◌, ◌<◌, false, ◌≡◌, arith, slice_get}
use Rattle.ap_fst.specs.Lists.{IsIn}
use Rattle.ap_live.specs.declared.items.Item.{Item}
use Rattle.ap_live.specs.Least.{AreLeast, ClosesLeast}
use Rattle.ap_live.specs.Tails.{AreFinals, IsBack}
use Rattle.ap_live.specs.declared.arrivals.Arrival.{Arrival}
use Rattle.ap_live.proofs.TailLaws.{row_read}
use Rattle.ap_live.proofs.LeastLaws.{least_last, least_earlier}
use Rattle.ap_live.proofs.Backing.{clean_back, clean_finals}
use Rattle.ap_live.proofs.least_ways.least_back.Goals as goal

pub close_least-requires-clause-clean : goal.close_least-requires-clause-clean
close_least-requires-clause-clean c =
    clean_finals c.args.fst.now c.states.result.now c.into_vec-finals.result.items
    (subst (λ (z : List Item). AreFinals c.args.fst.now c.states.result.now z)
    (sym c.into_vec-finals.ensures) c.in_ok-final_items.ensures)

pub loop-at-init : goal.loop-at-init
loop-at-init c =
    let some : 0 < length c.args.rows.now = c.requires.some in
    let at : length c.args.rows.now - 1 < length c.args.rows.now = omega arith in
    record {
      in_range = at;
      items = λ seen live. least_last c.args.fst.now c.args.case seen c.args.rows.now
          c.index-rows-at.result (length c.args.rows.now - 1) c.into_vec-finals.result.items
          c.in-Some.items.items live (omega arith)
          (row_read c.args.rows.now (length c.args.rows.now - 1) c.index-rows-at.result
          at c.index-rows-at.is)
          (subst (λ (z : List ℕ). AreFinals c.args.fst.now z c.into_vec-finals.result.items)
          c.states.ensures
          (subst (λ (z : List Item). AreFinals c.args.fst.now c.states.result.now z)
          (sym c.into_vec-finals.ensures) c.in_ok-final_items.ensures))
          (subst (λ (z : List Arrival). ClosesLeast c.args.fst.now.edges z c.args.case
          c.into_vec-finals.result.items c.in-Some.items.items) c.silent.ensures.value
          (rw c.in-Some.is at c.in_ok-items.ensures.closes));
      clean = rw c.in-Some.is at c.in_ok-items.ensures.clean;
    }

pub close_least-requires-in-loop-at-clause-clean : goal.close_least-requires-in-loop-at-clause-clean
close_least-requires-in-loop-at-clause-clean c =
    clean_back c.args.fst.now false c.taken-taken.result.now c.as_slice.result.now
    c.in_ok-before.before.items c.requires.writes c.in_ok-before.ensures
    (λ x i. c.loop-at.invariant.clean x (subst (λ (z : List Item). IsIn x z)
    c.as_slice.ensures.value i))

pub loop-at-preserved : goal.loop-at-preserved
loop-at-preserved c =
    let rng : c.loop-at.at < length c.args.rows.now = c.loop-at.invariant.in_range in
    let pos : 0 < c.loop-at.at = c.loop-at-test.true in
    let one : c.loop-at.at - 1 + 1 ≡ c.loop-at.at = omega arith in
    record {
      in_range = omega arith;
      items = λ seen live. least_earlier c.args.fst.now c.args.case seen c.args.rows.now
          c.index-rows-at-in-loop-at.result c.index-rows-at-in-loop-at-2.result (c.loop-at.at - 1)
          c.loop-at.items.items c.in_ok-before.before.items c.in-Some-2.closed.items
          live (omega arith)
          (ap (λ z. slice_get c.args.rows.now z) one
          ∙ row_read c.args.rows.now c.loop-at.at c.index-rows-at-in-loop-at.result rng
          c.index-rows-at-in-loop-at.is)
          (row_read c.args.rows.now (c.loop-at.at - 1) c.index-rows-at-in-loop-at-2.result
          (omega arith) c.index-rows-at-in-loop-at-2.is)
          (subst (λ (z : ℕ). AreLeast c.args.fst.now c.args.case (take z seen) (drop z seen)
          c.loop-at.items.items) (sym one) (c.loop-at.invariant.items seen live))
          (subst (λ (z : List Arrival). IsBack c.args.fst.now.edges false z c.loop-at.items.items
          c.in_ok-before.before.items) c.taken-taken.ensures.value
          (subst (λ (z : List Item). IsBack c.args.fst.now.edges false c.taken-taken.result.now z
          c.in_ok-before.before.items) c.as_slice.ensures.value c.in_ok-before.ensures))
          (subst (λ (z : List Arrival). ClosesLeast c.args.fst.now.edges z c.args.case
          c.in_ok-before.before.items c.in-Some-2.closed.items) c.silent-silent.ensures.value
          (rw c.in-Some-2.is at c.in_ok-closed.ensures.closes));
      clean = rw c.in-Some-2.is at c.in_ok-closed.ensures.clean;
    }
