use Rattle.std.proofs.Common.{ap, ◌∙◌, sym, subst, List, ℕ, take, drop, length, ◌+◌, ◌-◌, ◌<◌, false, ◌≡◌, arith, slice_get}
use Rattle.std.specs.Prelude.{◌↔◌}
use Rattle.std.proofs.lemmas.Result.{IfOk-weaker}
use Rattle.ap_symbol.specs.declared.symbol.Symbol.{Symbol}
use Rattle.ap_fst.specs.Lists.{IsIn}
use Rattle.ap_live.specs.declared.items.Item.{Item}
use Rattle.ap_live.specs.Tails.{AreFinals, IsBack, IsBackMany, AreItems}
use Rattle.ap_live.specs.declared.arrivals.Arrival.{Arrival}
use Rattle.ap_live.proofs.TailLaws.{items_last, items_before, finals_below, back_below, backs_by, row_read}
use Rattle.ap_live.proofs.Spreading.{from_in}
use Rattle.ap_live.proofs.Backing.{clean_back, clean_many, clean_finals}
use Rattle.ap_live.proofs.backward.outputs_back.Goals as goal

pub rounds_back-requires-clause-below : goal.rounds_back-requires-clause-below
rounds_back-requires-clause-below c =
    λ x i. finals_below c.args.fst.now c.states.result.now c.in_ok-items.items x
    c.states-at.ensures.sound.finals_in c.in_ok-items.ensures i

pub loop-at-init : goal.loop-at-init
loop-at-init c =
    let some : 0 < length c.args.rows.now = c.requires.some in
    let at : length c.args.rows.now - 1 < length c.args.rows.now = omega arith in
    record {
      in_range = at;
      items = λ seen live. items_last c.args.fst.now seen c.args.rows.now c.index-rows-at.result
          (length c.args.rows.now - 1) c.in_ok-items.items c.rounds_back.new.items live (omega arith)
          (row_read c.args.rows.now (length c.args.rows.now - 1) c.index-rows-at.result
          at c.index-rows-at.is)
          (subst (λ (z : List ℕ). AreFinals c.args.fst.now z c.in_ok-items.items) c.states.ensures
          c.in_ok-items.ensures)
          (subst (λ (z : List Arrival). IsBackMany c.args.fst.now.edges z c.in_ok-items.items
          c.rounds_back.new.items) c.silent.ensures.value c.in_ok-rounds_back.ensures);
      empty = c.new-found.ensures;
      clean = clean_many c.args.fst.now c.silent.result.now c.in_ok-items.items
          c.rounds_back.new.items c.requires.writes c.in_ok-rounds_back.ensures
          (clean_finals c.args.fst.now c.states.result.now c.in_ok-items.items
          c.in_ok-items.ensures);
    }

pub close_back-requires-clause-below : goal.close_back-requires-clause-below
close_back-requires-clause-below c =
    λ x i. back_below c.args.fst.now _ _ _ x (from_in c.args.fst.now c.states-at.ensures.sound)
    c.in_ok-backward.ensures.back i

pub loop-at-preserved : goal.loop-at-preserved
loop-at-preserved c =
    let rng : c.loop-at.at < length c.args.rows.now = c.loop-at.invariant.in_range in
    let pos : 0 < c.loop-at.at = c.loop-at-test.true in
    let one : c.loop-at.at - 1 + 1 ≡ c.loop-at.at = omega arith in
    record {
      in_range = omega arith;
      items = λ seen live. items_before c.args.fst.now seen c.args.rows.now
          c.index-rows-at-in-loop-at.result c.index-rows-at-in-loop-at-2.result (c.loop-at.at - 1)
          c.loop-at.items c.backward.new.items c.close_back.new.items
          live (omega arith)
          (ap (λ z. slice_get c.args.rows.now z) one
          ∙ row_read c.args.rows.now c.loop-at.at c.index-rows-at-in-loop-at.result rng
          c.index-rows-at-in-loop-at.is)
          (row_read c.args.rows.now (c.loop-at.at - 1) c.index-rows-at-in-loop-at-2.result
          (omega arith) c.index-rows-at-in-loop-at-2.is)
          (subst (λ (z : ℕ). AreItems c.args.fst.now (take z seen) (drop z seen) c.loop-at.items)
          (sym one) (c.loop-at.invariant.items seen live))
          (subst (λ (z : List Arrival). IsBack c.args.fst.now.edges false z c.loop-at.items
          c.backward.new.items) c.taken.ensures.value c.in_ok-backward.ensures.back)
          (subst (λ (z : List Arrival). IsBackMany c.args.fst.now.edges z c.backward.new.items
          c.close_back.new.items) c.silent-in-loop-at.ensures.value
          c.in_ok-close_back.ensures);
      empty = c.in_ok-backward.ensures.none;
      clean = clean_many c.args.fst.now c.silent-in-loop-at.result.now c.backward.new.items
          c.close_back.new.items c.requires.writes c.in_ok-close_back.ensures
          (clean_back c.args.fst.now false c.taken.result.now c.loop-at.items c.backward.new.items
          c.requires.writes c.in_ok-backward.ensures.back c.loop-at.invariant.clean);
    }

pub returns-clause-words : goal.returns-clause-words
returns-clause-words c =
    IfOk-weaker c.at_start.result _ _
    (λ backs h back i. c.loop-at.invariant.clean _
    (subst (λ (z : List Item). IsIn (let item : Item = record { state = 0; back = back } in item) z)
    c.into_vec.ensures ((h back).0 i))) c.at_start.ensures

pub returns-clause-outputs : goal.returns-clause-outputs
returns-clause-outputs c = IfOk-weaker c.at_start.result _ _
    (λ backs h seen live. backs_by c.args.fst.now seen c.loop-at.items backs.items c.loop-at.at
    (omega arith) (c.loop-at.invariant.items seen live)
    (subst (λ (z : List Item). (back : List Symbol) →
    IsIn back backs.items ↔ IsIn (let item : Item = record { state = 0; back = back } in item)
    z) c.into_vec.ensures h)) c.at_start.ensures
