use Rattle.std.proofs.Common.{get_or, refl, ap, ◌∙◌, sym, subst, take, ◌+◌, true, false, ◌≡◌}
use Rattle.ap_live.specs.Tails.{AreFinals}
use Rattle.ap_live.proofs.TailLaws.{finals_push, finals_skip}
use Rattle.ap_live.proofs.backward.final_items.Goals as goal
use Rattle.ap_live.proofs.backward.final_items.Goals.{then-is_final+in_ok-push, else-is_final}

pub loop-state-preserved : goal.loop-state-preserved
loop-state-preserved c =
    elim c.if-is_final.branch [
      | then-is_final+in_ok-push w ↦
          finals_push c.args.fst.now c.args.states.now c.loop-state.state-index
          (get_or c.args.states.now c.loop-state.state-index 0) w.new.result
          c.loop-state.items.items c.if-is_final.items.items
          c.loop-state-test.true refl (c.is_final.ensures.holds.0 w.if-is_final.true) w.new.ensures
          (ap (λ v. v.items) w.items-is ∙ w.in_ok-push.ensures.items) c.loop-state.invariant
      | else-is_final w ↦ subst (λ v. AreFinals c.args.fst.now
          (take (c.loop-state.state-index + 1) c.args.states.now) v.items) (sym w.items-is)
          (finals_skip c.args.fst.now c.args.states.now c.loop-state.state-index
          (get_or c.args.states.now c.loop-state.state-index 0) c.loop-state.items.items
          c.loop-state-test.true refl
          (λ i. let t : c.is_final.result ≡ true = c.is_final.ensures.holds.1 i in
          let f : c.is_final.result ≡ false = w.if-is_final.false in absurd (cc))
          c.loop-state.invariant)
    ]
