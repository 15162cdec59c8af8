use Rattle.std.proofs.Common.{List, [], ◌∷◌, inl, inr, refl, subst, sym}
use Rattle.ap_fst.specs.Lists.{IsIn}
use Rattle.ap_live.specs.declared.items.Item.{Item}
use Rattle.ap_live.proofs.LeastLaws.{matched_self}
use Rattle.ap_live.proofs.Spreading.{in_back, in_either, in_front}
use Rattle.ap_live.proofs.least_ways.keep.Goals as goal

pub returns-clause-more : goal.returns-clause-more
returns-clause-more c = λ x i. subst (λ (z : List Item). IsIn x z) (sym c.in_ok-push.ensures.items)
    (in_front x c.args.kept.now.items (c.args.item ∷ []) i)

pub returns-clause-only : goal.returns-clause-only
returns-clause-only c = λ x i. elim (in_either x c.args.kept.now.items (c.args.item ∷ [])
    (subst (λ (z : List Item). IsIn x z) c.in_ok-push.ensures.items i)) [
      | inl k ↦ inl k
      | inr k ↦ elim k [ inl e ↦ inr e | inr q ↦ elim q [ ] ]
    ]

pub returns-clause-matched : goal.returns-clause-matched
returns-clause-matched c = matched_self c.args.case c.push.new.self.items c.args.item
    (subst (λ (z : List Item). IsIn c.args.item z) (sym c.in_ok-push.ensures.items)
    (in_back c.args.item c.args.kept.now.items (c.args.item ∷ []) (inl refl)))
