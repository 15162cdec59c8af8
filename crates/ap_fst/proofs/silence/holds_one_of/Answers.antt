use Rattle.std.proofs.Common.{inl, inr, ◌∙◌, subst, sym, refl, ℕ, List, [], ◌∷◌, take, get_or, arith}
use Rattle.std.proofs.lemmas.List.{take_more, take_all}
use Rattle.std.proofs.lemmas.Bool.{true≢false}
use Rattle.ap_fst.specs.Lists.{IsIn}
use Rattle.ap_fst.proofs.Listing.{in_at, in_either}
use Rattle.ap_fst.proofs.silence.holds_one_of.Goals as goal

pub returns-then-contains : goal.returns-then-contains
returns-then-contains c = (
  λ t. (
    get_or c.args.states.now c.loop-state.state-index 0,
    (
      in_at c.args.states.now c.loop-state.state-index 0 c.loop-state-test.true,
      c.contains.ensures.0 c.if-contains.true,
    ),
  ),
  λ h. refl,
)

pub loop-state-preserved : goal.loop-state-preserved
loop-state-preserved c = λ s i k.
    let xs : List ℕ = c.args.states.now in
    let at : ℕ = c.loop-state.state-index in
    elim (in_either s (take at xs) (get_or xs at 0 ∷ [])
    (subst (λ (z : List ℕ). IsIn s z) (take_more xs at 0 c.loop-state-test.true) i)) [
      | inl h ↦ c.loop-state.invariant s h k
      | inr h ↦ elim h [
        | inl e ↦
            absurd (true≢false (sym (c.contains.ensures.1
            (subst (λ (z : ℕ). IsIn z c.args.set.now) e k)) ∙ c.if-contains.false))
        | inr n ↦ elim n [ ]
      ]
    ]

pub returns : goal.returns
returns c = (
  λ t. absurd (true≢false (sym t)),
  λ (s, (i, k)). absurd (c.loop-state.invariant s
      (subst (λ (z : List ℕ). IsIn s z)
      (sym (take_all c.loop-state.state-index c.args.states.now (omega arith))) i) k),
)
