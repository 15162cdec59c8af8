use Rattle.std.proofs.Common.{inl, inr, ◌∙◌, ap, subst, sym, refl, ℕ, List, [], ◌∷◌, ◌++◌, take, rules, IsTrue, ◌≡◌, true, false, arith}
use Rattle.std.proofs.lemmas.List.{take_more, take_all}
use Rattle.std.proofs.lemmas.Bool.{true≢false}
use Rattle.ap_fst.specs.Lists.{IsIn}
use Rattle.ap_fst.specs.declared.label.Edge.{Edge}
use Rattle.ap_fst.proofs.Listing.{in_either, in_at}
use Rattle.ap_live.specs.Outputs.{is_word_side, is_proper_side}
use Rattle.ap_live.proofs.wording.all_write.Goals as goal

pub loop-edge-preserved : goal.loop-edge-preserved
loop-edge-preserved c = λ e i.
    let xs : List Edge = c.args.edges.now in
    let at : ℕ = c.loop-edge.edge-index in
    let x : Edge = c.edge-item.result in
    let fits : IsTrue c.writes_word.result = search rules in
    elim (in_either e (take at xs) (x ∷ [])
    (subst (λ (z : List Edge). IsIn e z) (take_more xs at x c.loop-edge-test.true
    ∙ ap (λ y. take at xs ++ y ∷ []) (sym c.edge-item.is)) i)) [
      | inl k ↦ c.loop-edge.invariant e k
      | inr k ↦ elim k [
        | inl f ↦ (
          ap (λ (z : Edge). is_word_side z.label.right) f ∙ sym c.writes_word.ensures.word
              ∙ fits,
          ap (λ (z : Edge). is_proper_side z.label.right) f
              ∙ sym c.writes_word.ensures.proper ∙ fits,
        )
        | inr n ↦ elim n [ ]
      ]
    ]

pub returns-then-not-writes_word-clause-words : goal.returns-then-not-writes_word-clause-words
returns-then-not-writes_word-clause-words c = (
  (λ t. absurd (true≢false (sym t))),
  (λ h.
      let listed : IsIn c.edge-item.result c.args.edges.now =
      subst (λ (z : Edge). IsIn z c.args.edges.now) (sym c.edge-item.is)
      (in_at c.args.edges.now c.loop-edge.edge-index c.edge-item.result
      c.loop-edge-test.true) in
      let good : c.writes_word.result ≡ true = c.writes_word.ensures.word
      ∙ h c.edge-item.result listed in
      let bad : c.writes_word.result ≡ false = search rules in
      absurd (true≢false (sym good ∙ bad))),
)

pub returns-then-not-writes_word-clause-proper : goal.returns-then-not-writes_word-clause-proper
returns-then-not-writes_word-clause-proper c = λ t. absurd (true≢false (sym t))

pub returns-clause-words : goal.returns-clause-words
returns-clause-words c = (
  (λ t e i. (c.loop-edge.invariant e
      (subst (λ (z : List Edge). IsIn e z)
      (sym (take_all c.loop-edge.edge-index c.args.edges.now (omega arith))) i)).0),
  (λ h. refl),
)

pub returns-clause-proper : goal.returns-clause-proper
returns-clause-proper c =
    λ t e i. (c.loop-edge.invariant e
    (subst (λ (z : List Edge). IsIn e z)
    (sym (take_all c.loop-edge.edge-index c.args.edges.now (omega arith))) i)).1
