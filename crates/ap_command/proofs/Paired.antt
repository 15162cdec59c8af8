-- A text says one list of forbidden pairs, or has one first bad line.
use Rattle.std.proofs.Common.{◌≡◌, ℕ, suc, true, false, List, [], ◌∷◌, ◌++◌, length, ap, sym, ◌∙◌, subst, refl, inl, inr}
use Rattle.std.specs.Prelude.{eqb, not}
use Rattle.std.specs.List.{prefix_len}
use Rattle.ap_choose.specs.declared.forbidden.Pair.{Pair}
use Rattle.ap_choose.specs.Pairs.{IsPair, IsSkipped, Says, Say, none, next, AreSaid, IsBad, AreFine, IsFirstBad, lines}
use Rattle.ap_choose.proofs.PairLines.{pair_cut}

-- a line says one list of pairs
same-pair : (p q : Pair) → p.first ≡ q.first → p.second ≡ q.second → p ≡ q
same-pair p q e f = ap (λ (x : List ℕ). record { first = x; second = p.second }) e
    ∙ ap (λ (x : List ℕ). record { first = q.first; second = x }) f

one-pair : (line : List ℕ) (p q : Pair) → IsPair line p → IsPair line q → p ≡ q
one-pair line p q h k =
    let a = pair_cut line p (prefix_len (λ b. not (eqb b 32)) line) refl h in
    let b = pair_cut line q (prefix_len (λ b. not (eqb b 32)) line) refl k in
    same-pair p q (sym a.front ∙ b.front) (sym a.back ∙ b.back)

not-empty : (first second : List ℕ) → [] ≡ first ++ 32 ∷ second → ⊥
not-empty [] second e = cc
not-empty (b ∷ first) second e = cc

not-both : (line : List ℕ) (p : Pair) → IsSkipped line → IsPair line p → ⊥
not-both line p s h = elim s.shape [
  | inl e ↦ not-empty p.first p.second (sym e ∙ h.is)
  | inr c ↦ (let x : true ≡ false = sym c ∙ h.bare in cc)
]

one-says : (line : List ℕ) (a b : List Pair) → Says line a → Says line b → a ≡ b
one-says line [] [] h k = refl
one-says line [] (q ∷ []) h k = absurd (not-both line q h k)
one-says line [] (q ∷ r ∷ b) h k = absurd k
one-says line (p ∷ []) [] h k = absurd (not-both line p k h)
one-says line (p ∷ []) (q ∷ []) h k = ap (λ x. x ∷ []) (one-pair line p q h k)
one-says line (p ∷ []) (q ∷ r ∷ b) h k = absurd k
one-says line (p ∷ r ∷ a) b h k = absurd h

one-say : (rows : List (List ℕ)) (a b : List Pair) → Say rows a → Say rows b → a ≡ b
one-say rows a b (none r e) (none s f) = e ∙ sym f
one-say rows a b (none r e) (next line rest own more s f h k) =
    absurd (let x : [] ≡ line ∷ rest = sym r ∙ s in cc)
one-say rows a b (next line rest own more r e h k) (none s f) =
    absurd (let x : line ∷ rest ≡ [] = sym r ∙ s in cc)
one-say rows a b (next line rest own more r e h k) (next line' rest' own' more' s f h' k') =
    let x : line ∷ rest ≡ line' ∷ rest' = sym r ∙ s in
    let l : line ≡ line' = cc in
    let t : rest ≡ rest' = cc in
    let o : own ≡ own' = one-says line own own' h (subst (λ z. Says z own') (sym l) h') in
    let m : more ≡ more' = one-say rest more more' k (subst (λ z. Say z more') (sym t) k') in
    e ∙ ap (λ z. z ++ more) o ∙ ap (λ z. own' ++ z) m ∙ sym f

-- a text says one list of pairs
pub one-said : (text : List ℕ) (a b : List Pair) → AreSaid text a → AreSaid text b → a ≡ b
one-said text a b h k = one-say (lines text) a b h k

abbrev IsFine : List ℕ → Type 0
IsFine line = (pairs : List Pair) × Says line pairs

not-bad : (line line' : List ℕ) → line ≡ line' → IsFine line' → IsBad line → ⊥
not-bad line line' e h bad = bad h.0 (subst (λ z. Says z h.0) (sym e) h.1)

same-length : (before before' after after' : List (List ℕ)) (line line' : List ℕ) →
    before ++ line ∷ after ≡ before' ++ line' ∷ after' → AreFine before → AreFine before' →
    IsBad line → IsBad line' → length before ≡ length before'
same-length [] [] after after' line line' e h h' bad bad' = refl
same-length [] (x ∷ before') after after' line line' e h h' bad bad' =
    absurd (not-bad line x (cc) h'.0 bad)
same-length (x ∷ before) [] after after' line line' e h h' bad bad' =
    absurd (not-bad line' x (cc) h.0 bad')
same-length (x ∷ before) (y ∷ before') after after' line line' e h h' bad bad' =
    let rest : before ++ line ∷ after ≡ before' ++ line' ∷ after' = cc in
    ap suc (same-length before before' after after' line line' rest h.1 h'.1 bad bad')

-- its first bad line has one number
pub one-bad : (text : List ℕ) (n m : ℕ) → IsFirstBad text n → IsFirstBad text m → n ≡ m
one-bad text n m h k =
    h.count ∙ ap suc (same-length h.before k.before h.after k.after h.line k.line
    (sym h.split ∙ k.split) h.fine k.fine h.bad k.bad) ∙ sym k.count

each-fine : (rows : List (List ℕ)) (a : List Pair) → Say rows a → (before after : List (List ℕ))
    (line : List ℕ) → rows ≡ before ++ line ∷ after → IsFine line
each-fine rows a (none r e) [] after line s =
    absurd (let x : [] ≡ line ∷ after = sym r ∙ s in cc)
each-fine rows a (none r e) (x ∷ before) after line s =
    absurd (let y : [] ≡ x ∷ (before ++ line ∷ after) = sym r ∙ s in cc)
each-fine rows a (next line' rest own more r e h k) [] after line s =
    let x : line' ∷ rest ≡ line ∷ after = sym r ∙ s in
    let l : line' ≡ line = cc in (own, subst (λ z. Says z own) l h)
each-fine rows a (next line' rest own more r e h k) (x ∷ before) after line s =
    let y : line' ∷ rest ≡ x ∷ (before ++ line ∷ after) = sym r ∙ s in
    each-fine rest more k before after line (cc)

-- and a text that says pairs has none
pub said-without-bad : (text : List ℕ) (a : List Pair) (n : ℕ) → AreSaid text a →
    IsFirstBad text n → ⊥
said-without-bad text a n h k =
    let f = each-fine (lines text) a h k.before k.after k.line k.split in k.bad f.0 f.1
