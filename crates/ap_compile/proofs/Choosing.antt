use Rattle.std.proofs.Common.{◌≡◌, ◌⊎◌, inl, inr, ℕ, ◌+◌, ◌<◌, List, [], ◌∷◌, ◌++◌, refl, sym, ◌∙◌, ap, subst, length, take, get_or}
use Rattle.std.specs.Prelude.{◌↔◌}
use Rattle.std.proofs.lemmas.List.{take_more}
use Rattle.ap_dix.specs.Derivation.{Label as EntryLabel}
use Rattle.ap_symbol.specs.Lists.{IsIn}
use Rattle.ap_fst.specs.Sketches.{Sketch}
use Rattle.ap_compile.specs.Drafts.{IsDraftOf, IsMoreBy, Any}
use Rattle.ap_compile.proofs.Drafting.{same_draft, more_added}

pub in_front : {X : Type 0} (x : X) (xs ys : List X) → IsIn x xs → IsIn x (xs ++ ys)
in_front x [] ys h = elim h [ ]
in_front x (y ∷ xs) ys (inl e) = inl e
in_front x (y ∷ xs) ys (inr h) = inr (in_front x xs ys h)

pub in_back : {X : Type 0} (x : X) (xs ys : List X) → IsIn x ys → IsIn x (xs ++ ys)
in_back x [] ys h = h
in_back x (y ∷ xs) ys h = inr (in_back x xs ys h)

pub in_either : {X : Type 0} (x : X) (xs ys : List X) → IsIn x (xs ++ ys) → IsIn x xs ⊎ IsIn x ys
in_either x [] ys h = inr h
in_either x (y ∷ xs) ys (inl e) = inl (inl e)
in_either x (y ∷ xs) ys (inr h) = elim (in_either x xs ys h) [ inl k ↦ inl (inr k) | inr k ↦ inr k ]

pub any_last : {X : Type 0} (Q : X → List EntryLabel → Type 0) (xs : List X) (x : X)
    (w : List EntryLabel) → (Any Q xs w ⊎ Q x w) ↔ Any Q (xs ++ x ∷ []) w
any_last Q xs x w = (
  (λ h. elim h [
    | inl s ↦ record {
      item = s.item;
      listed = in_front s.item xs (x ∷ []) s.listed;
      holds = s.holds;
    }
    | inr q ↦ record { item = x; listed = in_back x xs (x ∷ []) (inl refl); holds = q }
  ]),
  (λ s. elim (in_either s.item xs (x ∷ []) s.listed) [
    | inl k ↦ inl (record { item = s.item; listed = k; holds = s.holds })
    | inr k ↦ elim k [ inl e ↦ inr (subst (λ y. Q y w) e s.holds) | inr z ↦ elim z [ ] ]
  ]),
)

-- an item more
pub any_more : {X : Type 0} (Q : X → List EntryLabel → Type 0) (a made : Sketch) (xs : List X)
    (x d : X) (i : ℕ) → i < length xs → x ≡ get_or xs i d → IsDraftOf (Any Q (take i xs)) a →
    IsMoreBy (Q x) a made → IsDraftOf (Any Q (take (i + 1) xs)) made
any_more Q a made xs x d i lt is ha hm =
    let e : take (i + 1) xs ≡ take i xs ++ x ∷ [] =
    take_more xs i d lt ∙ ap (λ z. take i xs ++ z ∷ []) (sym is) in
    subst (λ zs. IsDraftOf (Any Q zs) made) (sym e)
    (same_draft (λ w. Any Q (take i xs) w ⊎ Q x w) (Any Q (take i xs ++ x ∷ [])) made
    (more_added (Any Q (take i xs)) (Q x) a made ha hm) (λ w. any_last Q (take i xs) x w))
