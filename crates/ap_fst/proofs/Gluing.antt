use Rattle.std.proofs.Common.{◌≡◌, ◌≢◌, ◌⊎◌, inl, inr, ℕ, ◌<◌, ◌≤◌, List, [], ◌++◌, map, refl, sym, ◌∙◌, ap, subst, append_assoc, arith}
use Rattle.std.specs.Option.{option_to_list}
use Rattle.ap_fst.specs.Lists.{IsIn}
use Rattle.ap_fst.proofs.Listing.{in_either, in_map, in_mapped, IsImage}
use Rattle.ap_fst.specs.Sketches.{IsWithin}
use Rattle.ap_fst.specs.Places.{placed, moved}
use Rattle.ap_fst.specs.Paths.{Path, here, on}
use Rattle.ap_fst.specs.declared.draft.Move.{Move}
use Rattle.ap_fst.specs.declared.draft.Place.{Place}
use Rattle.ap_fst.specs.declared.label.Label.{Label}

-- a path stays one among more moves
pub path_in_more : (a b : List Move) (s t : ℕ) (w : List Label) → ((m : Move) → IsIn m a → IsIn m b)
    → Path a s w t → Path b s w t
path_in_more a b s t w more (here e) = here e
path_in_more a b s t w more (on {labels = labels} m listed at whole rest) =
    on m (more m listed) at whole (path_in_more a b m.to t labels more rest)

pub path_then : (a : List Move) (s t u : ℕ) (w v : List Label) → Path a s w t → Path a t v u →
    Path a s (w ++ v) u
path_then a s t u w v (here e) q = let P : ℕ → Type 0 = λ x. Path a x v u in subst P (sym e) q
path_then a s t u w v (on {labels = labels} m listed at whole rest) q =
    on {labels = labels ++ v} m listed at (ap (λ x. x ++ v) whole
    ∙ append_assoc (option_to_list m.label) labels v) (path_then a m.to t u labels v rest q)

not_second : (n start e : ℕ) (m : Move) (s : ℕ) → IsWithin n start e m → s ≡ m.from →
    (n ≤ s) ⊎ (s ≡ e) → ⊥
not_second n start e m s w q (inl le) = let h : m.from < n = w.from_in in omega arith
not_second n start e m s w q (inr eq) = w.leaves (sym q ∙ eq)

-- a path that has come to the second part stays there
pub inner : (n start e : ℕ) (a b : List Move) (s t : ℕ) (w : List Label) →
    ((m : Move) → IsIn m a → IsWithin n start e m) →
    ((m : Move) → IsIn m b → (n ≤ m.to) ⊎ (m.to ≡ e))
    → (n ≤ s) ⊎ (s ≡ e) → Path (a ++ b) s w t → Path b s w t
inner n start e a b s t w first second at (here q) = here q
inner n start e a b s t w first second at (on {labels = labels} m listed q whole rest) =
    elim (in_either m a b listed) [
      | inl k ↦ absurd (not_second n start e m s (first m k) q at)
      | inr k ↦ on m k q whole (inner n start e a b m.to t labels first second (second m k) rest)
    ]

-- a path over both parts, cut where it comes to the second
pub record IsSplit (a b : List Move) (s e t : ℕ) (w : List Label) : Type 0 where
  pub front : List Label
  pub back : List Label
  pub whole : w ≡ front ++ back
  pub first : Path a s front e
  pub second : Path b e back t

split_on : (a b : List Move) (m : Move) (s e t : ℕ) (w labels : List Label) → IsIn m a →
    s ≡ m.from → w ≡ option_to_list m.label ++ labels → IsSplit a b m.to e t labels →
    IsSplit a b s e t w
split_on a b m s e t w labels listed q whole split = record {
  front = option_to_list m.label ++ split.front;
  back = split.back;
  whole = whole ∙ ap (λ x. option_to_list m.label ++ x) split.whole
      ∙ sym (append_assoc (option_to_list m.label) split.front split.back);
  first = on m listed q refl split.first;
  second = split.second;
}

pub outer : (n start e : ℕ) (a b : List Move) (s t : ℕ) (w : List Label) →
    ((m : Move) → IsIn m a → IsWithin n start e m) →
    ((m : Move) → IsIn m b → (n ≤ m.to) ⊎ (m.to ≡ e))
    → ((m : Move) → IsIn m b → (n ≤ m.from) ⊎ (m.from ≡ e)) → n ≤ t → s < n → Path (a ++ b) s w t →
    IsSplit a b s e t w
outer n start e a b s t w first second leaves far near (here q) = absurd (omega arith)
outer n start e a b s t w first second leaves far near
    (on {labels = labels} m listed q whole rest) =
    elim (in_either m a b listed) [
      | inl k ↦ split_on a b m s e t w labels k q whole
          (outer n start e a b m.to t labels first second leaves far (first m k).to_in rest)
      | inr k ↦ elim (leaves m k) [
        | inl le ↦ absurd (omega arith)
        | inr eq ↦ record {
          front = [];
          back = w;
          whole = refl;
          first = here (q ∙ eq);
          second =
              on m k (sym eq) whole (inner n start e a b m.to t labels first second
              (second m k) rest);
        }
      ]
    ]

-- a path that has left the start into the first part stays there
pub stays : (n start e : ℕ) (a b : List Move) (s t : ℕ) (w : List Label) →
    ((m : Move) → IsIn m a → IsWithin n start e m)
    → ((m : Move) → IsIn m b → (n ≤ m.from) ⊎ (m.from ≡ start)) → s < n → s ≢ start →
    Path (a ++ b) s w t → Path a s w t
stays n start e a b s t w first leaves near apart (here q) = here q
stays n start e a b s t w first leaves near apart (on {labels = labels} m listed q whole rest) =
    elim (in_either m a b listed) [
      | inl k ↦ on m k q whole
          (stays n start e a b m.to t labels first leaves (first m k).to_in (first m k).enters rest)
      | inr k ↦ elim (leaves m k) [
        | inl le ↦ absurd (omega arith)
        | inr eq ↦
            absurd (apart (q ∙ eq))
      ]
    ]

pub one_of : (n start e : ℕ) (a b : List Move) (w : List Label) →
    ((m : Move) → IsIn m a → IsWithin n start e m) →
    ((m : Move) → IsIn m b → (n ≤ m.to) ⊎ (m.to ≡ e))
    → ((m : Move) → IsIn m b → (n ≤ m.from) ⊎ (m.from ≡ start)) → Path (a ++ b) start w e →
    Path a start w e ⊎ Path b start w e
one_of n start e a b w first second leaves (here q) = inl (here q)
one_of n start e a b w first second leaves (on {labels = labels} m listed q whole rest) =
    elim (in_either m a b listed) [
      | inl k ↦ inl (on m k q whole
          (stays n start e a b m.to e labels first leaves (first m k).to_in
          (first m k).enters rest))
      | inr k ↦ inr (on m k q whole
          (inner n start e a b m.to e labels first second (second m k) rest))
    ]

pub path_moved : (p : Place) (b : List Move) (s t : ℕ) (w : List Label) → Path b s w t →
    Path (map (moved p) b) (placed p s) w (placed p t)
path_moved p b s t w (here e) = here (ap (placed p) e)
path_moved p b s t w (on {labels = labels} m listed q whole rest) =
    on (moved p m) (in_map (moved p) m b listed) (ap (placed p) q) whole
    (path_moved p b m.to t labels rest)

-- two states of a draft are not put at one place
pub record IsApart (p : Place) (k : ℕ) : Type 0 where
  pub one : (i j : ℕ) → i < k → j < k → placed p i ≡ placed p j → i ≡ j

pub path_unmoved : (p : Place) (k start e : ℕ) (b : List Move) (s t x y : ℕ) (w : List Label) →
    IsApart p k → ((m : Move) → IsIn m b → IsWithin k start e m) → t < k → y ≡ placed p t
    → s < k → x ≡ placed p s → Path (map (moved p) b) x w y → Path b s w t
path_unmoved p k start e b s t x y w apart each t_in y_is s_in x_is (here q) =
    here (apart.one s t s_in t_in (sym x_is ∙ q ∙ y_is))
path_unmoved p k start e b s t x y w apart each t_in y_is s_in x_is
    (on {labels = labels} m listed q whole rest) =
    let i : IsImage (moved p) m b = in_mapped (moved p) m b listed in
    let within : IsWithin k start e i.source = each i.source i.listed in
    on i.source i.listed
    (apart.one s i.source.from s_in within.from_in (sym x_is ∙ q ∙ ap (λ z. z.from) i.image))
    (whole ∙ ap (λ z. option_to_list z.label ++ labels) i.image)
    (path_unmoved p k start e b i.source.to t m.to y labels apart each t_in y_is within.to_in
    (ap (λ z. z.to) i.image) rest)
