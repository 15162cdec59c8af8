-- Some of the words that are read: in order, each once, they are written in no more bytes than all.
use Rattle.std.proofs.Common.{◌≡◌, inl, inr, ℕ, ◌+◌, ◌≤◌, List, [], ◌∷◌, ◌++◌, map, refl, sym, ◌∙◌, ap, subst, arith}
use Rattle.std.specs.List.{sum_by}
use Rattle.std.specs.List.Sorted.{IsStrictlySortedBy}
use Rattle.std.specs.declared.cmp.Ordering.TheVariants.{Less}
use Rattle.std.proofs.lemmas.List.Sums.{sum_by-cons}
use Rattle.std.proofs.lemmas.Map.Lookups.{exact_bytes}
use Rattle.ap_symbol.specs.Lists.{IsIn}
use Rattle.ap_symbol.specs.Rendering.{word_cmp}
use Rattle.ap_symbol.specs.Words.{AreProper}
use Rattle.ap_symbol.specs.declared.symbol.Symbol.{Symbol}
use Rattle.ap_fst.proofs.Listing.{IsImage, in_back, in_either, in_front, in_map, in_mapped}
use Rattle.ap_live.specs.Found.{in_order}
use Rattle.ap_live.specs.Readings.{AddsSome}
use Rattle.ap_live.proofs.Finding.{OneRendering}
use Rattle.ap_live.proofs.WordOrder.{all_in, in_order_there, not_below_itself}

-- a list with an item at some place
record IsAmid {X : Type 0} (x : X) (xs : List X) : Type 0 where
  front : List X
  back : List X
  is : xs ≡ front ++ x ∷ back

amid : {X : Type 0} (x : X) (xs : List X) → IsIn x xs → IsAmid x xs
amid x [] i = absurd i
amid x (y ∷ xs) (inl e) = record { front = []; back = xs; is = ap (λ z. z ∷ xs) (sym e) }
amid x (y ∷ xs) (inr i) = let a : IsAmid x xs = amid x xs i in
    record { front = y ∷ a.front; back = a.back; is = ap (λ z. y ∷ z) a.is }

module _ (size : List Symbol → ℕ) where
  amid_size : (x : List Symbol) (front back : List (List Symbol)) →
      sum_by size (front ++ x ∷ back) ≡ size x + sum_by size (front ++ back)
  amid_size x [] back = sum_by-cons size x back
  amid_size x (y ∷ front) back =
      omega (
        arith,
        sum_by-cons size y (front ++ x ∷ back),
        sum_by-cons size y (front ++ back),
        amid_size x front back,
      )

  -- different words have no greater sizes together than all the words of which each is one
  pub fewer_no_longer : (xs ys : List (List Symbol)) → IsStrictlySortedBy word_cmp xs →
      ((w : List Symbol) → IsIn w xs → IsIn w ys) → sum_by size xs ≤ sum_by size ys
  unfolding IsStrictlySortedBy
  fewer_no_longer [] ys sorted all = omega arith
  fewer_no_longer (x ∷ xs) ys sorted all =
      let a : IsAmid x ys = amid x ys (all x (inl refl)) in
      let whole : sum_by size ys ≡ size x + sum_by size (a.front ++ a.back) =
      ap (sum_by size) a.is ∙ amid_size x a.front a.back in
      let fewer : sum_by size xs ≤ sum_by size (a.front ++ a.back) =
      fewer_no_longer xs (a.front ++ a.back) sorted.1
      (λ w i. elim (in_either w a.front (x ∷ a.back)
      (subst (λ z. IsIn w z) a.is (all w (inr i)))) [
        | inl k ↦ in_front w a.front a.back k
        | inr k ↦ elim k [
          | inl e ↦ absurd (not_below_itself x
              (ap (word_cmp x) (sym e) ∙ all_in (λ v. word_cmp x v ≡ Less) xs w sorted.0 i))
          | inr j ↦ in_back w a.front a.back j
        ]
      ]) in
      omega (arith, sum_by-cons size x xs, whole, fewer)

-- ---- some of the words of the four kinds

image_in : (f : List Symbol → List Symbol) (part whole : List (List Symbol)) →
    ((v : List Symbol) → IsIn v part → IsIn v whole) → (w : List Symbol) → IsIn w (map f part) →
    IsIn w (map f whole)
image_in f part whole all w i = let m : IsImage f w part = in_mapped f w part i in
    subst (λ z. IsIn z (map f whole)) (sym m.image)
    (in_map f m.source whole (all m.source m.listed))

pub some_four : (f : List Symbol → List Symbol) (a b c d : List (List Symbol))
    (none one two three four : List (List Symbol)) → none ≡ [] → AddsSome (map f a) none one →
    AddsSome (map f b) one two → AddsSome (map f c) two three → AddsSome (map f d) three four →
    (w : List Symbol) → IsIn w four → IsIn w (map f (a ++ (b ++ (c ++ d))))
some_four f a b c d none one two three four n o t h e w i =
    let whole : List (List Symbol) = a ++ (b ++ (c ++ d)) in
    elim (e w i) [
      | inr k ↦ image_in f d whole
          (λ v j. in_back v a (b ++ (c ++ d)) (in_back v b (c ++ d) (in_back v c d j))) w k
      | inl k ↦ elim (h w k) [
        | inr j ↦ image_in f c whole
            (λ v q. in_back v a (b ++ (c ++ d)) (in_back v b (c ++ d) (in_front v c d q))) w j
        | inl j ↦ elim (t w j) [
          | inr q ↦ image_in f b whole
              (λ v p. in_back v a (b ++ (c ++ d)) (in_front v b (c ++ d) p)) w q
          | inl q ↦ elim (o w q) [
            | inr p ↦ image_in f a whole (λ v u. in_front v a (b ++ (c ++ d)) u) w p
            | inl p ↦ elim (subst (λ z. IsIn w z) n p) [ ]
          ]
        ]
      ]
    ]

-- what is of some proper words is among them in order
pub in_order_of : OneRendering → (words : List (List Symbol)) →
    ((v : List Symbol) → IsIn v words → AreProper v) → (w : List Symbol) → IsIn w words →
    IsIn w (in_order words)
in_order_of law words proper w i = in_order_there words w
    (λ v u a b h. law v u (proper v a) (proper u b) (exact_bytes _ _ h)) i
