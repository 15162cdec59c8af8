-- The order of edges is total, and tells different edges apart.
use Rattle.std.proofs.Common.{◌≡◌, ℕ, true, cond, eqb, List, [], ◌∷◌, refl, sym, ◌∙◌, ap, subst, Option, Some, None}
use Rattle.std.specs.Prelude.{◌↔◌}
use Rattle.std.specs.List.{dedup}
use Rattle.std.specs.List.Sorted.{IsPermutation, IsSorted}
use Rattle.std.specs.Cmp.{IsTotalOrder}
use Rattle.std.specs.Cmp.Lexicographic.{slice_cmp}
use Rattle.std.specs.Ordering.{nat_cmp, ordering_then, is_eq, eq_by_cmp}
use Rattle.std.specs.declared.cmp.Ordering.{Ordering}
use Rattle.std.specs.declared.cmp.Ordering.TheVariants.{Less, Equal, Greater}
use Rattle.std.proofs.lemmas.Cmp.{nat_cmp_total, nat_list_cmp_total, on_total, then_total, eq_by_cmp_equiv}
use Rattle.std.proofs.lemmas.List.Kept.{IsStrictlySortedBy-dedup, Contains-dedup, Contains-from_dedup}
use Rattle.ap_symbol.specs.declared.symbol.Symbol.{Symbol}
use Rattle.ap_symbol.specs.declared.symbol.Symbol.TheVariants.{Letter, Tag, Blank, Join, Queue, Alarm, Star, At}
use Rattle.ap_fst.specs.Lists.{IsIn, Ascends}
use Rattle.ap_fst.specs.Order.{side_class, side_text, side_cmp, label_cmp, edge_cmp}
use Rattle.ap_fst.specs.declared.label.Label.{Label}
use Rattle.ap_fst.specs.declared.label.Edge.{Edge}
use Rattle.ap_fst.proofs.Listing.{in_contains, contains_in, in_permutation, from_permutation}
use Rattle.ap_fst.proofs.Commons.{ascends_from_sorted}
use Rattle.ap_fst.proofs.WalkLaws.{equal_from_cmp}

pub side_total : IsTotalOrder side_cmp
side_total = then_total (on_total side_class nat_cmp_total) (on_total side_text nat_list_cmp_total)

pub label_total : IsTotalOrder label_cmp
label_total = then_total (on_total (λ (l : Label). l.left) side_total)
    (on_total (λ (l : Label). l.right) side_total)

pub edge_total : IsTotalOrder edge_cmp
edge_total = then_total (on_total (λ (e : Edge). e.from) nat_cmp_total)
    (then_total (on_total (λ (e : Edge). e.label) label_total)
    (on_total (λ (e : Edge). e.to) nat_cmp_total))

pub then_equal : (a b : Ordering) → ordering_then a b ≡ Equal → (a ≡ Equal) × (b ≡ Equal)
then_equal Less b h = cc
then_equal Equal b h = (refl, h)
then_equal Greater b h = cc

lists_equal : (xs ys : List ℕ) → slice_cmp nat_cmp xs ys ≡ Equal → xs ≡ ys
lists_equal [] [] h = refl
lists_equal [] (y ∷ ys) h = cc
lists_equal (x ∷ xs) [] h = cc
lists_equal (x ∷ xs) (y ∷ ys) h =
    let p : (nat_cmp x y ≡ Equal) × (slice_cmp nat_cmp xs ys ≡ Equal) =
    then_equal (nat_cmp x y) (slice_cmp nat_cmp xs ys) h in
    ap (λ z. z ∷ xs) (equal_from_cmp x y p.0) ∙ ap (λ z. y ∷ z) (lists_equal xs ys p.1)

first_of_text : List ℕ → ℕ
first_of_text [] = 0
first_of_text (x ∷ xs) = x

-- the side of a class and a text
abbrev side_of : ℕ → List ℕ → Option Symbol
side_of k text =
    cond (eqb k 0) None (cond (eqb k 1) (Some (Letter (first_of_text text)))
    (cond (eqb k 2) (Some (Tag text)) (cond (eqb k 3) (Some Blank) (cond (eqb k 4) (Some Join)
    (cond (eqb k 5) (Some Queue)
    (cond (eqb k 6) (Some Alarm) (cond (eqb k 7) (Some Star) (Some At))))))))

side_again : (s : Option Symbol) → side_of (side_class s) (side_text s) ≡ s
unfolding first_of_text
side_again None = refl
side_again (Some (Letter c)) = refl
side_again (Some (Tag name)) = refl
side_again (Some Blank) = refl
side_again (Some Join) = refl
side_again (Some Queue) = refl
side_again (Some Alarm) = refl
side_again (Some Star) = refl
side_again (Some At) = refl

pub side_equal : (s t : Option Symbol) → side_cmp s t ≡ Equal → s ≡ t
side_equal s t h =
    let p : (nat_cmp (side_class s) (side_class t) ≡ Equal)
    × (slice_cmp nat_cmp (side_text s) (side_text t) ≡ Equal) =
    then_equal (nat_cmp (side_class s) (side_class t))
    (slice_cmp nat_cmp (side_text s) (side_text t)) h in
    sym (side_again s) ∙ ap (λ z. side_of z (side_text s))
    (equal_from_cmp (side_class s) (side_class t) p.0)
    ∙ ap (side_of (side_class t)) (lists_equal (side_text s) (side_text t) p.1) ∙ side_again t

pub label_equal : (a b : Label) → label_cmp a b ≡ Equal → a ≡ b
label_equal a b h =
    let p : (side_cmp a.left b.left ≡ Equal) × (side_cmp a.right b.right ≡ Equal) =
    then_equal (side_cmp a.left b.left) (side_cmp a.right b.right) h in
    let l : a.left ≡ b.left = side_equal a.left b.left p.0 in
    let r : a.right ≡ b.right = side_equal a.right b.right p.1 in
    λ i. record { left = l i; right = r i }

pub edge_equal : (a b : Edge) → edge_cmp a b ≡ Equal → a ≡ b
edge_equal a b h =
    let p : (nat_cmp a.from b.from ≡ Equal)
    × (ordering_then (label_cmp a.label b.label) (nat_cmp a.to b.to) ≡ Equal) =
    then_equal (nat_cmp a.from b.from)
    (ordering_then (label_cmp a.label b.label) (nat_cmp a.to b.to)) h in
    let q : (label_cmp a.label b.label ≡ Equal) × (nat_cmp a.to b.to ≡ Equal) =
    then_equal (label_cmp a.label b.label) (nat_cmp a.to b.to) p.1 in
    let f : a.from ≡ b.from = equal_from_cmp a.from b.from p.0 in
    let l : a.label ≡ b.label = label_equal a.label b.label q.0 in
    let t : a.to ≡ b.to = equal_from_cmp a.to b.to q.1 in
    λ i. record { from = f i; label = l i; to = t i }

pub is_equal : (o : Ordering) → is_eq o ≡ true → o ≡ Equal
is_equal Less h = cc
is_equal Equal h = refl
is_equal Greater h = cc

pub sorted_ascends : (xs ys : List Edge) → IsSorted edge_cmp xs → ys ≡ dedup (eq_by_cmp edge_cmp) xs
    → Ascends edge_cmp ys
sorted_ascends xs ys s e =
    let P : List Edge → Type 0 = λ z. Ascends edge_cmp z in
    subst P (sym e) (ascends_from_sorted edge_cmp (dedup (eq_by_cmp edge_cmp) xs)
    (IsStrictlySortedBy-dedup edge_total (λ x y. refl) xs s))

pub sorted_members : (old xs ys : List Edge) → IsPermutation old xs →
    ys ≡ dedup (eq_by_cmp edge_cmp) xs → (e : Edge) → IsIn e ys ↔ IsIn e old
sorted_members old xs ys p e x = (
  λ i. from_permutation x old xs p
      (contains_in x xs (Contains-from_dedup (eq_by_cmp edge_cmp) xs x
      (in_contains x (dedup (eq_by_cmp edge_cmp) xs) (subst (λ (z : List Edge). IsIn x z) e i)))),
  λ i. subst (λ (z : List Edge). IsIn x z) (sym e)
      (contains_in x (dedup (eq_by_cmp edge_cmp) xs)
      (Contains-dedup (eq_by_cmp_equiv edge_total)
      (λ a b t. edge_equal a b (is_equal (edge_cmp a b) t)) xs x
      (in_contains x xs (in_permutation x old xs p i)))),
)
