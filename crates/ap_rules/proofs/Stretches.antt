-- Where the items of an attribute stand that begin with a tag.
use Rattle.std.proofs.Common.{◌≡◌, ℕ, zero, suc, ◌+◌, ◌-◌, ◌<◌, ◌≤◌, Bool, true, false, List, [], ◌∷◌, length, take, drop, get_or, set, cond, nat_lt, slice_get, Option, Some, refl, ap, sym, ◌∙◌, subst, arith}
use Rattle.std.specs.List.{filter}
use Rattle.std.specs.Option.{unwrap_or}
use Rattle.std.proofs.lemmas.Bool.{ltb-true, ltb-false}
use Rattle.std.proofs.lemmas.Option.{slice_get_read}
use Rattle.std.proofs.lemmas.Slice.Eq.{bytes_eq-Decides}
use Rattle.ap_symbol.specs.declared.symbol.Symbol.{Symbol}
use Rattle.ap_symbol.specs.declared.symbol.Symbol.TheVariants.{Tag}
use Rattle.ap_rules.specs.Attributes.{begins_with_tag, place_of, stretch_at, AreStretches, Holds, IsStretched, IsMarkedWith}
use Rattle.ap_rules.specs.declared.attribute.AttrItem.{AttrItem}
use Rattle.ap_rules.specs.declared.attribute.Stretch.{Stretch}

-- one stretch is made longer

kept_in : (ss : List Stretch) (p q at i : ℕ) (new : Stretch) → IsStretched at (stretch_at ss p) new →
    i ≤ at → Holds (stretch_at ss q) i → Holds (stretch_at (set ss p new) q) i
kept_in [] p q at i new made h held = held
kept_in (s ∷ ss) zero zero at i new made h held = made.kept i h held
kept_in (s ∷ ss) zero (suc q) at i new made h held = held
kept_in (s ∷ ss) (suc p) zero at i new made h held = held
kept_in (s ∷ ss) (suc p) (suc q) at i new made h held = kept_in ss p q at i new made h held

own_in : (ss : List Stretch) (p : ℕ) (new : Stretch) → p < length ss →
    stretch_at (set ss p new) p ≡ new
own_in [] p new h = absurd (omega (arith, h))
own_in (s ∷ ss) zero new h = refl
own_in (s ∷ ss) (suc p) new h = own_in ss p new (omega (arith, h))

pub marked : (at : ℕ) (own : List ℕ) (more : List Symbol) (ss : List Stretch) (new : Stretch) →
    place_of own < length ss → IsStretched at (stretch_at ss (place_of own)) new →
    IsMarkedWith at (Tag own ∷ more) ss (set ss (place_of own) new)
marked at own more ss new h made = record {
  own = λ name e. subst (λ (n : List ℕ). Holds (stretch_at (set ss (place_of own) new) (place_of n)) at)
      ((bytes_eq-Decides own name).0 e)
      (subst (λ (s : Stretch). Holds s at) (sym (own_in ss (place_of own) new h)) made.own);
  kept = λ place i k held. kept_in ss (place_of own) place at i new made k held;
}

-- the stretches hold all of so many items
pub record Marked (items : List AttrItem) (n : ℕ) (ss : List Stretch) : Type 0 where
  pub held : (name : List ℕ) (i : ℕ) (item : AttrItem) → i < n → slice_get items i ≡ Some item →
      begins_with_tag name item ≡ true → Holds (stretch_at ss (place_of name)) i

pub marked_none : (items : List AttrItem) (ss : List Stretch) → Marked items 0 ss
marked_none items ss = record { held = λ name i item h is begins. absurd (omega (arith, h)) }

pub marked_more : (items : List AttrItem) (n : ℕ) (item : AttrItem) (old new : List Stretch) →
    n < length items → item ≡ get_or items n item → Marked items n old →
    IsMarkedWith n item.tags old new → Marked items (n + 1) new
marked_more items n item old new within same before now = record {
  held = λ name i x h at begins. by name i x h at begins (nat_lt i n) refl;
}
  where
    is : slice_get items n ≡ Some item
    is = slice_get_read items (length items) n item refl within same

    by : (name : List ℕ) (i : ℕ) (x : AttrItem) → i < n + 1 → slice_get items i ≡ Some x →
        begins_with_tag name x ≡ true → (b : Bool) → nat_lt i n ≡ b →
        Holds (stretch_at new (place_of name)) i
    by name i x h at begins true e =
        let less : i < n = ltb-true i n e in
        now.kept (place_of name) i (omega (arith, less)) (before.held name i x less at begins)
    by name i x h at begins false e =
        let more : n ≤ i = ltb-false i n e in
        let here : n ≡ i = omega (arith, more, h) in
        let one : item ≡ x = ap (λ (o : Option AttrItem). unwrap_or o item)
        (sym is ∙ ap (slice_get items) here ∙ at) in
        subst (Holds (stretch_at new (place_of name))) here
        (now.own name (subst (λ (y : AttrItem). begins_with_tag name y ≡ true) (sym one) begins))

slice_get_within : {A : Type 0} (xs : List A) (i : ℕ) (x : A) → slice_get xs i ≡ Some x →
    i < length xs
slice_get_within [] i x h = absurd (cc)
slice_get_within (y ∷ xs) zero x h = omega arith
slice_get_within (y ∷ xs) (suc i) x h = omega (arith, slice_get_within xs i x h)

-- what passes a test stands in a stretch alone

none_pass : {A : Type 0} (p : A → Bool) (xs : List A) →
    ((i : ℕ) (x : A) → slice_get xs i ≡ Some x → p x ≡ false) → filter p xs ≡ []
none_pass p [] h = refl
none_pass p (x ∷ xs) h = ap (λ (b : Bool). cond b (x ∷ filter p xs) (filter p xs)) (h 0 x refl)
    ∙ none_pass p xs (λ i. h (suc i))

-- what isn't so
denied : (b : Bool) (from i to : ℕ) → (b ≡ true → (from ≤ i) × (i < to)) →
    ((from ≤ i) × (i < to) → ⊥) → b ≡ false
denied true from i to h outside = absurd (outside (h refl))
denied false from i to h outside = refl

nothing_there : {A : Type 0} (n m : ℕ) → (let none : List A = [] in take n (drop m none)) ≡ []
nothing_there zero zero = refl
nothing_there zero (suc m) = refl
nothing_there (suc n) zero = refl
nothing_there (suc n) (suc m) = refl

in_stretch : {A : Type 0} (p : A → Bool) (xs : List A) (from to : ℕ) →
    ((i : ℕ) (x : A) → slice_get xs i ≡ Some x → p x ≡ true → (from ≤ i) × (i < to)) →
    filter p (take (to - from) (drop from xs)) ≡ filter p xs
in_stretch p [] from to h = ap (filter p) (nothing_there (to - from) from)
in_stretch p (x ∷ xs) from zero h =
    let e : 0 - from ≡ 0 = omega arith in
    ap (λ (n : ℕ). filter p (take n (drop from (x ∷ xs)))) e
    ∙ sym (none_pass p (x ∷ xs)
    (λ i y at. denied (p y) from i 0 (h i y at) (λ within. omega (arith, within.1))))
in_stretch p (x ∷ xs) zero (suc to) h =
    let e : suc to - 0 ≡ suc (to - 0) = omega arith in
    ap (λ (n : ℕ). filter p (take n (x ∷ xs))) e
    ∙ ap (λ (ys : List _). cond (p x) (x ∷ ys) ys) (in_stretch p xs zero to
    (λ i y at passes. let within = h (suc i) y at passes in
    (omega arith, omega (arith, within.1))))
in_stretch p (x ∷ xs) (suc from) (suc to) h =
    let e : suc to - suc from ≡ to - from = omega arith in
    ap (λ (n : ℕ). filter p (take n (drop from xs))) e
    ∙ in_stretch p xs from to (λ i y at passes. let within = h (suc i) y at passes in
    (omega (arith, within.0), omega (arith, within.1)))
    ∙ ap (λ (b : Bool). cond b (x ∷ filter p xs) (filter p xs)) (sym (denied (p x) (suc from) 0
    (suc to) (h 0 x refl) (λ within. omega (arith, within.0))))

pub all_marked : (items : List AttrItem) (ss : List Stretch) → Marked items (length items) ss →
    AreStretches items ss
all_marked items ss all name =
    let s = stretch_at ss (place_of name) in
    in_stretch (begins_with_tag name) items s.from s.to (λ i item at begins.
    let held = all.held name i item (slice_get_within items i item at) at begins in
    (held.from, held.to))
