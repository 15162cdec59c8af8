-- Words in order, each once, as they are defined: their members, and that their order makes them
-- one list.
use Rattle.std.proofs.Common.{◌≡◌, ◌⊎◌, inl, inr, true, List, [], ◌∷◌, sym, ap, ◌∙◌, refl, subst}
use Rattle.std.specs.List.{AllByRecursion}
use Rattle.std.specs.List.Sorted.{IsStrictlySortedBy}
use Rattle.std.specs.Ordering.{ordering_reverse}
use Rattle.std.specs.declared.cmp.Ordering.{Ordering}
use Rattle.std.specs.declared.cmp.Ordering.TheVariants.{Less, Equal, Greater}
use Rattle.ap_symbol.specs.Rendering.{word_cmp}
use Rattle.ap_symbol.specs.declared.symbol.Symbol.{Symbol}
use Rattle.ap_fst.specs.Lists.{IsIn}
use Rattle.ap_live.specs.Found.{placed, with_word, in_order, has_words}
use Rattle.ap_live.proofs.WordLaws.{word_total}

-- ---- members

placed_sound : (o : Ordering) (w f : List Symbol) (ws rest : List (List Symbol)) (v : List Symbol) →
    (IsIn v rest → (v ≡ w) ⊎ IsIn v ws) → IsIn v (placed o w f ws rest) → (v ≡ w) ⊎ IsIn v (f ∷ ws)
placed_sound Less w f ws rest v h i = i
placed_sound Equal w f ws rest v h i = inr i
placed_sound Greater w f ws rest v h (inl e) = inr (inl e)
placed_sound Greater w f ws rest v h (inr i) = elim (h i) [ inl e ↦ inl e | inr j ↦ inr (inr j) ]

with_word_sound : (w : List Symbol) (ws : List (List Symbol)) (v : List Symbol) →
    IsIn v (with_word w ws) → (v ≡ w) ⊎ IsIn v ws
with_word_sound w [] v i = i
with_word_sound w (f ∷ ws) v i =
    placed_sound (word_cmp w f) w f ws (with_word w ws) v (with_word_sound w ws v) i

placed_old : (o : Ordering) (w f : List Symbol) (ws rest : List (List Symbol)) (v : List Symbol) →
    (IsIn v ws → IsIn v rest) → IsIn v (f ∷ ws) → IsIn v (placed o w f ws rest)
placed_old Less w f ws rest v h i = inr i
placed_old Equal w f ws rest v h i = i
placed_old Greater w f ws rest v h (inl e) = inl e
placed_old Greater w f ws rest v h (inr i) = inr (h i)

with_word_old : (w : List Symbol) (ws : List (List Symbol)) (v : List Symbol) → IsIn v ws →
    IsIn v (with_word w ws)
with_word_old w [] v i = absurd i
with_word_old w (f ∷ ws) v i =
    placed_old (word_cmp w f) w f ws (with_word w ws) v (with_word_old w ws v) i

placed_new : (o : Ordering) (w f : List Symbol) (ws rest : List (List Symbol)) →
    (o ≡ Equal → w ≡ f) → IsIn w rest → IsIn w (placed o w f ws rest)
placed_new Less w f ws rest e i = inl refl
placed_new Equal w f ws rest e i = inl (e refl)
placed_new Greater w f ws rest e i = inr i

with_word_new : (w : List Symbol) (ws : List (List Symbol)) →
    ((v : List Symbol) → IsIn v ws → word_cmp w v ≡ Equal → w ≡ v) → IsIn w (with_word w ws)
with_word_new w [] exact = inl refl
with_word_new w (f ∷ ws) exact =
    placed_new (word_cmp w f) w f ws (with_word w ws) (exact f (inl refl))
    (with_word_new w ws (λ v i. exact v (inr i)))

pub in_order_sound : (ws : List (List Symbol)) (v : List Symbol) → IsIn v (in_order ws) → IsIn v ws
in_order_sound [] v i = i
in_order_sound (w ∷ ws) v i =
    elim (with_word_sound w (in_order ws) v i) [
      | inl e ↦ inl e
      | inr k ↦
          inr (in_order_sound ws v k)
    ]

-- words that compare as equal are equal
abbrev pub AreExact : List (List Symbol) → Type 0
AreExact ws = (v w : List Symbol) → IsIn v ws → IsIn w ws → word_cmp v w ≡ Equal → v ≡ w

pub in_order_there : (ws : List (List Symbol)) (v : List Symbol) → AreExact ws → IsIn v ws →
    IsIn v (in_order ws)
in_order_there [] v exact i = i
in_order_there (w ∷ ws) v exact (inl e) =
    subst (λ (z : List Symbol). IsIn z (with_word w (in_order ws))) (sym e)
    (with_word_new w (in_order ws)
    (λ u i h. exact w u (inl refl) (inr (in_order_sound ws u i)) h))
in_order_there (w ∷ ws) v exact (inr i) =
    with_word_old w (in_order ws) v
    (in_order_there ws v (λ x y a b h. exact x y (inr a) (inr b) h) i)

placed_some : (o : Ordering) (w f : List Symbol) (ws rest : List (List Symbol)) →
    has_words (placed o w f ws rest) ≡ true
placed_some Less w f ws rest = refl
placed_some Equal w f ws rest = refl
placed_some Greater w f ws rest = refl

with_word_some : (w : List Symbol) (ws : List (List Symbol)) → has_words (with_word w ws) ≡ true
with_word_some w [] = refl
with_word_some w (f ∷ ws) = placed_some (word_cmp w f) w f ws (with_word w ws)

pub in_order_some : (ws : List (List Symbol)) (v : List Symbol) → IsIn v ws →
    has_words (in_order ws) ≡ true
in_order_some [] v i = absurd i
in_order_some (w ∷ ws) v i = with_word_some w (in_order ws)

pub some_word : (ws : List (List Symbol)) → has_words ws ≡ true → (v : List Symbol) × IsIn v ws
some_word [] h = cc
some_word (w ∷ ws) h = (w, inl refl)

-- ---- order

placed_all : (P : List Symbol → Type 0) (o : Ordering) (w f : List Symbol)
    (ws rest : List (List Symbol)) → P w → P f → AllByRecursion P ws → AllByRecursion P rest →
    AllByRecursion P (placed o w f ws rest)
placed_all P Less w f ws rest p q a r = (p, (q, a))
placed_all P Equal w f ws rest p q a r = (q, a)
placed_all P Greater w f ws rest p q a r = (q, r)

with_word_all : (P : List Symbol → Type 0) (w : List Symbol) (ws : List (List Symbol)) → P w →
    AllByRecursion P ws → AllByRecursion P (with_word w ws)
with_word_all P w [] p a = (p, tt)
with_word_all P w (f ∷ ws) p a =
    placed_all P (word_cmp w f) w f ws (with_word w ws) p a.0 a.1 (with_word_all P w ws p a.1)

all_below : (w f : List Symbol) (ws : List (List Symbol)) → word_cmp w f ≡ Less →
    AllByRecursion (λ y. word_cmp f y ≡ Less) ws → AllByRecursion (λ y. word_cmp w y ≡ Less) ws
all_below w f [] l a = tt
all_below w f (y ∷ ws) l a = (word_total.trans w f y l a.0, all_below w f ws l a.1)

less_by_greater : (w f : List Symbol) → word_cmp w f ≡ Greater → word_cmp f w ≡ Less
less_by_greater w f g = word_total.antisymm f w ∙ ap ordering_reverse g

placed_sorted : (o : Ordering) (w f : List Symbol) (ws rest : List (List Symbol)) →
    word_cmp w f ≡ o → AllByRecursion (λ y. word_cmp f y ≡ Less) ws → IsStrictlySortedBy word_cmp ws
    → (word_cmp f w ≡ Less → AllByRecursion (λ y. word_cmp f y ≡ Less) rest) →
    IsStrictlySortedBy word_cmp rest → IsStrictlySortedBy word_cmp (placed o w f ws rest)
unfolding IsStrictlySortedBy
placed_sorted Less w f ws rest e a s b r = ((e, all_below w f ws e a), (a, s))
placed_sorted Equal w f ws rest e a s b r = (a, s)
placed_sorted Greater w f ws rest e a s b r = (b (less_by_greater w f e), r)

with_word_sorted : (w : List Symbol) (ws : List (List Symbol)) → IsStrictlySortedBy word_cmp ws →
    IsStrictlySortedBy word_cmp (with_word w ws)
unfolding IsStrictlySortedBy
with_word_sorted w [] s = (tt, tt)
with_word_sorted w (f ∷ ws) s =
    placed_sorted (word_cmp w f) w f ws (with_word w ws) refl s.0 s.1
    (λ l. with_word_all (λ y. word_cmp f y ≡ Less) w ws l s.0) (with_word_sorted w ws s.1)

none_sorted : IsStrictlySortedBy word_cmp []
unfolding IsStrictlySortedBy
none_sorted = tt

pub in_order_sorted : (ws : List (List Symbol)) → IsStrictlySortedBy word_cmp (in_order ws)
in_order_sorted [] = none_sorted
in_order_sorted (w ∷ ws) = with_word_sorted w (in_order ws) (in_order_sorted ws)

-- ---- two lists in order that have the same words are one

self_equal : (o : Ordering) → o ≡ ordering_reverse o → o ≡ Equal
self_equal Less h = cc
self_equal Equal h = refl
self_equal Greater h = cc

pub not_below_itself : (w : List Symbol) → word_cmp w w ≡ Less → ⊥
not_below_itself w h = let e : word_cmp w w ≡ Equal =
    self_equal (word_cmp w w) (word_total.antisymm w w) in cc

pub all_in : (P : List Symbol → Type 0) (ws : List (List Symbol)) (v : List Symbol) →
    AllByRecursion P ws → IsIn v ws → P v
all_in P [] v a i = absurd i
all_in P (w ∷ ws) v a (inl e) = subst P (sym e) a.0
all_in P (w ∷ ws) v a (inr i) = all_in P ws v a.1 i

heads_same : (x y : List Symbol) (xs ys : List (List Symbol)) →
    AllByRecursion (λ v. word_cmp x v ≡ Less) xs → AllByRecursion (λ v. word_cmp y v ≡ Less) ys →
    IsIn x (y ∷ ys) → IsIn y (x ∷ xs) → x ≡ y
heads_same x y xs ys a b (inl e) j = e
heads_same x y xs ys a b (inr i) (inl e) = sym e
heads_same x y xs ys a b (inr i) (inr j) =
    absurd (not_below_itself x (word_total.trans x y x (all_in _ xs y a j) (all_in _ ys x b i)))

tail_in : (x : List Symbol) (xs ys : List (List Symbol)) →
    AllByRecursion (λ v. word_cmp x v ≡ Less) xs → (v : List Symbol) → IsIn v xs →
    (v ≡ x) ⊎ IsIn v ys → IsIn v ys
tail_in x xs ys a v i (inl e) =
    absurd (not_below_itself x (let l : word_cmp x v ≡ Less = all_in _ xs v a i in
    ap (word_cmp x) (sym e) ∙ l))
tail_in x xs ys a v i (inr j) = j

pub sorted_same : (xs ys : List (List Symbol)) → IsStrictlySortedBy word_cmp xs →
    IsStrictlySortedBy word_cmp ys → ((v : List Symbol) → IsIn v xs → IsIn v ys) →
    ((v : List Symbol) → IsIn v ys → IsIn v xs) → xs ≡ ys
unfolding IsStrictlySortedBy
sorted_same [] [] a b f g = refl
sorted_same [] (y ∷ ys) a b f g = absurd (g y (inl refl))
sorted_same (x ∷ xs) [] a b f g = absurd (f x (inl refl))
sorted_same (x ∷ xs) (y ∷ ys) a b f g =
    let e : x ≡ y = heads_same x y xs ys a.0 b.0 (f x (inl refl)) (g y (inl refl)) in
    let rest : xs ≡ ys = sorted_same xs ys a.1 b.1
    (λ v i. tail_in x xs ys a.0 v i
    (elim (f v (inr i)) [ inl p ↦ inl (p ∙ sym e) | inr j ↦ inr j ]))
    (λ v i. tail_in y ys xs b.0 v i (elim (g v (inr i)) [ inl p ↦ inl (p ∙ e) | inr j ↦ inr j ])) in
    ap (λ w. w ∷ xs) e ∙ ap (λ ws. y ∷ ws) rest

-- in a list in order, words that compare as equal are equal
pub sorted_exact : (ws : List (List Symbol)) → IsStrictlySortedBy word_cmp ws → AreExact ws
unfolding IsStrictlySortedBy
sorted_exact [] s v w i j h = absurd i
sorted_exact (x ∷ xs) s v w (inl e) (inl f) h = e ∙ sym f
sorted_exact (x ∷ xs) s v w (inl e) (inr j) h = let l : word_cmp x w ≡ Less = all_in _ xs w s.0 j in
    let k : word_cmp x w ≡ Equal = ap (λ z. word_cmp z w) (sym e) ∙ h in cc
sorted_exact (x ∷ xs) s v w (inr i) (inl f) h =
    let l : word_cmp x v ≡ Less = all_in _ xs v s.0 i in
    let k : word_cmp x v ≡ Equal = ap (λ z. word_cmp z v) (sym f) ∙ word_total.antisymm w v
    ∙ ap ordering_reverse h in cc
sorted_exact (x ∷ xs) s v w (inr i) (inr j) h = sorted_exact xs s.1 v w i j h
