-- The names that are kept are those that the tree declares, and those that it defines above.
use Rattle.std.proofs.Common.{◌≡◌, ◌⊎◌, inl, inr, ℕ, Bool, true, false, cond, ◌||◌, List, [], ◌∷◌, ◌++◌, refl, sym, ap, ◌∙◌, codes}
use Rattle.std.specs.Str.{bytes_eq}
use Rattle.std.proofs.lemmas.List.Folds.{list_any-append}
use Rattle.std.proofs.lemmas.Slice.Eq.{bytes_eq-Decides}
use Rattle.ap_markup.specs.NameLists.{has_name, with_name}
use Rattle.ap_markup.specs.Said.{name_of, is_named}
use Rattle.ap_markup.specs.Tree.{Tag, Parts, Done, Run, Element}
use Rattle.ap_dix.specs.Faults.{defined_in, declared_in}
use Rattle.ap_dix.specs.Mistakes.{HasNamed}

or_found : (a b : Bool) → (a || b) ≡ true → (a ≡ true) ⊎ (b ≡ true)
or_found true b h = inl refl
or_found false b h = inr h

or_left : (a b : Bool) → a ≡ true → (a || b) ≡ true
or_left true b h = refl
or_left false b h = cc

or_right : (a b : Bool) → b ≡ true → (a || b) ≡ true
or_right true b h = refl
or_right false b h = h

or_false : (b : Bool) → (b || false) ≡ true → b ≡ true
or_false true h = refl
or_false false h = h

added : (names : List (List ℕ)) (n name : List ℕ) → has_name (names ++ n ∷ []) name
    ≡ (has_name names name || (bytes_eq name n || false))
added names n name = list_any-append (bytes_eq name) names (n ∷ [])

with_found : (names : List (List ℕ)) (n name : List ℕ) → has_name (with_name names n) name ≡ true →
    (has_name names name ≡ true) ⊎ (n ≡ name)
with_found names n name h = by (has_name names n) h
  where
    by : (t : Bool) → has_name (cond t names (names ++ n ∷ [])) name ≡ true →
        (has_name names name ≡ true) ⊎ (n ≡ name)
    by true k = inl k
    by false k = elim (or_found (has_name names name) (bytes_eq name n || false)
        (sym (added names n name) ∙ k)) [
          | inl x ↦ inl x
          | inr y ↦ inr (sym ((bytes_eq-Decides name n).0 (or_false (bytes_eq name n) y)))
        ]

with_kept : (names : List (List ℕ)) (n name : List ℕ) → has_name names name ≡ true →
    has_name (with_name names n) name ≡ true
with_kept names n name h = by (has_name names n)
  where
    by : (t : Bool) → has_name (cond t names (names ++ n ∷ [])) name ≡ true
    by true = h
    by false = added names n name ∙ or_left (has_name names name) (bytes_eq name n || false) h

with_new : (names : List (List ℕ)) (n : List ℕ) → has_name (with_name names n) n ≡ true
with_new names n = by (has_name names n) refl
  where
    by : (t : Bool) → has_name names n ≡ t → has_name (cond t names (names ++ n ∷ [])) n ≡ true
    by true e = e
    by false e = added names n n
        ∙ or_right (has_name names n) (bytes_eq n n || false)
        (or_left (bytes_eq n n) false ((bytes_eq-Decides n n).1 refl))

-- the names once a start tag is seen
abbrev noted : List ℕ → Tag → List (List ℕ) → List (List ℕ)
noted kind tag names = cond (is_named kind tag) (with_name names (name_of tag.attributes)) names

abbrev IsOwn : List ℕ → Tag → List ℕ → Type 0
IsOwn kind tag name = (is_named kind tag ≡ true) × (name_of tag.attributes ≡ name)

noted_found : (kind : List ℕ) (tag : Tag) (names : List (List ℕ)) (name : List ℕ) →
    has_name (noted kind tag names) name ≡ true → (has_name names name ≡ true) ⊎ IsOwn kind tag name
noted_found kind tag names name h = by (is_named kind tag) refl h
  where
    by : (t : Bool) → is_named kind tag ≡ t →
        has_name (cond t (with_name names (name_of tag.attributes)) names) name ≡ true →
        (has_name names name ≡ true) ⊎ IsOwn kind tag name
    by true e k = elim (with_found names (name_of tag.attributes) name k) [
      | inl x ↦ inl x
      | inr y ↦ inr (e, y)
    ]
    by false e k = inl k

noted_kept : (kind : List ℕ) (tag : Tag) (names : List (List ℕ)) (name : List ℕ) →
    has_name names name ≡ true → has_name (noted kind tag names) name ≡ true
noted_kept kind tag names name h = by (is_named kind tag)
  where
    by : (t : Bool) → has_name (cond t (with_name names (name_of tag.attributes)) names) name ≡ true
    by true = with_kept names (name_of tag.attributes) name h
    by false = h

noted_new : (kind : List ℕ) (tag : Tag) (names : List (List ℕ)) (name : List ℕ) →
    IsOwn kind tag name → has_name (noted kind tag names) name ≡ true
noted_new kind tag names name (is, own) =
    ap (λ t. has_name (cond t (with_name names (name_of tag.attributes)) names) name) is
    ∙ ap (has_name (with_name names (name_of tag.attributes))) (sym own)
    ∙ with_new names (name_of tag.attributes)

pub defined_found : (parts : Parts) (names : List (List ℕ)) (name : List ℕ) →
    has_name (defined_in names parts) name ≡ true → (has_name names name ≡ true)
    ⊎ HasNamed (codes "pardef") name parts
unfolding defined_in
defined_found Done names name h = inl h
defined_found (Run text at more) names name h = defined_found more names name h
defined_found (Element tag kids more) names name h =
    elim (defined_found more (noted (codes "pardef") tag (defined_in names kids)) name h) [
      | inl x ↦ elim (noted_found (codes "pardef") tag (defined_in names kids) name x) [
        | inl y ↦ elim (defined_found kids names name y) [
          | inl z ↦ inl z
          | inr z ↦ inr (inr (inl z))
        ]
        | inr y ↦ inr (inl y)
      ]
      | inr x ↦ inr (inr (inr x))
    ]

pub defined_kept : (parts : Parts) (names : List (List ℕ)) (name : List ℕ) →
    has_name names name ≡ true → has_name (defined_in names parts) name ≡ true
unfolding defined_in
defined_kept Done names name h = h
defined_kept (Run text at more) names name h = defined_kept more names name h
defined_kept (Element tag kids more) names name h =
    defined_kept more (noted (codes "pardef") tag (defined_in names kids)) name
    (noted_kept (codes "pardef") tag (defined_in names kids) name (defined_kept kids names name h))

pub defined_read : (parts : Parts) (names : List (List ℕ)) (name : List ℕ) →
    HasNamed (codes "pardef") name parts → has_name (defined_in names parts) name ≡ true
unfolding defined_in
defined_read Done names name h = absurd h
defined_read (Run text at more) names name h = defined_read more names name h
defined_read (Element tag kids more) names name (inl x) =
    defined_kept more (noted (codes "pardef") tag (defined_in names kids)) name
    (noted_new (codes "pardef") tag (defined_in names kids) name x)
defined_read (Element tag kids more) names name (inr (inl x)) =
    defined_kept more (noted (codes "pardef") tag (defined_in names kids)) name
    (noted_kept (codes "pardef") tag (defined_in names kids) name (defined_read kids names name x))
defined_read (Element tag kids more) names name (inr (inr x)) =
    defined_read more (noted (codes "pardef") tag (defined_in names kids)) name x

pub declared_found : (parts : Parts) (names : List (List ℕ)) (name : List ℕ) →
    has_name (declared_in names parts) name ≡ true → (has_name names name ≡ true)
    ⊎ HasNamed (codes "sdef") name parts
unfolding declared_in
declared_found Done names name h = inl h
declared_found (Run text at more) names name h = declared_found more names name h
declared_found (Element tag kids more) names name h =
    elim (declared_found more (declared_in (noted (codes "sdef") tag names) kids) name h) [
      | inl x ↦ elim (declared_found kids (noted (codes "sdef") tag names) name x) [
        | inl y ↦ elim (noted_found (codes "sdef") tag names name y) [
          | inl z ↦ inl z
          | inr z ↦ inr (inl z)
        ]
        | inr y ↦ inr (inr (inl y))
      ]
      | inr x ↦ inr (inr (inr x))
    ]

pub declared_kept : (parts : Parts) (names : List (List ℕ)) (name : List ℕ) →
    has_name names name ≡ true → has_name (declared_in names parts) name ≡ true
unfolding declared_in
declared_kept Done names name h = h
declared_kept (Run text at more) names name h = declared_kept more names name h
declared_kept (Element tag kids more) names name h =
    declared_kept more (declared_in (noted (codes "sdef") tag names) kids) name
    (declared_kept kids (noted (codes "sdef") tag names) name
    (noted_kept (codes "sdef") tag names name h))

pub declared_read : (parts : Parts) (names : List (List ℕ)) (name : List ℕ) →
    HasNamed (codes "sdef") name parts → has_name (declared_in names parts) name ≡ true
unfolding declared_in
declared_read Done names name h = absurd h
declared_read (Run text at more) names name h = declared_read more names name h
declared_read (Element tag kids more) names name (inl x) =
    declared_kept more (declared_in (noted (codes "sdef") tag names) kids) name
    (declared_kept kids (noted (codes "sdef") tag names) name
    (noted_new (codes "sdef") tag names name x))
declared_read (Element tag kids more) names name (inr (inl x)) =
    declared_kept more (declared_in (noted (codes "sdef") tag names) kids) name
    (declared_read kids (noted (codes "sdef") tag names) name x)
declared_read (Element tag kids more) names name (inr (inr x)) =
    declared_read more (declared_in (noted (codes "sdef") tag names) kids) name x
