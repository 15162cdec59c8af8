use Rattle.std.proofs.Common.{◌≡◌, ◌↔◌, ◌||◌, IsTrue, ℕ, zero, suc, ◌+◌, Bool, true, false, cond, List, [], ◌∷◌, ◌++◌, length, refl, sym, ap, ◌∙◌, arith, add-one, Option, Some, None, string_bytes, bytes_eq, slice_set, slice_index_or, inl, inr, Result}
use Rattle.std.specs.List.{position, position_from}
use Rattle.std.specs.Option.{option_map}
use Rattle.std.proofs.lemmas.Iterator.Adapters.{position_from-zero}
use Rattle.std.proofs.lemmas.Slice.Eq.{bytes_eq-Decides}
use Rattle.std.proofs.lemmas.List.{get_or-set_other}
use mathlib.Core.Path.{fun_ext}
use Rattle.ap_outside.specs.Held.{place_of, content_at, content_of, faults_at, faults_of, ShareCount}
use Rattle.std.proofs.lemmas.Bool.{cases_Bool}
use Rattle.ap_outside.specs.StoreCauses.{SparesLoadFaults}
use Rattle.ap_outside.specs.declared.files.StoreRefusal.{StoreRefusal}
use Rattle.ap_outside.specs.Told.{with_held}
use Rattle.ap_outside.specs.declared.mem_file.MemFile.{MemFile}

-- ---- a list and its rest

position_from-suc : {A : Type 0} (p : A → Bool) (xs : List A) (i : ℕ) → position_from p (i + 1) xs
    ≡ option_map suc (position_from p i xs)
position_from-suc p [] i = refl
position_from-suc p (x ∷ xs) i =
    elim (p x) as (λ b. cond b (Some (i + 1)) (position_from p (i + 1 + 1) xs)
    ≡ option_map suc (cond b (Some i) (position_from p (i + 1) xs)))
    [ true ↦ ap Some (add-one i) | false ↦ position_from-suc p xs (i + 1) ]

position-cons : {A : Type 0} (p : A → Bool) (x : A) (xs : List A) →
    position p (x ∷ xs) ≡ cond (p x) (Some 0) (option_map suc (position p xs))
position-cons p x xs =
    position_from-zero p (x ∷ xs)
    ∙ ap (λ r. cond (p x) (Some 0) r) (position_from-suc p xs 0
    ∙ ap (λ r. option_map suc r) (sym (position_from-zero p xs)))

abbrev is_named : MemFile → List ℕ → Bool
is_named f name = bytes_eq (string_bytes f.name) name

place-cons : (f : MemFile) (fs : List MemFile) (name : List ℕ) →
    place_of (f ∷ fs) name ≡ cond (is_named f name) (Some 0) (option_map suc (place_of fs name))
place-cons f fs name = position-cons (λ g. is_named g name) f fs

content_at-cons : (f : MemFile) (fs : List MemFile) (t : Bool) (r : Option ℕ) →
    content_at (f ∷ fs) (cond t (Some 0) (option_map suc r))
    ≡ cond t (Some f.bytes.items) (content_at fs r)
content_at-cons f fs true r = refl
content_at-cons f fs false None = refl
content_at-cons f fs false (Some k) = refl

content-cons : (f : MemFile) (fs : List MemFile) (name : List ℕ) → content_of (f ∷ fs) name
    ≡ cond (is_named f name) (Some f.bytes.items) (content_of fs name)
content-cons f fs name = ap (content_at (f ∷ fs)) (place-cons f fs name)
    ∙ content_at-cons f fs (is_named f name) (place_of fs name)

faults_at-cons : (n : ℕ) (ns : List ℕ) (absent : ℕ) (t : Bool) (r : Option ℕ) →
    faults_at (n ∷ ns) absent (cond t (Some 0) (option_map suc r))
    ≡ cond t n (faults_at ns absent r)
faults_at-cons n ns absent true r = refl
faults_at-cons n ns absent false None = refl
faults_at-cons n ns absent false (Some k) = refl

faults-cons : (f : MemFile) (fs : List MemFile) (n : ℕ) (ns : List ℕ) (absent : ℕ) (name : List ℕ) →
    faults_of (f ∷ fs) (n ∷ ns) absent name ≡ cond (is_named f name) n (faults_of fs ns absent name)
faults-cons f fs n ns absent name = ap (faults_at (n ∷ ns) absent) (place-cons f fs name)
    ∙ faults_at-cons n ns absent (is_named f name) (place_of fs name)

-- ---- what a place says of the first file

absent-cons : (t : Bool) (r : Option ℕ) → cond t (Some 0) (option_map suc r) ≡ None →
    (t ≡ false) × (r ≡ None)
absent-cons true r h = cc
absent-cons false None h = (refl, refl)
absent-cons false (Some k) h = cc

first-cons : (t : Bool) (r : Option ℕ) → cond t (Some 0) (option_map suc r) ≡ Some 0 → t ≡ true
first-cons true r h = refl
first-cons false None h = cc
first-cons false (Some k) h = cc

later-cons : (t : Bool) (r : Option ℕ) (at : ℕ) → cond t (Some 0) (option_map suc r) ≡ Some (suc at)
    → (t ≡ false) × (r ≡ Some at)
later-cons true r at h = cc
later-cons false None at h = cc
later-cons false (Some k) at h = (refl, cc)

-- ---- choices in a row

swapped : {X : Type 0} (a b : Bool) (x y z : X) → (a ≡ true → b ≡ true → ⊥) →
    cond a x (cond b y z) ≡ cond b y (cond a x z)
swapped true true x y z h = absurd (h refl refl)
swapped true false x y z h = refl
swapped false true x y z h = refl
swapped false false x y z h = refl

hidden : {X : Type 0} (a : Bool) (x y z : X) → cond a x z ≡ cond a x (cond a y z)
hidden true x y z = refl
hidden false x y z = refl

either_way : {X : Type 0} (a : Bool) (x : X) → cond a x x ≡ x
either_way true x = refl
either_way false x = refl

-- a text that is not this name is not another text that is
apart : (text name other : List ℕ) → bytes_eq text name ≡ false → bytes_eq text other ≡ true →
    bytes_eq name other ≡ true → ⊥
apart text name other n h k =
    let e : text ≡ name = (bytes_eq-Decides text other).0 h
    ∙ sym ((bytes_eq-Decides name other).0 k) in
    let y : bytes_eq text name ≡ true = (bytes_eq-Decides text name).1 e in
    cc

-- a file of another name stands before
behind : (f : MemFile) (fs gs : List MemFile) (name bytes other : List ℕ) → is_named f name ≡ false
    → content_of gs other ≡ cond (bytes_eq name other) (Some bytes) (content_of fs other)
    → content_of (f ∷ gs) other
    ≡ cond (bytes_eq name other) (Some bytes) (content_of (f ∷ fs) other)
behind f fs gs name bytes other away e =
    content-cons f gs other
    ∙ ap (λ r. cond (is_named f other) (Some f.bytes.items) r) e
    ∙ swapped (is_named f other) (bytes_eq name other) (Some f.bytes.items) (Some bytes)
    (content_of fs other) (apart (string_bytes f.name) name other away)
    ∙ ap (λ r. cond (bytes_eq name other) (Some bytes) r) (sym (content-cons f fs other))

-- ---- a file is rewritten

pub name_at : (fs : List MemFile) (at : ℕ) (d : MemFile) (name : List ℕ) →
    place_of fs name ≡ Some at → string_bytes (slice_index_or fs at d).name ≡ name
name_at [] at d name h = cc
name_at (f ∷ fs) zero d name h =
    (bytes_eq-Decides (string_bytes f.name) name).0
    (first-cons (is_named f name) (place_of fs name) (sym (place-cons f fs name) ∙ h))
name_at (f ∷ fs) (suc at) d name h =
    name_at fs at d name (later-cons (is_named f name) (place_of fs name)
    at (sym (place-cons f fs name) ∙ h)).1

content-set : (fs : List MemFile) (at : ℕ) (g : MemFile) (name other : List ℕ) →
    place_of fs name ≡ Some at → string_bytes g.name ≡ name
    → content_of (slice_set fs at g) other
    ≡ cond (bytes_eq name other) (Some g.bytes.items) (content_of fs other)
content-set [] at g name other h e = cc
content-set (f ∷ fs) zero g name other h e =
    let same : string_bytes f.name ≡ name = name_at (f ∷ fs) zero g name h in
    content-cons g fs other
    ∙ ap (λ n. cond (bytes_eq n other) (Some g.bytes.items) (content_of fs other)) e
    ∙ hidden (bytes_eq name other) (Some g.bytes.items) (Some f.bytes.items) (content_of fs other)
    ∙ ap (λ r. cond (bytes_eq name other) (Some g.bytes.items) r)
    (sym (content-cons f fs other
    ∙ ap (λ n. cond (bytes_eq n other) (Some f.bytes.items) (content_of fs other)) same))
content-set (f ∷ fs) (suc at) g name other h e =
    let l : (is_named f name ≡ false) × (place_of fs name ≡ Some at) =
    later-cons (is_named f name) (place_of fs name) at (sym (place-cons f fs name) ∙ h) in
    behind f fs (slice_set fs at g) name g.bytes.items other l.0
    (content-set fs at g name other l.1 e)

place-set : (fs : List MemFile) (at : ℕ) (g d : MemFile) (other : List ℕ) →
    string_bytes g.name ≡ string_bytes (slice_index_or fs at d).name →
    place_of (slice_set fs at g) other ≡ place_of fs other
place-set [] at g d other e = refl
place-set (f ∷ fs) zero g d other e =
    place-cons g fs other ∙ ap (λ n. cond (bytes_eq n other) (Some 0)
    (option_map suc (place_of fs other))) e ∙ sym (place-cons f fs other)
place-set (f ∷ fs) (suc at) g d other e =
    place-cons f (slice_set fs at g) other
    ∙ ap (λ r. cond (is_named f other) (Some 0) (option_map suc r))
    (place-set fs at g d other e) ∙ sym (place-cons f fs other)

pub rewritten : (fs : List MemFile) (at : ℕ) (g : MemFile) (name : List ℕ) →
    place_of fs name ≡ Some at → string_bytes g.name ≡ name
    → content_of (slice_set fs at g) ≡ with_held (content_of fs) name (Some g.bytes.items)
rewritten fs at g name h e = fun_ext (λ other. content-set fs at g name other h e)

pub places_stay : (fs : List MemFile) (at : ℕ) (g d : MemFile) →
    string_bytes g.name ≡ string_bytes (slice_index_or fs at d).name → place_of (slice_set fs at g)
    ≡ place_of fs
places_stay fs at g d e = fun_ext (λ other. place-set fs at g d other e)

-- ---- a file is appended

content-push : (fs : List MemFile) (g : MemFile) (name other : List ℕ) → place_of fs name ≡ None →
    string_bytes g.name ≡ name
    → content_of (fs ++ g ∷ []) other
    ≡ cond (bytes_eq name other) (Some g.bytes.items) (content_of fs other)
content-push [] g name other h e =
    content-cons g [] other ∙ ap (λ n. cond (bytes_eq n other) (Some g.bytes.items) None) e
content-push (f ∷ fs) g name other h e =
    let l : (is_named f name ≡ false) × (place_of fs name ≡ None) =
    absent-cons (is_named f name) (place_of fs name) (sym (place-cons f fs name) ∙ h) in
    behind f fs (fs ++ g ∷ []) name g.bytes.items other l.0 (content-push fs g name other l.1 e)

faults-push : (fs : List MemFile) (ns : List ℕ) (g : MemFile) (absent : ℕ) (other : List ℕ) →
    length ns ≡ length fs
    → faults_of (fs ++ g ∷ []) (ns ++ absent ∷ []) absent other ≡ faults_of fs ns absent other
faults-push [] [] g absent other h = faults-cons g [] absent [] absent other
    ∙ either_way (is_named g other) absent
faults-push [] (n ∷ ns) g absent other h = absurd (omega arith)
faults-push (f ∷ fs) [] g absent other h = absurd (omega arith)
faults-push (f ∷ fs) (n ∷ ns) g absent other h =
    faults-cons f (fs ++ g ∷ []) n (ns ++ absent ∷ []) absent other
    ∙ ap (λ r. cond (is_named f other) n r) (faults-push fs ns g absent other (omega arith))
    ∙ sym (faults-cons f fs n ns absent other)

pub appended : (fs : List MemFile) (g : MemFile) (name : List ℕ) → place_of fs name ≡ None →
    string_bytes g.name ≡ name
    → content_of (fs ++ g ∷ []) ≡ with_held (content_of fs) name (Some g.bytes.items)
appended fs g name h e = fun_ext (λ other. content-push fs g name other h e)

pub faults_stay : (fs : List MemFile) (ns : List ℕ) (g : MemFile) (absent : ℕ) →
    length ns ≡ length fs
    → faults_of (fs ++ g ∷ []) (ns ++ absent ∷ []) absent ≡ faults_of fs ns absent
faults_stay fs ns g absent h = fun_ext (λ other. faults-push fs ns g absent other h)

-- contents hold what they hold
pub held_stays : (at : List ℕ → Option (List ℕ)) (name : List ℕ) → at ≡ with_held at name (at name)
held_stays at name =
    fun_ext (λ other. elim (cases_Bool (bytes_eq name other)) [
      | inl y ↦ rw y (ap at (sym ((bytes_eq-Decides name other).0 y)))
      | inr n ↦ rw n refl
    ])

pub spares_same : {T : Type 0} (before now : List ℕ → ℕ) (result : Result T StoreRefusal) →
    now ≡ before → SparesLoadFaults before now result
spares_same before now result e = record {
  later = λ other. omega (arith, ap (λ (f : List ℕ → ℕ). f other) e);
  stays = λ _. e;
}

-- the bytes of a name are those at its place
pub content_placed : (fs : List MemFile) (at : ℕ) (d : MemFile) (name : List ℕ) →
    place_of fs name ≡ Some at → content_of fs name ≡ Some (slice_index_or fs at d).bytes.items
content_placed [] at d name h = cc
content_placed (f ∷ fs) zero d name h =
    content-cons f fs name ∙ ap (λ b. cond b (Some f.bytes.items) (content_of fs name))
    (first-cons (is_named f name) (place_of fs name) (sym (place-cons f fs name) ∙ h))
content_placed (f ∷ fs) (suc at) d name h =
    let l : (is_named f name ≡ false) × (place_of fs name ≡ Some at) =
    later-cons (is_named f name) (place_of fs name) at (sym (place-cons f fs name) ∙ h) in
    content-cons f fs name ∙ ap (λ b. cond b (Some f.bytes.items) (content_of fs name)) l.0
    ∙ content_placed fs at d name l.1

-- an answer that does not fail, where nothing makes the call fail
pub not_failed : {F : Type 0} (fails : Bool) → fails ≡ false → (F → ⊥) → F ↔ IsTrue fails
not_failed true h never = cc
not_failed false h never = (λ f. absurd (never f), λ t. absurd (cc))

pub neither : (a b : Bool) → a ≡ false → b ≡ false → (a || b) ≡ false
neither true b h k = cc
neither false b h k = k

-- ---- the count of one place changes

-- the counts that aren't those of a name that is there
other-place : (faults : List ℕ) (absent at count : ℕ) (place : Option ℕ) → (place ≡ Some at → ⊥) →
    faults_at (slice_set faults at count) absent place ≡ faults_at faults absent place
other-place faults absent at count None away = refl
other-place faults absent at count (Some k) away =
    get_or-set_other faults at k count 0 (λ same. away (ap Some same))

pub others_of_a_file : (files : List MemFile) (faults : List ℕ) (absent at count : ℕ)
    (name other : List ℕ) → place_of files name ≡ Some at → (ShareCount files name other → ⊥) →
    faults_of files (slice_set faults at count) absent other ≡ faults_of files faults absent other
others_of_a_file files faults absent at count name other there apart =
    other-place faults absent at count (place_of files other) (λ same. apart (same ∙ sym there))

-- and those that aren't the one of names that aren't there
there-place : (faults : List ℕ) (absent count : ℕ) (place : Option ℕ) → (place ≡ None → ⊥) →
    faults_at faults count place ≡ faults_at faults absent place
there-place faults absent count None away = absurd (away refl)
there-place faults absent count (Some k) away = refl

pub others_of_no_file : (files : List MemFile) (faults : List ℕ) (absent count : ℕ)
    (name other : List ℕ) → place_of files name ≡ None → (ShareCount files name other → ⊥) →
    faults_of files faults count other ≡ faults_of files faults absent other
others_of_no_file files faults absent count name other gone apart =
    there-place faults absent count (place_of files other) (λ same. apart (same ∙ sym gone))
