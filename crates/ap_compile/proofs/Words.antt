use Rattle.std.proofs.Common.{◌≡◌, ℕ, ◌+◌, ◌<◌, ◌≤◌, true, List, [], ◌∷◌, ◌++◌, refl, ◌∙◌, ap, subst, arith, Option, Some, None, slice_get, length, take, suc, zero, map}
use Rattle.std.specs.Prelude.{IsTrue, max}
use Rattle.std.specs.List.{list_all}
use Rattle.std.proofs.lemmas.Bool.{and_parts, and_from}
use Rattle.std.proofs.lemmas.List.{take_more}
use Rattle.std.proofs.lemmas.Option.{slice_get_within, get_or_from_slice_get}
use Rattle.ap_symbol.specs.TagNames.{is_tag_name}
use Rattle.ap_symbol.specs.Words.{is_proper, is_word_symbol}
use Rattle.ap_symbol.specs.declared.symbol.Symbol.{Symbol}
use Rattle.ap_symbol.specs.declared.symbol.Symbol.TheVariants.{Letter, Tag, Blank, Join, Queue, Alarm, Star, At}
use Rattle.ap_dix.specs.Derivation.{label, paired, swapped}
use Rattle.ap_dix.specs.Soundness.{is_entry_symbol}
use Rattle.ap_fst.specs.Sections.{is_plain_side, is_plain_label}
use Rattle.ap_fst.specs.Sides.{has_side}
use Rattle.ap_compile.specs.Labels.{derived_label, label_of, IsEntryWord}

-- a word has as many pairs as its longer side has symbols

pub paired_length : (left right : List Symbol) → length (paired left right)
    ≡ max (length left) (length right)
paired_length [] [] = refl
paired_length (a ∷ left) [] = ap suc (paired_length left []) ∙ grind arith
paired_length [] (b ∷ right) = ap suc (paired_length [] right) ∙ grind arith
paired_length (a ∷ left) (b ∷ right) = ap suc (paired_length left right) ∙ grind arith

pub longer_left : (left right : List Symbol) → length right ≤ length left →
    length left ≡ length (paired left right)
longer_left left right h = omega (arith, paired_length left right)

pub longer_right : (left right : List Symbol) → length left < length right →
    length right ≡ length (paired left right)
longer_right left right h = omega (arith, paired_length left right)

none_at : (n : ℕ) → slice_get (let none : List Symbol = [] in none) n ≡ None
none_at zero = refl
none_at (suc n) = refl

-- the pair at a place
pub paired_at : (left right : List Symbol) (i : ℕ) → i < length (paired left right) →
    slice_get (paired left right) i ≡ Some (derived_label (label_of left right i))
paired_at [] [] i h = absurd (omega arith)
paired_at (a ∷ left) [] zero h = refl
paired_at (a ∷ left) [] (suc i) h = paired_at left [] i (omega arith)
    ∙ ap (λ (z : Option Symbol). Some (label (slice_get left i) z)) (none_at i)
paired_at [] (b ∷ right) zero h = refl
paired_at [] (b ∷ right) (suc i) h = paired_at [] right i (omega arith)
    ∙ ap (λ (z : Option Symbol). Some (label z (slice_get right i))) (none_at i)
paired_at (a ∷ left) (b ∷ right) zero h = refl
paired_at (a ∷ left) (b ∷ right) (suc i) h = paired_at left right i (omega arith)

pub take_next : {X : Type 0} (xs : List X) (i : ℕ) (x : X) → slice_get xs i ≡ Some x →
    take (i + 1) xs ≡ take i xs ++ x ∷ []
take_next xs i x h = take_more xs i x (slice_get_within xs i x h)
    ∙ ap (λ z. take i xs ++ z ∷ []) (get_or_from_slice_get xs i x x h)

-- words in each other's place
pub paired_swapped : (left right : List Symbol) → map swapped (paired left right)
    ≡ paired right left
paired_swapped [] [] = refl
paired_swapped (a ∷ left) [] = ap (λ z. label None (Some a) ∷ z) (paired_swapped left [])
paired_swapped [] (b ∷ right) = ap (λ z. label (Some b) None ∷ z) (paired_swapped [] right)
paired_swapped (a ∷ left) (b ∷ right) =
    ap (λ z. label (Some b) (Some a) ∷ z) (paired_swapped left right)

-- the labels of words are plain

plain_symbol : (s : Symbol) → IsTrue (is_proper s) → IsTrue (is_entry_symbol s) →
    IsTrue (is_plain_side (Some s))
plain_symbol (Letter c) h k = (and_parts (is_word_symbol (Letter c)) true h).0
plain_symbol (Tag name) h k = (and_parts (is_word_symbol (Tag name)) (is_tag_name name) h).1
plain_symbol Blank h k = refl
plain_symbol Join h k = refl
plain_symbol Queue h k = refl
plain_symbol Alarm h k = refl
plain_symbol Star h k = k
plain_symbol At h k = k

plain_at : (word : List Symbol) (i : ℕ) → IsTrue (list_all is_proper word) →
    IsTrue (list_all is_entry_symbol word) → IsTrue (is_plain_side (slice_get word i))
plain_at [] zero h k = refl
plain_at [] (suc i) h k = refl
plain_at (s ∷ word) zero h k =
    plain_symbol s ((and_parts (is_proper s) (list_all is_proper word) h).0)
    ((and_parts (is_entry_symbol s) (list_all is_entry_symbol word) k).0)
plain_at (s ∷ word) (suc i) h k =
    plain_at word i ((and_parts (is_proper s) (list_all is_proper word) h).1)
    ((and_parts (is_entry_symbol s) (list_all is_entry_symbol word) k).1)

pub plain_label : (left right : List Symbol) (i : ℕ) → IsEntryWord left → IsEntryWord right →
    IsTrue (is_plain_label (label_of left right i))
plain_label left right i l r =
    and_from (is_plain_side (slice_get left i)) (is_plain_side (slice_get right i))
    (plain_at left i l.proper l.symbols) (plain_at right i r.proper r.symbols)

-- each label of two words has a side
pub sided : (left right : List Symbol) (i : ℕ) → i < length (paired left right) →
    IsTrue (has_side (label_of left right i))
sided [] [] i h = absurd (omega arith)
sided (a ∷ left) right zero h = refl
sided [] (b ∷ right) zero h = refl
sided (a ∷ left) [] (suc i) h = let e : IsTrue (has_side (label_of left [] i)) =
    sided left [] i (omega arith) in
    subst (λ (z : Option Symbol). IsTrue (has_side (record { left = slice_get left i; right = z })))
    (none_at i) e
sided [] (b ∷ right) (suc i) h = let e : IsTrue (has_side (label_of [] right i)) =
    sided [] right i (omega arith) in
    subst (λ (z : Option Symbol). IsTrue
    (has_side (record { left = z; right = slice_get right i }))) (none_at i) e
sided (a ∷ left) (b ∷ right) (suc i) h = sided left right i (omega arith)
