-- The last uses of paradigms, and the drafts that are there until then.
use Rattle.std.proofs.Common.{◌≡◌, inl, inr, ℕ, ◌+◌, ◌<◌, ◌≤◌, ◌≢◌, List, [], ◌∷◌, ◌++◌, refl, sym, ◌∙◌, ap, subst, arith, Option, Some, None, slice_get, length, length-append, take, get_or, suc, zero}
use Rattle.std.specs.Prelude.{IsTrue, IfSome, false, nat_lt, slice_set}
use Rattle.std.specs.List.{list_all}
use Rattle.std.proofs.lemmas.Bool.{and_parts, cases_eq}
use Rattle.std.proofs.lemmas.Bool.Decides.{nat_tests}
use Rattle.std.proofs.lemmas.List.{take_more}
use Rattle.std.proofs.lemmas.Option.{slice_get-get_or}
use Rattle.ap_symbol.specs.Lists.{IsIn}
use Rattle.ap_dix.specs.Soundness.{IsSound, is_sound_part, is_sound_entry}
use Rattle.ap_dix.specs.declared.dictionary.Dictionary.{Dictionary}
use Rattle.ap_dix.specs.declared.dictionary.Direction.{Direction}
use Rattle.ap_dix.specs.declared.dictionary.Entry.{Entry}
use Rattle.ap_dix.specs.declared.dictionary.EntryPart.{EntryPart}
use Rattle.ap_dix.specs.declared.dictionary.EntryPart.TheVariants.{Identity, Pair, Paradigm, Expression}
use Rattle.ap_dix.specs.declared.dictionary.Pardef.{Pardef}
use Rattle.ap_dix.specs.declared.dictionary.Section.{Section}
use Rattle.ap_fst.specs.Sketches.{Sketch}
use Rattle.ap_compile.specs.Drafts.{IsDraftOf, Any, Spells, AreDraftedParts, AreDraftedSections, has_draft, is_draft, is_drafted_part, is_drafted_entry}
use Rattle.ap_compile.specs.LastUses.{paradigms_of, paradigms_in, AreLater, AreUsedTo, CoverPardefs, CoverSections, AreLastUses, AreReleased, AreDraftsTo}
use Rattle.ap_compile.proofs.Choosing.{in_front, in_back, in_either}
use Rattle.ap_compile.proofs.Deriving.{drafts_more}
use Rattle.ap_compile.proofs.Gathered.{both_true}

-- last uses become no earlier

pub later_on : (a b c : List ℕ) → AreLater a b → AreLater b c → AreLater a c
later_on a b c h k = record {
  count = k.count ∙ h.count;
  each = λ n. omega (arith, h.each n, k.each n);
}

pub used_later : (paradigms : List ℕ) (at : ℕ) (old new : List ℕ) → AreLater old new →
    AreUsedTo old paradigms at → AreUsedTo new paradigms at
used_later paradigms at old new later h =
    λ n i lt. omega (arith, h n i (omega (arith, later.count)), later.each n)

-- one use more is noted
pub used_more : (used : List ℕ) (i n d at : ℕ) (old new : List ℕ) → i < length used →
    n ≡ get_or used i d → AreLater old new → AreUsedTo old (take i used) at →
    (n < length new → at ≤ get_or new n 0) → AreUsedTo new (take (i + 1) used) at
used_more used i n d at old new lt is later h noted =
    let e : take (i + 1) used ≡ take i used ++ n ∷ [] =
    take_more used i d lt ∙ ap (λ z. take i used ++ z ∷ []) (sym is) in
    λ m k below. elim (in_either m (take i used) (n ∷ []) (subst (IsIn m) e k)) [
      | inl there ↦ used_later (take i used) at old new later h m there below
      | inr there ↦ elim there [
        | inl same ↦ subst (λ (z : ℕ). at ≤ get_or new z 0) (sym same)
            (noted (subst (λ (z : ℕ). z < length new) same below))
        | inr z ↦ elim z [ ]
      ]
    ]

pub pardefs_more : (pardefs : List Pardef) (i : ℕ) (pardef p : Pardef) (old new : List ℕ) →
    i < length pardefs → pardef ≡ get_or pardefs i p → AreLater old new →
    ((k : ℕ) (q : Pardef) → k < i → slice_get pardefs k ≡ Some q →
    AreUsedTo old (paradigms_in q.entries) k) → AreUsedTo new (paradigms_in pardef.entries) i
    → (k : ℕ) (q : Pardef) → k < i + 1 → slice_get pardefs k ≡ Some q →
    AreUsedTo new (paradigms_in q.entries) k
pardefs_more pardefs i pardef p old new lt is later h noted k q below at =
    elim (cases_eq k i) [
      | inl e ↦
          let here : slice_get pardefs i ≡ Some pardef =
          slice_get-get_or pardefs i p lt ∙ ap Some (sym is) in
          let there : slice_get pardefs i ≡ Some q =
          subst (λ (z : ℕ). slice_get pardefs z ≡ Some q) e at in
          let same : pardef ≡ q = cc in
          subst (λ (z : ℕ). AreUsedTo new (paradigms_in q.entries) z) (sym e)
          (subst (λ (z : Pardef). AreUsedTo new (paradigms_in z.entries) i) same noted)
      | inr d ↦ used_later (paradigms_in q.entries) k old new later (h k q (omega arith) at)
    ]

pub sections_more : (sections : List Section) (i : ℕ) (section s : Section) (at : ℕ)
    (old new : List ℕ) → i < length sections → section ≡ get_or sections i s → AreLater old new →
    CoverSections old (take i sections) at → AreUsedTo new (paradigms_in section.entries) at →
    CoverSections new (take (i + 1) sections) at
sections_more sections i section s at old new lt is later h noted =
    let e : take (i + 1) sections ≡ take i sections ++ section ∷ [] =
    take_more sections i s lt ∙ ap (λ z. take i sections ++ z ∷ []) (sym is) in
    λ x k. elim (in_either x (take i sections) (section ∷ [])
    (subst (λ (zs : List Section). IsIn x zs) e k)) [
      | inl there ↦ used_later (paradigms_in x.entries) at old new later (h x there)
      | inr there ↦ elim there [
        | inl same ↦ subst (λ (z : Section). AreUsedTo new (paradigms_in z.entries) at)
            (sym same) noted
        | inr z ↦ elim z [ ]
      ]
    ]

-- what is sound has drafts, where the paradigms that it names have

pub drafted_parts : (k : ℕ) (drafts : List (Option Sketch)) (parts : List EntryPart) →
    IsTrue (list_all (is_sound_part k) parts) →
    ((n : ℕ) → IsIn n (paradigms_of parts) → n < k → IsTrue (has_draft drafts n)) →
    AreDraftedParts drafts parts
drafted_parts k drafts [] sound h = refl
drafted_parts k drafts (Identity word ∷ parts) sound h =
    let both = and_parts (is_sound_part k (Identity word)) (list_all (is_sound_part k) parts) sound
    in both_true (is_drafted_part drafts (Identity word)) (list_all (is_drafted_part drafts) parts)
    both.0 (drafted_parts k drafts parts both.1 h)
drafted_parts k drafts (Pair left right ∷ parts) sound h =
    let both = and_parts (is_sound_part k (Pair left right)) (list_all (is_sound_part k) parts)
    sound in
    both_true (is_drafted_part drafts (Pair left right)) (list_all (is_drafted_part drafts) parts)
    both.0 (drafted_parts k drafts parts both.1 h)
drafted_parts k drafts (Expression e text ∷ parts) sound h =
    let both = and_parts (is_sound_part k (Expression e text)) (list_all (is_sound_part k) parts)
    sound in
    both_true (is_drafted_part drafts (Expression e text)) (list_all (is_drafted_part drafts) parts)
    both.0 (drafted_parts k drafts parts both.1 h)
drafted_parts k drafts (Paradigm n ∷ parts) sound h =
    let both = and_parts (is_sound_part k (Paradigm n)) (list_all (is_sound_part k) parts) sound in
    let test : IsTrue (nat_lt n k) = both.0 in
    let below : n < k = grind (arith, nat_tests) in
    both_true (is_drafted_part drafts (Paradigm n)) (list_all (is_drafted_part drafts) parts)
    (h n (inl refl) below) (drafted_parts k drafts parts both.1 (λ m i. h m (inr i)))

pub drafted_entries : (k : ℕ) (drafts : List (Option Sketch)) (entries : List Entry) →
    IsTrue (list_all (is_sound_entry k) entries) →
    ((n : ℕ) → IsIn n (paradigms_in entries) → n < k → IsTrue (has_draft drafts n)) →
    IsTrue (list_all (is_drafted_entry drafts) entries)
drafted_entries k drafts [] sound h = refl
drafted_entries k drafts (entry ∷ entries) sound h =
    let both = and_parts (is_sound_entry k entry) (list_all (is_sound_entry k) entries) sound in
    both_true (is_drafted_entry drafts entry) (list_all (is_drafted_entry drafts) entries)
    (drafted_parts k drafts entry.parts both.0
    (λ n i. h n (in_front n (paradigms_of entry.parts) (paradigms_in entries) i)))
    (drafted_entries k drafts entries both.1
    (λ n i. h n (in_back n (paradigms_of entry.parts) (paradigms_in entries) i)))

pub drafted_sections : (k : ℕ) (drafts : List (Option Sketch)) (sections : List Section) →
    IsTrue (list_all (λ (s : Section). list_all (is_sound_entry k) s.entries) sections) →
    ((s : Section) → IsIn s sections → (n : ℕ) → IsIn n (paradigms_in s.entries) → n < k →
    IsTrue (has_draft drafts n)) → AreDraftedSections drafts sections
drafted_sections k drafts [] sound h = refl
drafted_sections k drafts (s ∷ sections) sound h =
    let both = and_parts (list_all (is_sound_entry k) s.entries)
    (list_all (λ (x : Section). list_all (is_sound_entry k) x.entries) sections) sound in
    both_true (list_all (is_drafted_entry drafts) s.entries)
    (list_all (λ (x : Section). list_all (is_drafted_entry drafts) x.entries) sections)
    (drafted_entries k drafts s.entries both.0 (h s (inl refl)))
    (drafted_sections k drafts sections both.1 (λ x i. h x (inr i)))

-- the entries of the next paradigm
pub next_drafted : (d : Dictionary) (direction : Direction) (last : List ℕ) (at : ℕ)
    (drafts : List (Option Sketch)) (pardef : Pardef) → AreDraftsTo d direction last at drafts →
    AreLastUses d last → at < length d.pardefs → slice_get d.pardefs at ≡ Some pardef →
    IsTrue (list_all (is_sound_entry at) pardef.entries) →
    IsTrue (list_all (is_drafted_entry drafts) pardef.entries)
next_drafted d direction last at drafts pardef are uses lt here sound =
    drafted_entries at drafts pardef.entries sound
    (λ n i below. are.there n below
    (uses.pardefs at pardef here n i (omega (arith, uses.count))))

-- and at the end those of the sections
pub all_drafted : (d : Dictionary) (direction : Direction) (last : List ℕ)
    (drafts : List (Option Sketch)) → AreDraftsTo d direction last (length d.pardefs) drafts →
    AreLastUses d last → IsSound d → AreDraftedSections drafts d.sections
all_drafted d direction last drafts are uses sound =
    drafted_sections (length d.pardefs) drafts d.sections sound.sections
    (λ s i n k below. are.there n below (uses.sections s i n k (omega (arith, uses.count))))

-- drafts are let go

-- the drafts as another paradigm is drafted

snoc_front : {X : Type 0} (xs : List X) (x : X) (k : ℕ) → k < length xs →
    slice_get (xs ++ x ∷ []) k ≡ slice_get xs k
snoc_front [] x k lt = absurd (omega arith)
snoc_front (y ∷ xs) x zero lt = refl
snoc_front (y ∷ xs) x (suc k) lt = snoc_front xs x k (omega arith)

snoc_last : {X : Type 0} (xs : List X) (x : X) → slice_get (xs ++ x ∷ []) (length xs) ≡ Some x
snoc_last [] x = refl
snoc_last (y ∷ xs) x = snoc_last xs x

pub drafted_more : (d : Dictionary) (direction : Direction) (last : List ℕ) (at : ℕ)
    (drafts : List (Option Sketch)) (draft : Option Sketch) (pardef : Pardef) →
    AreDraftsTo d direction last at drafts → slice_get d.pardefs at ≡ Some pardef →
    (draft ≡ None → get_or last at 0 ≤ at) →
    ((made : Sketch) → draft ≡ Some made → IsDraftOf (Any (Spells d direction) pardef.entries) made)
    → AreDraftsTo d direction last (at + 1) (drafts ++ draft ∷ [])
drafted_more d direction last at drafts draft pardef are here unused made = record {
  count = omega (arith, length-append drafts (draft ∷ []), are.count);
  made = drafts_more d direction drafts draft pardef at (sym are.count) here are.made made;
  there = λ n lt le. elim (cases_eq n at) [
    | inl e ↦
        let one : slice_get (drafts ++ draft ∷ []) n ≡ Some draft =
        ap (slice_get (drafts ++ draft ∷ [])) (e ∙ sym are.count) ∙ snoc_last drafts draft in
        subst (λ (z : Option (Option Sketch)). IsTrue (is_draft z)) (sym one)
        (some_draft draft (λ none. let k : get_or last n 0 ≡ get_or last at 0 =
        ap (λ z. get_or last z 0) e in omega (arith, unused none)))
    | inr other ↦ subst (λ (z : Option (Option Sketch)). IsTrue (is_draft z))
        (sym (snoc_front drafts draft n (omega (arith, are.count))))
        (are.there n (omega arith) (omega arith))
  ];
}
  where
    some_draft : (draft : Option Sketch) → (draft ≡ None → ⊥) → IsTrue (is_draft (Some draft))
    some_draft None h = absurd (h refl)
    some_draft (Some x) h = refl

pub drafted_less : (d : Dictionary) (direction : Direction) (last : List ℕ) (at : ℕ)
    (old new : List (Option Sketch)) → AreDraftsTo d direction last (at + 1) old →
    AreReleased last at old new → AreDraftsTo d direction last (at + 1) new
drafted_less d direction last at old new are less = record {
  count = less.count ∙ are.count;
  made = record { each = λ n draft is. are.made.each n draft (less.some n draft is) };
  there = λ n lt le. subst (λ (z : Option (Option Sketch)). IsTrue (is_draft z))
      (sym (less.same n (omega arith))) (are.there n lt le);
}

pub is_unused : (last : List ℕ) (at n latest : ℕ) → n ≡ at → latest ≡ get_or last n 0 →
    nat_lt n latest ≡ false → get_or last at 0 ≤ at
is_unused last at n latest same is test =
    let le : latest ≤ n = grind (arith, nat_tests) in
    subst (λ (z : ℕ). get_or last z 0 ≤ z) same (omega (arith, is))

pub of_some : {X : Type 0} (P : X → Type 0) (found : Option X) (x : X) → IfSome found P →
    found ≡ Some x → P x
of_some P found x h e = subst (λ z. IfSome z P) e h

pub next_pardef : (d : Dictionary) (at : ℕ) (pardef p : Pardef) → at < length d.pardefs →
    pardef ≡ get_or d.pardefs at p → slice_get d.pardefs at ≡ Some pardef
next_pardef d at pardef p lt is = slice_get-get_or d.pardefs at p lt ∙ ap Some (sym is)

pub to_same : (d : Dictionary) (direction : Direction) (last last' : List ℕ) (at at' : ℕ)
    (drafts : List (Option Sketch)) → last ≡ last' → at ≡ at' →
    AreDraftsTo d direction last at drafts → AreDraftsTo d direction last' at' drafts
to_same d direction last last' at at' drafts e k h =
    subst (λ (z : List ℕ). AreDraftsTo d direction z at' drafts) e
    (subst (λ (z : ℕ). AreDraftsTo d direction last z drafts) k h)
