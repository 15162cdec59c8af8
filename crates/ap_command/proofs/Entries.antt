-- The lexicon of the entries of a dictionary.
use Rattle.std.proofs.Common.{◌≡◌, ℕ, Bool, List, [], ◌∷◌, ◌++◌, map, ap, sym, ◌∙◌, subst, refl, inl, inr}
use Rattle.std.specs.Option.{option_to_list}
use Rattle.ap_symbol.specs.Alphabet.{has_letter, is_in_closure}
use Rattle.ap_symbol.specs.Lists.{IsIn}
use Rattle.ap_symbol.specs.declared.symbol.Symbol.{Symbol}
use Rattle.ap_dix.specs.declared.dictionary.Dictionary.{Dictionary}
use Rattle.ap_dix.specs.declared.dictionary.Direction.{Direction}
use Rattle.ap_dix.specs.declared.dictionary.Entry.{Entry}
use Rattle.ap_dix.specs.Derivation.{Label as EntryLabel, Relates, Strings, left_word as entry_left, right_word as entry_right}
use Rattle.ap_fst.specs.Sections.{Parts, section_of}
use Rattle.ap_fst.specs.Sides.{left_word, right_word}
use Rattle.ap_fst.specs.declared.compiled.Kind2.{Kind2}
use Rattle.ap_fst.specs.declared.compiled.Kind2.TheVariants.{Standard, Inconditional, Postblank, Preblank}
use Rattle.ap_fst.specs.declared.label.Label.{Label}
use Rattle.ap_compile.specs.Compiling.{AcceptsStrings, IsCompiledFrom}
use Rattle.ap_compile.specs.Empties.{HasEmptyEntry, IsEmptyEntry, IsFirstEmpty, section_entries}
use Rattle.ap_compile.specs.Labels.{derived_labels}
use Rattle.ap_live.specs.Lexicon.{IsLexiconOf, Spelled, lexicon_of}
use Rattle.ap_live.specs.Relations.{relation_of}
use Rattle.ap_live.proofs.Lexicons.{lexicon_same}
use Rattle.ap_command.specs.Said.{Said, Entries}
use Rattle.ap_command.specs.Output.{kind_of, entries_relation, IsLexicon}
use Rattle.ap_command.specs.Reading.{HasEmptyInput, IsFirstEmptyInput}

left-same : (w : List Label) → entry_left (derived_labels w) ≡ left_word w
left-same [] = refl
left-same (l ∷ w) = ap (λ x. option_to_list l.left ++ x) (left-same w)

right-same : (w : List Label) → entry_right (derived_labels w) ≡ right_word w
right-same [] = refl
right-same (l ∷ w) = ap (λ x. option_to_list l.right ++ x) (right-same w)

abbrev given : EntryLabel → Label
given l = record { left = l.left; right = l.right }

derived-given : (labels : List EntryLabel) → derived_labels (map given labels) ≡ labels
derived-given [] = refl
derived-given (l ∷ labels) = ap (λ x. l ∷ x) (derived-given labels)

accepts : (d : Dictionary) (way : Direction) (p : Parts) → IsCompiledFrom d way p → (kind : Kind2) →
    AcceptsStrings d way (kind_of kind) (section_of p kind)
accepts d way p c Standard = c.standard
accepts d way p c Inconditional = c.inconditional
accepts d way p c Postblank = c.postblank
accepts d way p c Preblank = c.preblank

pub spelled-related : (d : Dictionary) (way : Direction) (p : Parts) → IsCompiledFrom d way p →
    (kind : Kind2) (left right : List Symbol) → Spelled (section_of p kind) left right →
    Relates d way (kind_of kind) left right
spelled-related d way p c kind left right s = record {
  labels = derived_labels s.labels;
  string = (accepts d way p c kind s.labels).0 s.accepted;
  left_is = left-same s.labels ∙ s.left_is;
  right_is = right-same s.labels ∙ s.right_is;
}

pub related-spelled : (d : Dictionary) (way : Direction) (p : Parts) → IsCompiledFrom d way p →
    (kind : Kind2) (left right : List Symbol) → Relates d way (kind_of kind) left right →
    Spelled (section_of p kind) left right
related-spelled d way p c kind left right r = record {
  labels = map given r.labels;
  accepted = (accepts d way p c kind (map given r.labels)).1
      (subst (λ labels. Strings d way (kind_of kind) labels)
      (sym (derived-given r.labels)) r.string);
  left_is = sym (left-same (map given r.labels))
      ∙ ap entry_left (derived-given r.labels) ∙ r.left_is;
  right_is = sym (right-same (map given r.labels)) ∙ ap entry_right (derived-given r.labels)
      ∙ r.right_is;
}

-- what the sections accept is what the entries relate, so that they have the same lexicon
pub dictionary-lexicon : (d : Dictionary) (way : Direction) (p : Parts) (sensitive : Bool) →
    IsCompiledFrom d way p →
    IsLexiconOf (lexicon_of p sensitive) sensitive (has_letter p.alphabet) (relation_of p) →
    IsLexicon way (Entries d) sensitive (lexicon_of p sensitive)
dictionary-lexicon d way p sensitive c i =
    lexicon_same (lexicon_of p sensitive) sensitive (has_letter p.alphabet)
    (is_in_closure d.alphabet) (relation_of p) (entries_relation way d)
    (λ kind left right. (
      spelled-related d way p c kind left right,
      related-spelled d way p c kind left right,
    )) c.alphabet i

listed : (before after : List Entry) (entry : Entry) → IsIn entry (before ++ entry ∷ after)
listed [] after entry = inl refl
listed (x ∷ before) after entry = inr (listed before after entry)

-- a first empty entry is one
first-has : (d : Dictionary) (direction : Direction) (entries : List Entry) (line : ℕ) →
    IsFirstEmpty d direction entries line → HasEmptyEntry d direction entries
first-has d direction entries line f =
    record {
      entry = f.entry;
      listed =
          subst (λ (xs : List Entry). IsIn f.entry xs) (sym f.whole)
          (listed f.before f.after f.entry);
      empty = f.empty;
    }

here : (d : Dictionary) (direction : Direction) (x : Entry) (xs : List Entry) →
    IsEmptyEntry d direction x → HasEmptyEntry d direction (x ∷ xs)
here d direction x xs e = record { entry = x; listed = inl refl; empty = e }

later : (d : Dictionary) (direction : Direction) (x : Entry) (xs : List Entry) →
    HasEmptyEntry d direction xs → HasEmptyEntry d direction (x ∷ xs)
later d direction x xs h = record { entry = h.entry; listed = inr h.listed; empty = h.empty }

same-first : (d : Dictionary) (direction : Direction) (before before' after after' : List Entry)
    (entry entry' : Entry) → IsEmptyEntry d direction entry → IsEmptyEntry d direction entry' →
    (HasEmptyEntry d direction before → ⊥) → (HasEmptyEntry d direction before' → ⊥) →
    before ++ entry ∷ after ≡ before' ++ entry' ∷ after' → entry ≡ entry'
same-first d direction [] [] after after' entry entry' e e' n n' same = cc
same-first d direction [] (x ∷ before') after after' entry entry' e e' n n' same =
    let head : entry ≡ x = cc in
    absurd (n' (here d direction x before'
    (subst (λ (y : Entry). IsEmptyEntry d direction y) head e)))
same-first d direction (x ∷ before) [] after after' entry entry' e e' n n' same =
    let head : entry' ≡ x = cc in
    absurd (n (here d direction x before
    (subst (λ (y : Entry). IsEmptyEntry d direction y) head e')))
same-first d direction (x ∷ before) (y ∷ before') after after' entry entry' e e' n n' same =
    let rest : before ++ entry ∷ after ≡ before' ++ entry' ∷ after' = cc in
    same-first d direction before before' after after' entry entry' e e'
    (λ h. n (later d direction x before h)) (λ h. n' (later d direction y before' h)) rest

-- the first empty entry has one line
one-first : (d : Dictionary) (direction : Direction) (entries : List Entry) (line line' : ℕ) →
    IsFirstEmpty d direction entries line → IsFirstEmpty d direction entries line' → line ≡ line'
one-first d direction entries line line' f g =
    f.line_is ∙ ap (λ (e : Entry). e.line)
    (same-first d direction f.before g.before f.after g.after f.entry g.entry f.empty g.empty
    f.first g.first (sym f.whole ∙ g.whole)) ∙ sym g.line_is

-- a first empty input side is one
pub first-input : (way : Direction) (content : Said) (line : ℕ) →
    IsFirstEmptyInput way content line → HasEmptyInput way content
first-input way (Entries d) line f = first-has d way (section_entries d.sections) line f
first-input way content line f = absurd f

-- and has one line
pub one-input : (way : Direction) (content : Said) (line line' : ℕ) →
    IsFirstEmptyInput way content line → IsFirstEmptyInput way content line' → line ≡ line'
one-input way (Entries d) line line' f g =
    one-first d way (section_entries d.sections) line line' f g
one-input way content line line' f g = absurd f
