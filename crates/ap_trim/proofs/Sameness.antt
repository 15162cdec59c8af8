-- Of analysers that say the same, the same is left by dictionaries that relate the same words.
use Rattle.std.proofs.Common.{◌≡◌, ℕ, Bool, true, false, List, [], ◌∷◌, sym, ap, ◌∙◌, refl, inl, inr}
use Rattle.std.specs.Prelude.{◌||◌}
use Rattle.ap_symbol.specs.Lists.{IsIn}
use Rattle.ap_symbol.specs.declared.symbol.Symbol.{Symbol}
use Rattle.ap_fst.specs.Sections.{Parts, IsCompiled, section_of}
use Rattle.ap_fst.specs.Sides.{right_word}
use Rattle.ap_fst.specs.Walks.{AcceptsLabels}
use Rattle.ap_fst.specs.declared.compiled.Kind2.{Kind2}
use Rattle.ap_fst.specs.declared.compiled.Kind2.TheVariants.{Standard, Inconditional, Postblank, Preblank}
use Rattle.ap_fst.specs.declared.label.Label.{Label}
use Rattle.ap_min.proofs.MachineLaws.{same_letters}
use Rattle.ap_live.specs.Found.{has_words}
use Rattle.ap_live.specs.Lexicon.{Reads, lexicon_of}
use Rattle.ap_live.specs.Relations.{AreSameRelations, relation_of}
use Rattle.ap_live.proofs.Coherence.{sections_proper, lexicon_is}
use Rattle.ap_live.proofs.Finding.{OneRendering}
use Rattle.ap_lookup.specs.Laws.{IsPrefix, HasNone}
use Rattle.ap_lookup.specs.Translation.{translation}
use Rattle.ap_lookup.proofs.Prefixes.{no_head}
use Rattle.ap_trim.specs.Trimming.{holds_joint, is_translated, is_kept, Trimmed, IsTrimmedBy, SayTheSame}
use Rattle.ap_trim.proofs.Uniqueness.{One}

-- ---- translation by dictionaries that relate the same words

no_words : (words : List (List Symbol)) → has_words words ≡ false → words ≡ []
no_words [] h = refl
no_words (word ∷ words) h = cc

module _ (law : OneRendering) (p q : Parts) (pc : IsCompiled p) (qc : IsCompiled q)
    (same : AreSameRelations (relation_of p) (relation_of q)) where
  read_same : (kind : Kind2) (seen right : List Symbol) →
      IsIn right ((lexicon_of p false).readings kind seen) →
      IsIn right ((lexicon_of q false).readings kind seen)
  read_same kind seen right i =
      let r : Reads false (relation_of p) kind seen right =
      ((lexicon_is law p false pc (sections_proper p pc)).exactly kind seen right).0 i in
      let s : Reads false (relation_of q) kind seen right =
      record { left = r.left; related = (same kind r.left right).0 r.related; fit = r.fit } in
      ((lexicon_is law q false qc (sections_proper q qc)).exactly kind seen right).1 s

  prefix_same : (word : List Symbol) (n : ℕ) → IsPrefix (lexicon_of p false) word n →
      IsPrefix (lexicon_of q false) word n
  prefix_same word n f = record {
    some = f.some;
    within = f.within;
    whole = f.whole;
    kind = f.kind;
    right = f.right;
    read = read_same f.kind _ f.right f.read;
  }

  none_same : (word : List Symbol) → HasNone (lexicon_of q false) word →
      HasNone (lexicon_of p false) word
  none_same word (inl m) = inl m
  none_same word (inr none) = inr (λ n f. none n (prefix_same word n f))

  translated_same : (word : List Symbol) → is_translated (lexicon_of p false) word ≡ true →
      is_translated (lexicon_of q false) word ≡ true
  translated_same word h =
      by (has_words (translation (lexicon_of q false) false word).heads) refl
    where
      by : (b : Bool) → has_words (translation (lexicon_of q false) false word).heads ≡ b → b ≡ true
      by true e = refl
      by false e =
          let none : HasNone (lexicon_of p false) word =
          none_same word ((no_head (lexicon_of q false) word false).0
          (no_words (translation (lexicon_of q false) false word).heads e)) in
          let no : (translation (lexicon_of p false) false word).heads ≡ [] =
          (no_head (lexicon_of p false) word false).1 none in
          ap has_words (sym no) ∙ h

  kept_same : (word : List Symbol) → is_kept (lexicon_of p false) word ≡ true →
      is_kept (lexicon_of q false) word ≡ true
  kept_same word h =
      by (holds_joint word) (is_translated (lexicon_of p false) word)
      (is_translated (lexicon_of q false) word) h (translated_same word)
    where
      by : (a b c : Bool) → (a || b) ≡ true → (b ≡ true → c ≡ true) → (a || c) ≡ true
      by true b c h go = refl
      by false b c h go = go h

-- ---- what is left

back : (R Q : Kind2 → List Symbol → List Symbol → Type 0) → AreSameRelations R Q →
    AreSameRelations Q R
back R Q same kind left right = ((same kind left right).1, (same kind left right).0)

module _ (law : OneRendering) (mono other bilingual second a b : Parts)
    (bc : IsCompiled bilingual) (sc : IsCompiled second) (say : SayTheSame mono other)
    (same : AreSameRelations (relation_of bilingual) (relation_of second))
    (f : IsTrimmedBy mono bilingual a) (g : IsTrimmedBy other second b) where
  there : (kind : Kind2) (labels : List Label) → AcceptsLabels (section_of a kind) labels →
      AcceptsLabels (section_of b kind) labels
  there kind labels h =
      let t : Trimmed mono bilingual kind labels = (f.exactly kind labels).0 h in
      (g.exactly kind labels).1 (
        (say.strings kind labels).0 t.0,
        kept_same law bilingual second bc sc same (right_word labels) t.1,
      )

  again : (kind : Kind2) (labels : List Label) → AcceptsLabels (section_of b kind) labels →
      AcceptsLabels (section_of a kind) labels
  again kind labels h =
      let t : Trimmed other second kind labels = (g.exactly kind labels).0 h in
      (f.exactly kind labels).1 (
        (say.strings kind labels).1 t.0,
        kept_same law second bilingual sc bc (back (relation_of bilingual) (relation_of second) same)
            (right_word labels) t.1,
      )

pub same_left : One → OneRendering → (mono other bilingual second a b : Parts) →
    IsCompiled mono → IsCompiled other → IsCompiled bilingual → IsCompiled second →
    SayTheSame mono other → AreSameRelations (relation_of bilingual) (relation_of second) →
    IsTrimmedBy mono bilingual a → IsTrimmedBy other second b → a ≡ b
same_left one law mono other bilingual second a b mc oc bc sc say same f g =
    let section : (kind : Kind2) → section_of a kind ≡ section_of b kind =
    λ kind. one (section_of a kind) (section_of b kind) (f.canonical kind) (g.canonical kind)
    (λ w. (
      there law mono other bilingual second a b bc sc say same f g kind w,
      again law mono other bilingual second a b bc sc say same f g kind w,
    )) in
    let alphabet : a.alphabet ≡ b.alphabet =
    f.alphabet ∙ same_letters mono.alphabet other.alphabet mc.letters.ascend oc.letters.ascend
    say.letters ∙ sym g.alphabet in
    let way : a.way ≡ b.way = f.way ∙ say.way ∙ sym g.way in
    let standard : a.standard ≡ b.standard = section Standard in
    let inconditional : a.inconditional ≡ b.inconditional = section Inconditional in
    let postblank : a.postblank ≡ b.postblank = section Postblank in
    let preblank : a.preblank ≡ b.preblank = section Preblank in
    λ i. record {
      alphabet = alphabet i;
      way = way i;
      standard = standard i;
      inconditional = inconditional i;
      postblank = postblank i;
      preblank = preblank i;
    }
