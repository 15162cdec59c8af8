-- Where one standard entry alone reads a surface without a capital, in one way.
use Rattle.std.specs.Prelude.{◌≡◌, ℕ, Bool, false, List, [], ◌∷◌, ◌++◌, drop, map, if◌then◌else◌, refl}
use Rattle.std.proofs.Common.{ap, sym, ◌∙◌, append_assoc, append-nil}
use Rattle.ap_symbol.specs.Recasing.{case_of_lem}
use Rattle.ap_symbol.specs.Rendering.{rendering}
use Rattle.ap_symbol.specs.declared.recasing.Case.TheVariants.{Low}
use Rattle.ap_symbol.specs.declared.symbol.Symbol.{Symbol}
use Rattle.ap_fst.specs.declared.compiled.Kind2.TheVariants.{Standard, Inconditional, Postblank, Preblank}
use Rattle.ap_stream.specs.Spelling.{unit_bytes}
use Rattle.ap_stream.specs.declared.item.Read.{Read}
use Rattle.ap_live.specs.Found.{in_order, has_words}
use Rattle.ap_live.specs.Lexicon.{Lexicon}
use Rattle.ap_live.specs.Readings.{carried}
use Rattle.ap_analysis.specs.Alone.{other_words, IsAlone}
use Rattle.ap_analysis.specs.Analysis.{readings_at, known_unit, known_text, space_at, swallowed}
use Rattle.ap_analysis.specs.Licence.{begins_alphabetic, standard_words, licensed_words, surface}
use Rattle.ap_analysis.proofs.Surfaces.{low_carried}

no_words : (words : List (List Symbol)) → has_words words ≡ false → words ≡ []
no_words [] e = refl
no_words (word ∷ words) e = absurd (cc)

no_first : (a b : List (List Symbol)) → has_words (a ++ b) ≡ false → has_words a ≡ false
no_first [] b e = refl
no_first (word ∷ a) b e = e

no_second : (a b : List (List Symbol)) → has_words (a ++ b) ≡ false → has_words b ≡ false
no_second [] b e = e
no_second (word ∷ a) b e = absurd (cc)

-- the bytes of a unit with one reading, written one piece behind the other
pub alone_bytes : (none one two three four five bytes : List ℕ) (seen word : List Symbol) →
    none ≡ [] → rendering seen ≡ bytes → one ≡ none ++ 94 ∷ [] → two ≡ one ++ bytes →
    three ≡ two ++ 47 ∷ [] → four ≡ three ++ rendering word → five ≡ four ++ 36 ∷ [] →
    five ≡ unit_bytes (seen ∷ word ∷ [])
alone_bytes none one two three four five bytes seen word n s o t h u e =
    let first : one ≡ 94 ∷ [] = o ∙ ap (λ (z : List ℕ). z ++ 94 ∷ []) n in
    let second : two ≡ 94 ∷ rendering seen = t ∙ ap (λ (z : List ℕ). z ++ bytes) first
    ∙ ap (λ (z : List ℕ). 94 ∷ z) (sym s) in
    let third : three ≡ 94 ∷ (rendering seen ++ 47 ∷ []) =
    h ∙ ap (λ (z : List ℕ). z ++ 47 ∷ []) second in
    let fourth : four ≡ 94 ∷ ((rendering seen ++ 47 ∷ []) ++ rendering word) =
    u ∙ ap (λ (z : List ℕ). z ++ rendering word) third in
    let joined : (rendering seen ++ 47 ∷ []) ++ rendering word
    ≡ rendering seen ++ ((47 ∷ rendering word) ++ []) =
    append_assoc (rendering seen) (47 ∷ []) (rendering word)
    ∙ ap (λ (z : List ℕ). rendering seen ++ z) (sym (append-nil (47 ∷ rendering word))) in
    e ∙ ap (λ (z : List ℕ). z ++ 36 ∷ []) fourth
    ∙ ap (λ (z : List ℕ). 94 ∷ (z ++ 36 ∷ [])) joined

module _ (lexicon : Lexicon) (sensitive : Bool) (reads : List Read) (n : ℕ) where
  abbrev seen : List Symbol
  seen = surface reads n

  -- one word alone is licensed, and it stays as it is
  one_reading : (word : List Symbol) → begins_alphabetic lexicon (drop n reads) ≡ false →
      has_words (other_words lexicon seen) ≡ false → case_of_lem seen ≡ Low →
      lexicon.readings Standard seen ≡ word ∷ [] →
      readings_at lexicon sensitive reads n ≡ word ∷ []
  one_reading word next others low is =
      let standard : standard_words lexicon reads n ≡ word ∷ [] =
      ap (λ (t : Bool). if t then [] else lexicon.readings Standard seen) next ∙ is in
      let licensed : licensed_words lexicon reads n ≡ word ∷ [] =
      ap (λ (z : List (List Symbol)). z ++ other_words lexicon seen) standard
      ∙ ap (λ (z : List (List Symbol)). word ∷ z) (no_words (other_words lexicon seen) others) in
      ap (λ (z : List (List Symbol)). in_order (map (carried sensitive seen) z)) licensed
      ∙ ap (λ (z : List Symbol). z ∷ []) (sym (low_carried sensitive seen word low))

  pub is_alone : (text : List ℕ) (word : List Symbol) →
      begins_alphabetic lexicon (drop n reads) ≡ false →
      has_words (other_words lexicon seen) ≡ false → case_of_lem seen ≡ Low →
      lexicon.readings Standard seen ≡ word ∷ [] → text ≡ unit_bytes (seen ∷ word ∷ []) →
      IsAlone lexicon sensitive reads n text
  is_alone text word next others low is e =
      let a = lexicon.readings Inconditional seen in
      let b = lexicon.readings Postblank seen in
      let c = lexicon.readings Preblank seen in
      let two : has_words (b ++ c) ≡ false = no_second a (b ++ c) others in
      record {
        unit = e ∙ ap (λ (z : List (List Symbol)). unit_bytes (seen ∷ z))
            (sym (one_reading word next others low is));
        before = ap (λ (t : Bool). if t then 32 ∷ [] else []) (no_second b c two);
        behind = ap (λ (t : Bool). if t then 32 ∷ [] else []) (no_first b c two);
      }

  -- the text of the step, where no space is written
  pub alone_text : (unit text : List ℕ) → IsAlone lexicon sensitive reads n unit →
      text ≡ unit ++ swallowed reads n → text ≡ known_text lexicon sensitive reads n
  alone_text unit text alone e =
      e ∙ ap (λ (z : List ℕ). z ++ swallowed reads n) alone.unit
      ∙ sym (ap (λ (z : List ℕ). z ++ (known_unit lexicon sensitive reads n
      ++ (space_at lexicon Postblank reads n ++ swallowed reads n))) alone.before
      ∙ ap (λ (z : List ℕ). known_unit lexicon sensitive reads n ++ (z ++ swallowed reads n))
      alone.behind)
