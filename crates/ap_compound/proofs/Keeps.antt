-- Explaining unknown words keeps superblanks, and what it writes is read on.
use Rattle.std.proofs.Common.{◌≡◌, inl, inr, ℕ, Bool, true, false, List, [], ◌∷◌, ◌++◌, map, None, refl}
use Rattle.std.specs.Prelude.{IsTrue, not, ◌&&◌, if◌then◌else◌}
use Rattle.std.specs.List.{list_all}
use Rattle.ap_symbol.specs.Coded.{IsCoded}
use Rattle.ap_symbol.specs.Kinds.{first_word}
use Rattle.ap_symbol.specs.Lists.{IsIn}
use Rattle.ap_symbol.specs.Words.{is_proper}
use Rattle.ap_symbol.specs.declared.symbol.Symbol.{Symbol}
use Rattle.ap_symbol.specs.declared.symbol.Symbol.TheVariants.{Join}
use Rattle.ap_fst.specs.declared.compiled.Kind2.TheVariants.{Standard, Inconditional, Postblank, Preblank}
use Rattle.ap_fst.proofs.Listing.{in_either}
use Rattle.ap_live.specs.Found.{in_order}
use Rattle.ap_live.specs.Lexicon.{Lexicon}
use Rattle.ap_live.specs.Readable.{IsReadable, GivesReadable}
use Rattle.ap_live.specs.Readings.{carried, any_words}
use Rattle.ap_live.proofs.Readables.{ordered_readable}
use Rattle.ap_stream.specs.Each.{each}
use Rattle.ap_stream.specs.Laws.{AreWords, EachSpelt}
use Rattle.ap_stream.specs.Pieces.{HaveSameSuperblanks, MakesNone}
use Rattle.ap_stream.specs.ReadOn.{Links}
use Rattle.ap_stream.specs.Reading.{reads}
use Rattle.ap_stream.specs.Told.{Clean}
use Rattle.ap_stream.specs.declared.dialect.Dialect.TheVariants.{Analysed}
use Rattle.ap_stream.proofs.EachKept.{each_keeps, each_read, neither, unit_has_none}
use Rattle.ap_stream.proofs.Faults.{fault_fine, each_fine}
use Rattle.ap_stream.proofs.Written.{each_spelt}
use Rattle.ap_compound.specs.Splits.{compounds, fewest, joined_word, may_split, compound_readings}
use Rattle.ap_compound.specs.Tags.{is_part_tag, bare}
use Rattle.ap_compound.specs.Works.{is_unknown, words_by, explained, compound_unit, compounds_text}
use Rattle.ap_compound.proofs.PartWords.{joined_words}

all_first : (a b : Bool) → IsTrue (a && b) → IsTrue a
all_first true b h = refl
all_first false b h = h

all_second : (a b : Bool) → IsTrue (a && b) → IsTrue b
all_second true b h = h
all_second false b h = absurd (cc)

all_both : (a b : Bool) → IsTrue a → IsTrue b → IsTrue (a && b)
all_both true b h k = k
all_both false b h k = h

-- a word of some of the symbols
kept_readable : (b : Bool) (x : Symbol) (word : List Symbol) → IsTrue (is_proper x) → IsCoded x →
    IsReadable word → IsReadable (if b then x ∷ word else word)
kept_readable true x word p c r =
    (all_both (is_proper x) (list_all is_proper word) p r.0, (c, r.1))
kept_readable false x word p c r = r

bare_readable : (word : List Symbol) → IsReadable word → IsReadable (bare word)
bare_readable [] h = h
bare_readable (x ∷ word) h =
    kept_readable (not (is_part_tag x)) x (bare word)
    (all_first (is_proper x) (list_all is_proper word) h.0) h.1.0
    (bare_readable word (all_second (is_proper x) (list_all is_proper word) h.0, h.1.1))

joins_readable : (front back : List Symbol) → IsReadable front → IsReadable back →
    IsReadable (front ++ Join ∷ back)
joins_readable [] back h k = (k.0, (tt, k.1))
joins_readable (x ∷ front) back h k =
    let r : IsReadable (front ++ Join ∷ back) =
    joins_readable front back (all_second (is_proper x) (list_all is_proper front) h.0, h.1.1) k in (
      all_both (is_proper x) (list_all is_proper (front ++ Join ∷ back))
          (all_first (is_proper x) (list_all is_proper front) h.0) r.0,
      (h.1.0, r.1),
    )

module _ (lexicon : Lexicon) (gives : GivesReadable lexicon) where
  any_readable : (symbols w : List Symbol) → IsIn w (any_words lexicon symbols) → IsReadable w
  any_readable symbols w i =
      let b : List (List Symbol) = lexicon.readings Inconditional symbols in
      let c : List (List Symbol) = lexicon.readings Postblank symbols in
      let d : List (List Symbol) = lexicon.readings Preblank symbols in
      elim (in_either w (lexicon.readings Standard symbols) (b ++ (c ++ d)) i) [
        | inl k ↦ gives Standard symbols w k
        | inr k ↦ elim (in_either w b (c ++ d) k) [
          | inl j ↦ gives Inconditional symbols w j
          | inr j ↦ elim (in_either w c d j) [
            | inl h ↦ gives Postblank symbols w h
            | inr h ↦ gives Preblank symbols w h
          ]
        ]
      ]

  by_may : (b sensitive : Bool) (surface w : List Symbol) → IsIn w (if b
      then in_order (map (carried sensitive surface)
      (map joined_word (fewest (compounds lexicon surface)))) else []) → IsReadable w
  by_may true sensitive surface w i =
      ordered_readable sensitive surface (map joined_word (fewest (compounds lexicon surface)))
      (joined_words IsReadable (refl, tt) bare_readable joins_readable lexicon any_readable surface)
      w i
  by_may false sensitive surface w i = absurd i

  readings_readable : (sensitive : Bool) (surface w : List Symbol) →
      IsIn w (compound_readings lexicon sensitive surface) → IsReadable w
  unfolding compound_readings
  readings_readable sensitive surface w i = by_may (may_split surface) sensitive surface w i

  words_stay : (words readings : List (List Symbol)) → AreWords Analysed words →
      EachSpelt readings → AreWords Analysed (words_by words readings)
  words_stay words [] h k = h
  words_stay [] (reading ∷ readings) h k = absurd h
  words_stay (surface ∷ words) (reading ∷ readings) h k = (h.0, h.1, h.2, k, refl)

  explained_by : (b sensitive : Bool) (words : List (List Symbol)) → AreWords Analysed words →
      AreWords Analysed (if b then words_by words
      (compound_readings lexicon sensitive (first_word words)) else words)
  explained_by true sensitive words h =
      words_stay words (compound_readings lexicon sensitive (first_word words)) h
      (each_spelt (compound_readings lexicon sensitive (first_word words))
      (readings_readable sensitive (first_word words)))
  explained_by false sensitive words h = h

  -- the words of a unit that is explained are words of a unit
  pub explained_words : (sensitive : Bool) (words : List (List Symbol)) → AreWords Analysed words →
      AreWords Analysed (explained lexicon sensitive words)
  explained_words sensitive words h = explained_by (is_unknown words) sensitive words h

  makes_none : (sensitive : Bool) →
      MakesNone Analysed Analysed (compound_unit lexicon sensitive)
  makes_none sensitive words h =
      unit_has_none Analysed (explained lexicon sensitive words) (explained_words sensitive words h)

pub compound_keeps : (lexicon : Lexicon) (sensitive : Bool) (text : List ℕ) →
    GivesReadable lexicon → (compounds_text lexicon sensitive text Clean).fault ≡ None →
    HaveSameSuperblanks Analysed Analysed text (compounds_text lexicon sensitive text Clean).text
compound_keeps lexicon sensitive text gives e =
    let n = neither (each (compound_unit lexicon sensitive) (reads Analysed 0 text).items).fault
    (reads Analysed 0 text).stop e in
    each_keeps Analysed Analysed (compound_unit lexicon sensitive) 0 text (λ c h. h)
    (makes_none lexicon gives sensitive) n.1 n.0

pub compound_read : (lexicon : Lexicon) (sensitive : Bool) → GivesReadable lexicon →
    Links Analysed Analysed (compounds_text lexicon sensitive)
compound_read lexicon sensitive gives = record {
  taken = λ text h. fault_fine
      (each (compound_unit lexicon sensitive) (reads Analysed 0 text).items).fault
      (reads Analysed 0 text).stop
      (each_fine (compound_unit lexicon sensitive) (reads Analysed 0 text).items) h;
  written = λ text ending. each_read Analysed Analysed (compound_unit lexicon sensitive) 0 text
      (λ c h. h) (makes_none lexicon gives sensitive);
}
