-- Look-ups keep superblanks, and what they write is read on.
use Rattle.std.specs.Prelude.{◌≡◌, ℕ, Bool, true, false, nat_lt, List, [], ◌∷◌, ◌++◌, map, take, drop, None, refl, if◌then◌else◌}
use Rattle.std.proofs.Common.{arith}
use Rattle.ap_symbol.specs.Kinds.{is_marked}
use Rattle.ap_symbol.specs.declared.symbol.Symbol.{Symbol}
use Rattle.ap_stream.specs.Each.{each}
use Rattle.ap_stream.specs.Laws.{AreSpelt, EachSpelt, AreAsMany}
use Rattle.ap_stream.specs.Pieces.{HasSuperblanks, HaveSameSuperblanks, MakesNone}
use Rattle.ap_stream.specs.ReadOn.{Links}
use Rattle.ap_stream.specs.Reading.{reads}
use Rattle.ap_stream.specs.Told.{Clean}
use Rattle.ap_stream.specs.declared.dialect.Dialect.TheVariants.{Lexical, Bilingual, Generated}
use Rattle.ap_stream.proofs.EachKept.{each_keeps, each_read, neither, unit_has_none}
use Rattle.ap_stream.proofs.Faults.{fault_fine, each_fine}
use Rattle.ap_stream.proofs.Written.{spelt_append, spelt_take, spelt_drop, each_spelt, lexical_stays, bare_has_none, word_has_none, words_have_none}
use Rattle.ap_live.specs.Lexicon.{Lexicon}
use Rattle.ap_live.specs.Readable.{GivesReadable}
use Rattle.ap_live.proofs.Readables.{words_readable}
use Rattle.ap_lookup.specs.Lookup.{translations_by, translations, is_star, formless, starred, unmatched, formed}
use Rattle.ap_lookup.specs.Translation.{Translated, taken, untaken, translated_at, translation, prefix, lemma, lemma_length, forms_of}
use Rattle.ap_lookup.specs.Works.{bilingual_unit, generated_unit, bilingual_text, generated_text}
use Rattle.ap_lookup.specs.declared.generation_writer.Marks.{Marks}
use Rattle.ap_lookup.specs.declared.generation_writer.Marks.TheVariants as marks

module _ (lexicon : Lexicon) (sensitive : Bool) (gives : GivesReadable lexicon) where
  forms_spelt : (word symbols : List Symbol) → EachSpelt (forms_of lexicon sensitive word symbols)
  forms_spelt word symbols =
      each_spelt (forms_of lexicon sensitive word symbols)
      (words_readable lexicon sensitive (lemma word) symbols gives)

  -- the heads and what is left over
  abbrev AreSpeltBoth : Translated → Type 0
  AreSpeltBoth made = EachSpelt made.heads × AreSpelt false made.left

  at_spelt : (word : List Symbol) (n : ℕ) (v : Bool) → AreSpelt false word →
      AreSpeltBoth (if v then taken lexicon sensitive word n else untaken word)
  at_spelt word n true h = (forms_spelt word (take n word), spelt_drop n word h)
  at_spelt word n false h = (tt, h)

  translation_spelt : (word : List Symbol) → AreSpelt false word →
      AreSpeltBoth (translation lexicon sensitive word)
  unfolding translation
  translation_spelt word h = by (is_marked word)
    where
      by : (v : Bool) → AreSpeltBoth (if v then untaken word
          else translated_at lexicon sensitive word (prefix lexicon word))
      by true = (tt, h)
      by false = at_spelt word (prefix lexicon word) (nat_lt 0 (prefix lexicon word)) h

  heads_spelt : (heads : List (List Symbol)) (left : List Symbol) → EachSpelt heads →
      AreSpelt false left → EachSpelt (map (λ h. h ++ left) heads)
  heads_spelt [] left h k = tt
  heads_spelt (head ∷ heads) left h k = (spelt_append head left h.0 k, heads_spelt heads left h.1 k)

  -- one translation at least
  abbrev pub AreSome : List (List Symbol) → Type 0
  AreSome words = EachSpelt words × AreAsMany true words

  some_by : (word : List Symbol) (heads : List (List Symbol)) (left : List Symbol) →
      AreSpelt false word → EachSpelt heads → AreSpelt false left →
      AreSome (translations_by word heads left)
  some_by word [] left h k l = (((refl, h), tt), refl)
  some_by word (head ∷ heads) left h k l =
      ((spelt_append head left k.0 l, heads_spelt heads left k.1 l), refl)

  pub some_translations : (word : List Symbol) → AreSpelt false word →
      AreSome (translations lexicon sensitive word)
  some_translations word h = by (is_marked word)
    where
      by : (v : Bool) → AreSome (if v then word ∷ []
          else translations_by word (translation lexicon sensitive word).heads
          (translation lexicon sensitive word).left)
      by true = ((h, tt), refl)
      by false = let t = translation_spelt word h in
          some_by word (translation lexicon sensitive word).heads
          (translation lexicon sensitive word).left h t.0 t.1

  bilingual_none : MakesNone Lexical Bilingual (bilingual_unit lexicon sensitive)
  bilingual_none [] h = absurd h
  bilingual_none (word ∷ words) h = let t = some_translations word h.2 in
      unit_has_none Bilingual (word ∷ translations lexicon sensitive word)
      (refl, h.1, h.2, t.0, t.1)

  formless_none : (m : Marks) (word : List Symbol) → AreSpelt false word →
      HasSuperblanks Generated (formless m word) []
  formless_none marks.Marked word h =
      bare_has_none Generated 35 (formless marks.Clean word) (omega arith) refl
      (word_has_none (lemma word) (spelt_take false (lemma_length word) word h))
  formless_none marks.Clean word h =
      word_has_none (lemma word) (spelt_take false (lemma_length word) word h)
  formless_none marks.Tagged word h =
      bare_has_none Generated 35 (starred marks.Tagged word) (omega arith) refl
      (word_has_none word h)

  starred_none : (m : Marks) (word : List Symbol) → AreSpelt false word →
      HasSuperblanks Generated (starred m word) []
  starred_none marks.Marked word h = word_has_none word h
  starred_none marks.Clean word h = word_has_none (drop 1 word) (spelt_drop 1 word h)
  starred_none marks.Tagged word h = word_has_none word h

  unmatched_none : (m : Marks) (word : List Symbol) → AreSpelt false word →
      HasSuperblanks Generated (unmatched m word) []
  unmatched_none marks.Marked word h =
      bare_has_none Generated 64 (unmatched marks.Clean word) (omega arith) refl
      (word_has_none (lemma (drop 1 word))
      (spelt_take false (lemma_length (drop 1 word)) (drop 1 word) (spelt_drop 1 word h)))
  unmatched_none marks.Clean word h =
      word_has_none (lemma (drop 1 word))
      (spelt_take false (lemma_length (drop 1 word)) (drop 1 word) (spelt_drop 1 word h))
  unmatched_none marks.Tagged word h = word_has_none word h

  formed_none : (m : Marks) (word : List Symbol) (forms : List (List Symbol)) →
      AreSpelt false word → EachSpelt forms → HasSuperblanks Generated (formed m word forms) []
  formed_none m word [] h k = formless_none m word h
  formed_none m word (form ∷ forms) h k = words_have_none (form ∷ forms) k

  generated_none : (m : Marks) → MakesNone Lexical Generated (generated_unit lexicon m sensitive)
  generated_none m [] h = absurd h
  generated_none m (word ∷ words) h = by (is_marked word) (is_star word)
    where
      by : (v w : Bool) → HasSuperblanks Generated (if v
          then (if w then starred m word else unmatched m word)
          else formed m word (forms_of lexicon sensitive word word)) []
      by true true = starred_none m word h.2
      by true false = unmatched_none m word h.2
      by false w = formed_none m word (forms_of lexicon sensitive word word) h.2
          (forms_spelt word word)

pub bilingual_keeps : (lexicon : Lexicon) (sensitive : Bool) (text : List ℕ) →
    GivesReadable lexicon → (bilingual_text lexicon sensitive text Clean).fault ≡ None →
    HaveSameSuperblanks Lexical Bilingual text (bilingual_text lexicon sensitive text Clean).text
bilingual_keeps lexicon sensitive text gives e =
    let given : List (List Symbol) → List ℕ = bilingual_unit lexicon sensitive in
    let n = neither (each given (reads Lexical 0 text).items).fault (reads Lexical 0 text).stop e in
    each_keeps Lexical Bilingual (bilingual_unit lexicon sensitive) 0 text (λ c h. h)
    (bilingual_none lexicon sensitive gives) n.1 n.0

pub generation_keeps : (lexicon : Lexicon) (m : Marks) (sensitive : Bool) (text : List ℕ) →
    GivesReadable lexicon → (generated_text lexicon m sensitive text Clean).fault ≡ None →
    HaveSameSuperblanks Lexical Generated text (generated_text lexicon m sensitive text Clean).text
generation_keeps lexicon m sensitive text gives e =
    let given : List (List Symbol) → List ℕ = generated_unit lexicon m sensitive in
    let n = neither (each given (reads Lexical 0 text).items).fault (reads Lexical 0 text).stop e in
    each_keeps Lexical Generated (generated_unit lexicon m sensitive) 0 text lexical_stays
    (generated_none lexicon sensitive gives m) n.1 n.0

pub bilingual_read : (lexicon : Lexicon) (sensitive : Bool) → GivesReadable lexicon →
    Links Lexical Bilingual (bilingual_text lexicon sensitive)
bilingual_read lexicon sensitive gives =
    let given : List (List Symbol) → List ℕ = bilingual_unit lexicon sensitive in
    record {
      taken = λ text h. fault_fine (each given (reads Lexical 0 text).items).fault
          (reads Lexical 0 text).stop (each_fine given (reads Lexical 0 text).items) h;
      written = λ text ending. each_read Lexical Bilingual given 0 text (λ c h. h)
          (bilingual_none lexicon sensitive gives);
    }

pub generation_read : (lexicon : Lexicon) (m : Marks) (sensitive : Bool) → GivesReadable lexicon →
    Links Lexical Generated (generated_text lexicon m sensitive)
generation_read lexicon m sensitive gives =
    let given : List (List Symbol) → List ℕ = generated_unit lexicon m sensitive in
    record {
      taken = λ text h. fault_fine (each given (reads Lexical 0 text).items).fault
          (reads Lexical 0 text).stop (each_fine given (reads Lexical 0 text).items) h;
      written = λ text ending. each_read Lexical Generated given 0 text lexical_stays
          (generated_none lexicon sensitive gives m);
    }
