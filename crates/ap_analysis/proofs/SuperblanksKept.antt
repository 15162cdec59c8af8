-- Analysis keeps superblanks, and what it writes is read on.
use Rattle.std.specs.Prelude.{◌≡◌, ◌⊎◌, ℕ, suc, ◌+◌, ◌<◌, ◌≤◌, Bool, true, false, cond, List, [], ◌∷◌, ◌++◌, map, length, take, Some, None, refl, if◌then◌else◌}
use Rattle.std.specs.List.{flat_map, prefix_len}
use Rattle.std.proofs.Common.{arith, ap, sym, subst, ◌∙◌, inl, inr}
use Rattle.std.proofs.lemmas.List.{length-take-le}
use Rattle.std.proofs.lemmas.List.Concat.{flat_map-cons}
use Rattle.ap_symbol.specs.Lists.{IsIn}
use Rattle.ap_symbol.specs.Words.{is_white}
use Rattle.ap_symbol.specs.declared.symbol.Symbol.{Symbol}
use Rattle.ap_symbol.specs.declared.symbol.Symbol.TheVariants as symbol
use Rattle.ap_fst.specs.declared.compiled.Kind2.{Kind2}
use Rattle.ap_fst.specs.declared.compiled.Kind2.TheVariants.{Postblank, Preblank}
use Rattle.ap_fst.proofs.Listing.{in_map}
use Rattle.ap_stream.specs.Each.{item_text}
use Rattle.ap_stream.specs.Laws.{AreSpelt, EachSpelt, AreAsMany, AreWords}
use Rattle.ap_stream.specs.Pieces.{HasSuperblanks, nothing, HaveSameSuperblanks, MakesNone, supers_of}
use Rattle.ap_stream.specs.ReadOn.{Links}
use Rattle.ap_stream.specs.Reading.{reads}
use Rattle.ap_stream.specs.Spelling.{spelled, unit_bytes}
use Rattle.ap_stream.specs.Steps.{Step, Gives, Stops, before}
use Rattle.ap_stream.specs.Supers.{item_supers}
use Rattle.ap_stream.specs.Told.{Clean}
use Rattle.ap_stream.specs.declared.dialect.Dialect.TheVariants.{Raw, Analysed}
use Rattle.ap_stream.specs.declared.item.Item.{Item}
use Rattle.ap_stream.specs.declared.item.Item.TheVariants as item
use Rattle.ap_stream.specs.declared.item.Read.{Read}
use Rattle.ap_stream.proofs.EachKept.{neither, spelled_has, unit_has_none, space_has_none}
use Rattle.ap_stream.proofs.Faults.{fault_fine, steps_fine}
use Rattle.ap_stream.proofs.Gives.{GivesPieces, gives_all, gives_read}
use Rattle.ap_stream.proofs.Joined.{joined}
use Rattle.ap_stream.proofs.Rows.{IsRow, AreRead, reads_read, read_take, reads_have, row_has, supers_more}
use Rattle.ap_stream.proofs.StepsKept.{StepKeeps, steps_keep}
use Rattle.ap_stream.proofs.SupersAlone.{AreSuperblanks, supers_append, supers_are, supers_alone}
use Rattle.ap_stream.proofs.Written.{spelt_take, each_spelt, raw_stays}
use Rattle.ap_live.specs.Found.{has_words}
use Rattle.ap_live.specs.Lexicon.{Lexicon}
use Rattle.ap_live.specs.Readable.{IsReadable, GivesReadable}
use Rattle.ap_live.specs.Readings.{carried}
use Rattle.ap_live.proofs.Readables.{ordered_readable}
use Rattle.ap_live.proofs.WordOrder.{in_order_some, some_word}
use Rattle.ap_analysis.specs.Analysis.{readings_at, known_unit, unknown_unit, space_at, swallowed, known_text, copied, first_step, analysed}
use Rattle.ap_analysis.specs.Items.{symbol_of, symbols}
use Rattle.ap_analysis.specs.Licence.{is_letter_symbol, is_alphabetic, surface, licensed_words, is_licensed, licence, run_length}
use Rattle.ap_analysis.specs.Whole.{analysis}
use Rattle.ap_analysis.proofs.Fronts.{run_front}
use Rattle.ap_analysis.proofs.Goings.{licence_greatest, Uses, first_uses}
use Rattle.ap_analysis.proofs.Lengths.{licence_passes}
use Rattle.ap_analysis.proofs.LicensedWords.{licensed_each}
use Rattle.ap_analysis.proofs.Steps.{first_each}

-- the superblanks of items that were read
read_supers : (reads : List Read) → AreRead Raw reads → AreSuperblanks (supers_of reads)
read_supers [] h = tt
read_supers (read ∷ reads) h =
    subst AreSuperblanks (sym (supers_more read reads))
    (supers_append (item_supers read.item) (supers_of reads)
    (supers_are Raw h.0.0 (item_supers read.item) (row_has Raw read.item h.0.0 h.0.1))
    (read_supers reads h.1))

-- their symbols are spelt, in a surface and in a reading
one_spelt : (v : Bool) (thing : Item) (bytes : List ℕ) (symbols : List Symbol) →
    IsRow Raw thing bytes → AreSpelt v symbols → AreSpelt v (before (symbol_of thing) symbols)
one_spelt v (item.Plain c) bytes symbols h k = by (is_white c.letter) refl
  where
    by : (w : Bool) → is_white c.letter ≡ w →
        AreSpelt v (before (if w then None else Some (symbol.Letter c.letter)) symbols)
    by true e = tt
    by false e = ((h.0, e), k)
one_spelt v (item.Blank all) bytes symbols h k = (tt, k)
one_spelt v (item.Unit words) bytes symbols h k = tt
one_spelt v (item.Chunk c) bytes symbols h k = tt

front_spelt : (v : Bool) (reads : List Read) → AreRead Raw reads → AreSpelt v (symbols reads)
front_spelt v [] h = tt
front_spelt v (read ∷ reads) h =
    one_spelt v read.item h.0.0 (symbols reads) h.0.1 (front_spelt v reads h.1)

surface_spelt : (v : Bool) (reads : List Read) (n : ℕ) → AreRead Raw reads →
    AreSpelt v (surface reads n)
surface_spelt v reads n h = spelt_take v n (symbols reads) (front_spelt v reads h)

surface_some : (reads : List Read) (n : ℕ) → 0 < n → n ≤ length (symbols reads) →
    0 < length (surface reads n)
surface_some reads n some fits = let l = length-take-le n (symbols reads) fits in
    omega (arith, l, some)

many : (words : List (List Symbol)) → has_words words ≡ true → AreAsMany true words
many [] h = absurd (cc)
many (word ∷ words) h = refl

module _ (lexicon : Lexicon) (sensitive : Bool) (gives : GivesReadable lexicon) where
  licensed_readable : (reads : List Read) (n : ℕ) (w : List Symbol) →
      IsIn w (licensed_words lexicon reads n) → IsReadable w
  licensed_readable reads n =
      licensed_each lexicon reads n IsReadable (λ kind w i. gives kind (surface reads n) w i)

  readings_spelt : (reads : List Read) (n : ℕ) → EachSpelt (readings_at lexicon sensitive reads n)
  readings_spelt reads n =
      each_spelt (readings_at lexicon sensitive reads n)
      (ordered_readable sensitive (surface reads n) (licensed_words lexicon reads n)
      (licensed_readable reads n))

  readings_many : (reads : List Read) (n : ℕ) → is_licensed lexicon reads n ≡ true →
      AreAsMany true (readings_at lexicon sensitive reads n)
  readings_many reads n h =
      let s = some_word (licensed_words lexicon reads n) h in
      let words : List (List Symbol) =
      map (carried sensitive (surface reads n)) (licensed_words lexicon reads n) in
      many (readings_at lexicon sensitive reads n)
      (in_order_some (map (carried sensitive (surface reads n)) (licensed_words lexicon reads n))
      (carried sensitive (surface reads n) s.0)
      (in_map (carried sensitive (surface reads n)) s.0 (licensed_words lexicon reads n) s.1))

  space_none : (kind : Kind2) (reads : List Read) (n : ℕ) →
      HasSuperblanks Analysed (space_at lexicon kind reads n) []
  space_none kind reads n = by (has_words (lexicon.readings kind (surface reads n)))
    where
      by : (v : Bool) → HasSuperblanks Analysed (if v then 32 ∷ [] else []) []
      by true = space_has_none Analysed [] (nothing refl refl)
      by false = nothing refl refl

  known_keeps : (reads : List Read) (n : ℕ) → AreRead Raw reads → 0 < n →
      n ≤ length (symbols reads) →
      is_licensed lexicon reads n ≡ true →
      HasSuperblanks Analysed (known_text lexicon sensitive reads n) (supers_of (take n reads))
  known_keeps reads n h some fits licensed =
      let words : AreWords Analysed (surface reads n ∷ readings_at lexicon sensitive reads n) = (
        refl,
        surface_some reads n some fits,
        surface_spelt true reads n h,
        readings_spelt reads n,
        readings_many reads n licensed,
      ) in
      let unit : HasSuperblanks Analysed (known_unit lexicon sensitive reads n) [] =
      unit_has_none Analysed (surface reads n ∷ readings_at lexicon sensitive reads n) words in
      let rest : HasSuperblanks Analysed (swallowed reads n) (supers_of (take n reads)) =
      supers_alone Analysed (supers_of (take n reads))
      (read_supers (take n reads) (read_take Raw n reads h)) in
      let behind_unit = joined Analysed (space_at lexicon Postblank reads n) (swallowed reads n) []
      (supers_of (take n reads)) (space_none Postblank reads n) rest in
      let from_unit = joined Analysed (known_unit lexicon sensitive reads n)
      (space_at lexicon Postblank reads n ++ swallowed reads n) [] (supers_of (take n reads))
      unit behind_unit in
      joined Analysed (space_at lexicon Preblank reads n) (known_unit lexicon sensitive reads n
      ++ (space_at lexicon Postblank reads n ++ swallowed reads n)) []
      (supers_of (take n reads)) (space_none Preblank reads n) from_unit

  -- alphabetic items have no superblanks
  letter_none : (thing : Item) → is_letter_symbol lexicon (symbol_of thing) ≡ true →
      item_supers thing ≡ []
  letter_none (item.Plain c) h = refl
  letter_none (item.Blank all) h = absurd (cc)
  letter_none (item.Unit words) h = refl
  letter_none (item.Chunk c) h = absurd (cc)

  run_none : (reads : List Read) →
      supers_of (take (prefix_len (is_alphabetic lexicon) reads) reads) ≡ []
  run_none [] = refl
  run_none (read ∷ reads) = by (is_alphabetic lexicon read) refl (run_none reads)
    where
      by : (v : Bool) → is_alphabetic lexicon read ≡ v →
          supers_of (take (prefix_len (is_alphabetic lexicon) reads) reads) ≡ [] →
          supers_of (take (cond v (1 + prefix_len (is_alphabetic lexicon) reads) 0)
          (read ∷ reads)) ≡ []
      by true e more =
          let n : ℕ = prefix_len (is_alphabetic lexicon) reads in
          let grown : 1 + prefix_len (is_alphabetic lexicon) reads
          ≡ suc (prefix_len (is_alphabetic lexicon) reads) = omega arith in
          ap (λ q. supers_of (take q (read ∷ reads))) grown
          ∙ supers_more read (take (prefix_len (is_alphabetic lexicon) reads) reads)
          ∙ ap (λ (q : List (List ℕ)). q
          ++ supers_of (take (prefix_len (is_alphabetic lexicon) reads) reads))
          (letter_none read.item e) ∙ more
      by false e more = refl

  unknown_keeps : (reads : List Read) → AreRead Raw reads → 0 < run_length lexicon reads →
      HasSuperblanks Analysed (unknown_unit reads (run_length lexicon reads))
      (supers_of (take (run_length lexicon reads) reads))
  unfolding run_length
  unknown_keeps reads h some =
      let n : ℕ = run_length lexicon reads in
      let words : AreWords Analysed (surface reads n ∷ (symbol.Star ∷ surface reads n) ∷ []) = (
        refl,
        surface_some reads n some (run_front lexicon reads),
        surface_spelt true reads n h,
        ((refl, surface_spelt false reads n h), tt),
        refl,
      ) in
      subst (λ (q : List (List ℕ)). HasSuperblanks Analysed (unknown_unit reads n) q)
      (sym (run_none reads)) (unit_has_none Analysed
      (surface reads n ∷ (symbol.Star ∷ surface reads n) ∷ []) words)

  raw_none : MakesNone Raw Analysed unit_bytes
  raw_none [] h = absurd h
  raw_none (word ∷ words) h = absurd (let k = h.0 in cc)

  as_spelled : (thing : Item) → item_text unit_bytes thing ≡ spelled thing
  as_spelled (item.Plain c) = refl
  as_spelled (item.Blank all) = refl
  as_spelled (item.Unit words) = refl
  as_spelled (item.Chunk c) = refl

  -- a step has the superblanks of the items that it uses
  abbrev Kept : List Read → Step → Type 0
  Kept reads (Gives n text) = HasSuperblanks Analysed text (supers_of (take n reads))
  Kept reads (Stops kind) = Unit {0}

  copied_keeps : (read : Read) (reads : List Read) → AreRead Raw (read ∷ reads) →
      Kept (read ∷ reads) (copied (read ∷ reads))
  copied_keeps read reads h =
      let one : HasSuperblanks Analysed (spelled read.item) (item_supers read.item) =
      subst (λ (q : List ℕ). HasSuperblanks Analysed q (item_supers read.item))
      (as_spelled read.item) (spelled_has Raw Analysed unit_bytes read.item h.0.0 raw_stays
      raw_none h.0.1) in
      let text : flat_map (λ (r : Read). spelled r.item) (read ∷ []) ≡ spelled read.item ++ [] =
      flat_map-cons (λ (r : Read). spelled r.item) read [] in
      subst (λ (q : List ℕ). HasSuperblanks Analysed q (supers_of (read ∷ []))) (sym text)
      (subst (λ (q : List (List ℕ)). HasSuperblanks Analysed (spelled read.item ++ []) q)
      (sym (supers_more read []))
      (joined Analysed (spelled read.item) [] (item_supers read.item) [] one
      (nothing refl refl)))

  first_kept : (read : Read) (reads : List Read) → AreRead Raw (read ∷ reads) →
      Kept (read ∷ reads) (first_step lexicon sensitive (read ∷ reads))
  first_kept read reads h =
      let whole : List Read = read ∷ reads in
      let k : ℕ = licence lexicon whole in
      first_each lexicon sensitive whole (Kept whole) (λ kind. tt)
      (λ short some fits. known_keeps whole k h some (licence_greatest lexicon whole).within
      (passes k some (licence_passes lexicon whole)))
      (λ some fits. unknown_keeps whole h some)
      (copied_keeps read reads h)
    where
      passes : (k : ℕ) → 0 < k → (k ≡ 0) ⊎ (is_licensed lexicon (read ∷ reads) k ≡ true) →
          is_licensed lexicon (read ∷ reads) k ≡ true
      passes k some (inl e) = absurd (omega (arith, some, e))
      passes k some (inr t) = t

  both : (reads : List Read) (step : Step) → Uses reads step → Kept reads step →
      StepKeeps Analysed reads step
  both reads (Gives n text) u k = (u.0, k)
  both reads (Stops kind) u k = tt

  first_keeps : (read : Read) (reads : List Read) → AreRead Raw (read ∷ reads) →
      StepKeeps Analysed (read ∷ reads) (first_step lexicon sensitive (read ∷ reads))
  first_keeps read reads h =
      both (read ∷ reads) (first_step lexicon sensitive (read ∷ reads))
      (first_uses lexicon sensitive read reads) (first_kept read reads h)

  pub analysed_gives : (text : List ℕ) →
      GivesPieces Analysed (analysed lexicon sensitive (reads Raw 0 text).items)
      (supers_of (reads Raw 0 text).items)
  analysed_gives text = steps_keep Raw Analysed (first_step lexicon sensitive) first_keeps 0
      (reads Raw 0 text).items (reads_read Raw 0 text)

pub analysis_keeps : (lexicon : Lexicon) (sensitive : Bool) (text : List ℕ) →
    GivesReadable lexicon → (analysis lexicon sensitive text Clean).fault ≡ None →
    HaveSameSuperblanks Raw Analysed text (analysis lexicon sensitive text Clean).text
analysis_keeps lexicon sensitive text gives e =
    let n = neither (analysed lexicon sensitive (reads Raw 0 text).items).fault
    (reads Raw 0 text).stop e in
    record {
      superblanks = supers_of (reads Raw 0 text).items;
      before = reads_have Raw 0 text n.1;
      after = gives_all Analysed (analysed lexicon sensitive (reads Raw 0 text).items)
          (supers_of (reads Raw 0 text).items) (analysed_gives lexicon sensitive gives text) n.0;
    }

pub analysis_read : (lexicon : Lexicon) (sensitive : Bool) → GivesReadable lexicon →
    Links Raw Analysed (analysis lexicon sensitive)
analysis_read lexicon sensitive gives = record {
  taken = λ text h. fault_fine (analysed lexicon sensitive (reads Raw 0 text).items).fault
      (reads Raw 0 text).stop
      (steps_fine (first_step lexicon sensitive) 0 (reads Raw 0 text).items) h;
  written = λ text ending. gives_read Analysed
      (analysed lexicon sensitive (reads Raw 0 text).items)
      (supers_of (reads Raw 0 text).items) (analysed_gives lexicon sensitive gives text);
}
