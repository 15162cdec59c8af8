-- The passes keep superblanks, and what they write is read on.
use Rattle.std.specs.Prelude.{◌≡◌, ℕ, List, [], ◌∷◌, None, refl}
use Rattle.std.specs.List.{flat_map}
use Rattle.std.proofs.Common.{arith, sym, subst}
use Rattle.std.proofs.lemmas.List.Concat.{flat_map-cons}
use Rattle.ap_symbol.specs.declared.symbol.Symbol.{Symbol}
use Rattle.ap_stream.specs.Each.{each}
use Rattle.ap_stream.specs.Pieces.{HasSuperblanks, nothing, HaveSameSuperblanks, MakesNone}
use Rattle.ap_stream.specs.ReadOn.{Links}
use Rattle.ap_stream.specs.Reading.{reads}
use Rattle.ap_stream.specs.Told.{Clean}
use Rattle.ap_stream.specs.declared.dialect.Dialect.TheVariants.{Analysed, Lexical}
use Rattle.ap_stream.proofs.EachKept.{each_keeps, each_read, neither, unit_has_none, space_has_none}
use Rattle.ap_stream.proofs.Faults.{fault_fine, each_fine}
use Rattle.ap_stream.proofs.Joined.{joined}
use Rattle.ap_passes.specs.Laws.{EachWord}
use Rattle.ap_passes.specs.Passes.{one, spaced_one, spaced, first_reading, split_unit, first_pass, split_pass}
use Rattle.ap_passes.specs.Splitting.{split}
use Rattle.ap_passes.proofs.ReadAgain.{first_reads, split_reads}

first_none : MakesNone Analysed Lexical first_reading
first_none [] h = nothing refl refl
first_none (surface ∷ []) h = nothing refl refl
first_none (surface ∷ [] ∷ readings) h = nothing refl refl
first_none (surface ∷ (x ∷ word) ∷ readings) h =
    unit_has_none Lexical ((x ∷ word) ∷ [])
    (first_reads surface (x ∷ word) readings (omega arith) h)

pub first_keeps : (text : List ℕ) → (first_pass text Clean).fault ≡ None →
    HaveSameSuperblanks Analysed Lexical text (first_pass text Clean).text
first_keeps text e = let n =
    neither (each first_reading (reads Analysed 0 text).items).fault (reads Analysed 0 text).stop e
    in each_keeps Analysed Lexical first_reading 0 text (λ c h. h) first_none n.1 n.0

pub first_read : Links Analysed Lexical first_pass
first_read = record {
  taken = λ text h. fault_fine (each first_reading (reads Analysed 0 text).items).fault
      (reads Analysed 0 text).stop (each_fine first_reading (reads Analysed 0 text).items) h;
  written = λ text ending. each_read Analysed Lexical first_reading 0 text (λ c h. h) first_none;
}

-- words as units, each behind a space
following_none : (words : List (List Symbol)) → EachWord words →
    HasSuperblanks Lexical (flat_map spaced_one words) []
following_none [] h = nothing refl refl
following_none (word ∷ words) h =
    let front : HasSuperblanks Lexical (spaced_one word) [] =
    space_has_none Lexical (one word) (unit_has_none Lexical (word ∷ []) h.0) in
    subst (λ (q : List ℕ). HasSuperblanks Lexical q []) (sym (flat_map-cons spaced_one word words))
    (joined Lexical (spaced_one word) (flat_map spaced_one words) [] [] front
    (following_none words h.1))

spaced_none : (words : List (List Symbol)) → EachWord words →
    HasSuperblanks Lexical (spaced words) []
spaced_none [] h = nothing refl refl
spaced_none (word ∷ words) h =
    joined Lexical (one word) (flat_map spaced_one words) [] []
    (unit_has_none Lexical (word ∷ []) h.0) (following_none words h.1)

split_none : MakesNone Lexical Lexical split_unit
split_none [] h = nothing refl refl
split_none (word ∷ []) h = spaced_none (split word) (split_reads word h)
split_none (word ∷ more ∷ words) h = absurd (let k = h.4 in cc)

pub split_keeps : (text : List ℕ) → (split_pass text Clean).fault ≡ None →
    HaveSameSuperblanks Lexical Lexical text (split_pass text Clean).text
split_keeps text e = let n =
    neither (each split_unit (reads Lexical 0 text).items).fault (reads Lexical 0 text).stop e in
    each_keeps Lexical Lexical split_unit 0 text (λ c h. h) split_none n.1 n.0

pub split_read : Links Lexical Lexical split_pass
split_read = record {
  taken = λ text h. fault_fine (each split_unit (reads Lexical 0 text).items).fault
      (reads Lexical 0 text).stop (each_fine split_unit (reads Lexical 0 text).items) h;
  written = λ text ending. each_read Lexical Lexical split_unit 0 text (λ c h. h) split_none;
}
