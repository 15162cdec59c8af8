-- Values that are words, or parts of words, as they stand there.
use Rattle.std.proofs.Common.{◌≡◌, ◌≤◌, ℕ, zero, suc, Bool, true, false, List, [], ◌∷◌, ◌++◌, length, take, drop, Ok, None, refl, ap, ◌∙◌, append-nil, length-append, arith}
use Rattle.std.proofs.Math.Seq.{take-length}
use Rattle.ap_symbol.specs.Rendering.{rendering, symbol_bytes}
use Rattle.ap_symbol.specs.declared.symbol.Symbol.{Symbol}
use Rattle.ap_rules.specs.Plain.{PlainValue}
use Rattle.ap_rules.specs.declared.value.Clip.{Clip}
use Rattle.ap_rules.specs.declared.value.ClipPart.TheVariants.{Whole}
use Rattle.ap_rules.specs.declared.value.Side.{Side}
use Rattle.ap_rules.specs.declared.value.Side.TheVariants.{Source, Target}
use Rattle.ap_stream.specs.declared.TheConstants.{UNIT_MAX}
use Rattle.ap_exec.specs.Parts.{Span, cut, clip_of, word_at, word_on}
use Rattle.ap_exec.specs.Pieces.{unit_of}
use Rattle.ap_exec.specs.Results.{◌>>=◌}
use Rattle.ap_exec.specs.Units.{Shown, Sight}
use Rattle.ap_exec.specs.Values.{sized, bounded, value_of}
use Rattle.ap_exec.proofs.Borders.{le_true}

-- all of a word
pub taken_whole : (n : ℕ) (word : List Symbol) → n ≡ length word → take n word ≡ word
taken_whole n word whole = ap (λ m. take m word) whole ∙ take-length word

-- a clip of a whole word without a link
pub clip_is : (sight : Sight) (c : Clip) → c.part ≡ Whole → c.link_to ≡ None →
    clip_of sight c ≡ word_at sight c.pos c.side c.queue
clip_is sight c part link = rw (part, link) (take-length (word_at sight c.pos c.side c.queue))

-- one value
pub unit_is : (sight : Sight) (v : PlainValue) (word : List Symbol) → value_of sight v ≡ Ok word →
    unit_of sight (v ∷ []) ≡ Ok word
unit_is sight v word given =
    ap (λ r. r >>= λ w. Ok (w ++ [])) given ∙ ap (λ w. Ok w) (append-nil word)

nothing_taken : (n m : ℕ) → let none : List Symbol = [] in take n (drop m none) ≡ none
nothing_taken zero zero = refl
nothing_taken zero (suc m) = refl
nothing_taken (suc n) zero = refl
nothing_taken (suc n) (suc m) = refl

-- of the empty word each part is empty
pub cut_nothing : (span : Span) → cut span [] ≡ []
cut_nothing span = nothing_taken span.count span.start

taken_size : (n : ℕ) (word : List Symbol) →
    length (rendering (take n word)) ≤ length (rendering word)
taken_size zero word = omega arith
taken_size (suc n) [] = omega arith
taken_size (suc n) (s ∷ word) =
    omega (
      arith,
      length-append (symbol_bytes s) (rendering (take n word)),
      length-append (symbol_bytes s) (rendering word),
      taken_size n word,
    )

dropped_size : (n : ℕ) (word : List Symbol) →
    length (rendering (drop n word)) ≤ length (rendering word)
dropped_size zero word = omega arith
dropped_size (suc n) [] = omega arith
dropped_size (suc n) (s ∷ word) =
    omega (arith, length-append (symbol_bytes s) (rendering word), dropped_size n word)

side_size : (side : Side) (queue : Bool) (unit : Shown) →
    length (rendering (word_on side queue unit)) ≤ length (rendering (word_on side true unit))
side_size Source queue unit = omega arith
side_size Target true unit = omega arith
side_size Target false unit = taken_size unit.border unit.target

short_is : (word : List Symbol) → length (rendering word) ≤ UNIT_MAX → bounded word ≡ Ok word
unfolding sized
short_is word short = rw (le_true (length (rendering word)) UNIT_MAX short) refl

-- a part of a word that isn't too long for a value isn't either
pub part_is_short : (span : Span) (side : Side) (queue : Bool) (unit : Shown) →
    length (rendering (word_on side true unit)) ≤ UNIT_MAX →
    bounded (cut span (word_on side queue unit)) ≡ Ok (cut span (word_on side queue unit))
part_is_short span side queue unit short =
    let word = word_on side queue unit in
    short_is (cut span word)
    (omega (
      arith,
      short,
      side_size side queue unit,
      dropped_size span.start word,
      taken_size span.count (drop span.start word),
    ))
