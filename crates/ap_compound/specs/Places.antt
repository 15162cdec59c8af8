-- Of the inside: no public contract stands on this file.
-- What is known of the places of a surface: which parts begin there, and how few reach them.
use Rattle.std.specs.Prelude.{◌≡◌, ◌↔◌, ℕ, zero, suc, ◌-◌, ◌<◌, ◌≤◌, ◌==◌, nat_lt, nat_le, Bool, false, ◌&&◌, List, [], ◌∷◌, ◌++◌, map, length, take, drop, Option, Some, None, slice_get, if◌then◌else◌}
use Rattle.std.specs.List.{flat_map}
use Rattle.ap_symbol.specs.Lists.{IsIn}
use Rattle.ap_symbol.specs.declared.symbol.Symbol.{Symbol}
use Rattle.ap_symbol.specs.declared.symbol.Symbol.TheVariants.{Join}
use Rattle.ap_live.specs.Found.{has_words}
use Rattle.ap_live.specs.Lexicon.{Lexicon}
use Rattle.ap_compound.specs.Splits.{left_parts, right_parts}
use Rattle.ap_compound.specs.declared.listing.Listed.{Listed}
use Rattle.ap_compound.specs.declared.place.Place.{Place}

-- the words at a place of a list, where there are any
abbrev pub words_at : List (List (List Symbol)) → ℕ → List (List Symbol)
words_at [] k = []
words_at (words ∷ more) zero = words
words_at (words ∷ more) (suc k) = words_at more k

-- The words of the left parts at the front of these symbols, by their number of symbols, and of the
-- right parts that are all of them.
pub record IsRow (lexicon : Lexicon) (symbols : List Symbol) (lefts : List (List (List Symbol)))
    (rights : List (List Symbol)) : Type 0 where
  pub lefts_are : (k : ℕ) → k < length symbols →
      words_at lefts k ≡ left_parts lexicon (take (suc k) symbols)
  pub rights_are : rights ≡ right_parts lexicon symbols

-- what a number found is of: of all numbers of these places, below a bound, none is less
pub record IsLeast (at : ℕ → ℕ → Type 0) (bound : ℕ) (found : Option ℕ) : Type 0 where
  pub attained : (m : ℕ) → found ≡ Some m → (i : ℕ) × ((i < bound) × at i m)
  pub least : (i m : ℕ) → i < bound → at i m → (k : ℕ) × ((found ≡ Some k) × (k ≤ m))

-- the lesser of two numbers, where there are any
abbrev pub lesser : Option ℕ → Option ℕ → Option ℕ
lesser None b = b
lesser (Some m) None = Some m
lesser (Some m) (Some n) = if nat_le m n then Some m else Some n

abbrev pub one_more_if : Bool → ℕ → Option ℕ
one_more_if b count = if b then Some (suc count) else None

-- one part more than those that reach a place, where the part is there
abbrev pub through : Bool → Option ℕ → Option ℕ
through b None = None
through b (Some count) = one_more_if b count

-- by a left part of so many symbols and one more
abbrev pub arriving : Place → ℕ → Option ℕ
arriving place k = through (has_words (words_at place.lefts.items k)) place.fewest

-- by a right part that is all that stands from the place on
abbrev pub completing : Place → Option ℕ
completing place = through (has_words place.rights) place.fewest

-- with so many left parts, and one from this place on, a place is reached
pub record Arrives (places : List Place) (to i m : ℕ) : Type 0 where
  pub place : Place
  pub at : slice_get places i ≡ Some place
  pub is : arriving place (to - i - 1) ≡ Some m

-- with so many left parts and a right part from this place on, which isn't the first, the end is
-- reached
pub record Completes (places : List Place) (i m : ℕ) : Type 0 where
  pub place : Place
  pub behind : 0 < i
  pub at : slice_get places i ≡ Some place
  pub is : completing place ≡ Some m

-- the place of a surface: the fewest left parts that reach it, and where some do, what parts begin
-- there
pub record IsPlaceAt (lexicon : Lexicon) (surface : List Symbol) (places : List Place) (i : ℕ)
    (place : Place) : Type 0 where
  pub row : (m : ℕ) → place.fewest ≡ Some m →
      IsRow lexicon (drop i surface) place.lefts.items place.rights
  pub begins : i ≡ 0 → place.fewest ≡ Some 0
  pub fewest : 0 < i → IsLeast (Arrives places i) i place.fewest

pub record IsExplored (lexicon : Lexicon) (surface : List Symbol)
    (places : List Place) : Type 0 where
  pub each : (i : ℕ) (place : Place) → slice_get places i ≡ Some place →
      IsPlaceAt lexicon surface places i place
  pub whole : length places ≡ length surface

-- a word joined with each of those behind it
abbrev pub joins : List (List Symbol) → List Symbol → List (List Symbol)
joins backs front = map (λ back. front ++ Join ∷ back) backs

abbrev pub is_number : Option ℕ → ℕ → Bool
is_number None n = false
is_number (Some m) n = m == n

-- the words of a left part of so many symbols and one more, joined with those that are listed of the
-- place behind it, where just so many parts reach that
abbrev pub going : Place → ℕ → ℕ → Listed → List (List Symbol)
going place next k listed = if is_number listed.fewest next
    then flat_map (joins listed.words) (words_at place.lefts.items k) else []

-- and those of the left parts of more symbols
unfoldable pub goings : Place → ℕ → ℕ → List Listed → List (List Symbol)
goings place next k [] = []
goings place next k (listed ∷ behind) =
    going place next k listed ++ goings place next (suc k) behind

-- the words of right parts, where there are so many parts with them, and not one part alone
abbrev pub ending : Place → ℕ → ℕ → ℕ → List (List Symbol)
ending place at total next = if nat_lt 0 at && (next == total) then place.rights else []

-- the words of all that stands from a place on, where so many left parts reach it, if any do
abbrev pub words_from : Option ℕ → Place → ℕ → ℕ → List Listed → List (List Symbol)
words_from None place at total behind = []
words_from (Some count) place at total behind =
    ending place at total (suc count) ++ goings place (suc count) 0 behind

-- what is listed of these places, of which the first has this number, for so many parts
abbrev pub AreListed : ℕ → ℕ → List Place → List Listed → Type 0
AreListed total at [] lists = lists ≡ []
AreListed total at (place ∷ places) [] = ⊥
AreListed total at (place ∷ places) (listed ∷ lists) = (listed.fewest ≡ place.fewest)
    × ((w : List Symbol) → IsIn w listed.words
    ↔ IsIn w (words_from place.fewest place at total lists))
    × AreListed total (suc at) places lists

-- the words that are listed of the first place
abbrev pub first_words : List Listed → List (List Symbol)
first_words [] = []
first_words (listed ∷ more) = listed.words

-- the words for the fewest parts with which the end is reached, where there are any
pub record IsListing (places : List Place) (words : List (List Symbol)) : Type 0 where
  pub found : Option ℕ
  pub least : IsLeast (Completes places) (length places) found
  pub none : found ≡ None → words ≡ []
  pub some : (total : ℕ) → found ≡ Some total → (lists : List Listed)
      × (AreListed total 0 places lists × (words ≡ first_words lists))
