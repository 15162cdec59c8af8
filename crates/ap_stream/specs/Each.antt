-- A tool that handles each item by itself: a unit gives a text, and every other item is copied as
-- it is spelled.
use Rattle.std.specs.Prelude.{ℕ, nat_lt, Bool, true, false, ◌&&◌, List, [], ◌∷◌, length, Option, Some, None, if◌then◌else◌, ◌≡◌, ◌≤◌, ◌-◌, take, drop}
use Rattle.std.specs.List.{AllByRecursion}
use Rattle.ap_stream.specs.Types.{Symbol, Dialect, Limit, UnitTooLong}
use Rattle.ap_stream.specs.Items.{Item, Read}
use Rattle.ap_stream.specs.declared.kept_units.Entry.{Entry}
use Rattle.ap_stream.specs.Limits.{unit_max}
use Rattle.ap_stream.specs.Spelling.{spelled}
use Rattle.ap_stream.specs.Told.{Told, silent, behind, ends_in}
use Rattle.ap_stream.specs.UnitBytes.{UnitOf}

-- what is written by the rendering of its words
abbrev pub is_worded : Item → Bool
is_worded (Item.Unit words) = true
is_worded (Item.Chunk c) = true
is_worded thing = false

-- what an item gives, where a unit gives this
abbrev pub item_text : (List (List Symbol) → List ℕ) → Item → List ℕ
item_text given (Item.Unit words) = given words
item_text given thing = spelled thing

-- what is written for one unit has so many bytes at most
abbrev pub is_over : (List (List Symbol) → List ℕ) → Item → Bool
is_over given thing = is_worded thing && nat_lt unit_max (length (item_text given thing))

-- each item by itself
abbrev pub each : (List (List Symbol) → List ℕ) → List Read → Told
each given [] = silent
each given (read ∷ reads) = if is_over given read.item
    then ends_in [] (Limit UnitTooLong read.place)
    else behind (item_text given read.item) (each given reads)

-- such a tool at work: its writer, its dialect, the item that it holds, and whether it is the last
pub record Single (W : Type 0) : Type 0 where
  pub writer : W
  pub dialect : Dialect
  pub item : Option Read
  pub finished : Bool

abbrev pub held_items : Option Read → List Read
held_items None = []
held_items (Some read) = read ∷ []

abbrev pub held_size : Option Read → ℕ
held_size None = 0
held_size (Some read) = read.size

-- the bytes are a unit, and its words give this text, which is within the limit
pub record IsGiven (dialect : Dialect) (given : List (List Symbol) → List ℕ) (key text : List ℕ) :
    Type 0 where
  pub words : List (List Symbol)
  pub unit : UnitOf dialect key words
  pub is : text ≡ given words
  pub short : length text ≤ unit_max

-- At the entry's places the bytes of the unit stand, and behind them its text.
pub record IsKept (dialect : Dialect) (given : List (List Symbol) → List ℕ) (bytes : List ℕ)
    (entry : Entry) : Type 0 where
  pub first : entry.from ≤ entry.behind
  pub second : entry.behind ≤ entry.to
  pub within : entry.to ≤ length bytes
  pub is : IsGiven dialect given (take (entry.behind - entry.from) (drop entry.from bytes))
      (take (entry.to - entry.behind) (drop entry.behind bytes))

abbrev pub AreKept : Dialect → (List (List Symbol) → List ℕ) → List ℕ → List Entry → Type 0
AreKept dialect given bytes entries = AllByRecursion (IsKept dialect given bytes) entries
