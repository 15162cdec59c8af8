-- Runs of a text that tools copy: items that no tool gives a meaning, as they are spelled.
use Rattle.std.specs.Prelude.{◌≡◌, ℕ, ◌+◌, ◌≤◌, List, [], ◌∷◌, ◌++◌, length, Bool, true, false, None, not, ◌&&◌, ◌||◌, eqb, encode_utf8}
use Rattle.std.specs.List.{flat_map, AllByRecursion}
use Rattle.ap_symbol.specs.Coded.{IsCode}
use Rattle.ap_stream.specs.Types.{Symbol, Dialect}
use Rattle.ap_stream.specs.Items.{Item, Read}
use Rattle.ap_stream.specs.Blanks.{is_white}
use Rattle.ap_stream.specs.Stands.{stops_word}
use Rattle.ap_stream.specs.Limits.{unit_max}
use Rattle.ap_stream.specs.Reading.{Reads, reads, counted, read_at}
use Rattle.ap_stream.specs.Rest.{worked}
use Rattle.ap_stream.specs.Seat.{Seat}
use Rattle.ap_stream.specs.Spelling.{spelled}
use Rattle.ap_stream.specs.Told.{Told, Ending, behind}
use Rattle.ap_stream.specs.UnitBytes.{UnitOf, unit_words}

-- a character that no dialect refuses, with which no blank and no unit begins, and to which no tool
-- gives a meaning: none of \ / $ < > ^ { } [ ] @, of ~, and of white space
abbrev pub is_common : ℕ → Bool
is_common c = not (stops_word c || (eqb c 126 || is_white c))

-- bytes that are one such character
pub record IsCommon (bytes : List ℕ) : Type 0 where
  pub letter : ℕ
  pub code : IsCode letter
  pub common : is_common letter ≡ true
  pub is : bytes ≡ encode_utf8 letter

-- an item of one such character, bare, or a blank
abbrev pub is_copied : Item → Bool
is_copied (Item.Plain c) = not c.escaped && is_common c.letter
is_copied (Item.Blank bytes) = true
is_copied thing = false

abbrev pub AreCopied : List Read → Type 0
AreCopied items = AllByRecursion (λ read. is_copied read.item ≡ true) items

-- where nothing is held, what tools copy gives itself
abbrev pub AreCopying : {H : Type 0} → (H → ℕ) → (H → List Read → Told) → Type 0
AreCopying count work = (h : _) (read : Read) (xs : List Read) → count h ≡ 0 →
    is_copied read.item ≡ true → work h (read ∷ xs) ≡ behind (spelled read.item) (work h xs)

-- the items as they are spelled
abbrev pub spelling : List Read → List ℕ
spelling items = flat_map (λ read. spelled read.item) items

-- these items, and then what is read
abbrev pub preceded : List Read → Reads → Reads
preceded items more = record { items = items ++ more.items; stop = more.stop }

-- wherever it stands, and however the text goes on, the run is read as items that are copied, and is
-- their spelling
pub record IsRun (dialect : Dialect) (run : List ℕ) : Type 0 where
  pub items : ℕ → List Read
  pub copied : (place : ℕ) → AreCopied (items place)
  pub is : (place : ℕ) → spelling (items place) ≡ run
  pub reads_on : (place : ℕ) → counted place ≡ place → (x : List ℕ) → reads dialect place (run ++ x)
      ≡ preceded (items place) (reads dialect (counted (place + length run)) x)

-- nothing is begun or held, and items may come
pub record IsOpen {H : Type 0} (is_finished : H → Bool) (count : H → ℕ) (seat : Seat H) : Type 0 where
  pub going : seat.fault ≡ None
  pub begun : seat.begun ≡ []
  pub none : count seat.handler ≡ 0
  pub reading : is_finished seat.handler ≡ false

-- and nothing is pending
pub record IsIdle {H : Type 0} (is_finished : H → Bool) (count : H → ℕ) (seat : Seat H) : Type 0 where
  pub free : IsOpen is_finished count seat
  pub empty : seat.pending ≡ []

-- the unit that these bytes are, worked on by itself, gives this text
pub record GivesUnit {H : Type 0} (work : H → List Read → Told) (dialect : Dialect) (old new : H)
    (bytes given : List ℕ) : Type 0 where
  pub short : length given ≤ unit_max
  pub gives : (place size : ℕ) (xs : List Read) →
      work old (read_at place (Item.Unit (unit_words dialect bytes)) size ∷ xs)
      ≡ behind given (work new xs)

-- the bytes are a unit that gave what was appended
pub record GaveUnit {H : Type 0} (work : H → List Read → Told) (dialect : Dialect) (old new : H)
    (bytes before after : List ℕ) : Type 0 where
  pub words : List (List Symbol)
  pub unit : UnitOf dialect bytes words
  pub given : List ℕ
  pub is : after ≡ before ++ given
  pub gives : GivesUnit work dialect old new bytes given

-- the bytes, worked on by themselves wherever they stand and however the text goes on, give this
-- text
pub record Gives {H : Type 0} (work : H → List Read → Told) (dialect : Dialect) (old new : H)
    (bytes given : List ℕ) : Type 0 where
  pub gives : (place : ℕ) → counted place ≡ place → (x : List ℕ) (e : Ending) →
      worked (work old) (reads dialect place (bytes ++ x)) e
      ≡ behind given (worked (work new) (reads dialect (counted (place + length bytes)) x) e)

-- nothing, or one white-space character
abbrev pub IsWhite : List ℕ → Type 0
IsWhite [] = Unit {0}
IsWhite (w ∷ []) = is_white w ≡ true
IsWhite (w ∷ v ∷ bytes) = ⊥
