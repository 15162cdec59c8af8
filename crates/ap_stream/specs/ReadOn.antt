-- Texts that a dialect reads to their end, or to an item over the limit: a stage that reads what
-- another stage wrote finds nothing else there.
use Rattle.std.specs.Prelude.{◌≡◌, ◌≢◌, ◌⊎◌, ℕ, List, ◌∷◌, ◌++◌, length, Option, Some, None}
use Rattle.ap_stream.specs.Types.{Symbol, Dialect, ItemTooLong, MalformedKind, Unfinished, StreamFault, Malformed, Limit}
use Rattle.ap_stream.specs.Each.{each}
use Rattle.ap_stream.specs.Pieces.{HasSuperblanks, StayBare, MakesNone}
use Rattle.ap_stream.specs.Reading.{reads, counted}
use Rattle.ap_stream.specs.Told.{Told, Ending, Clean}

-- nothing stops, or an item over the limit does
abbrev pub IsNoneOrTooLong : Option StreamFault → Type 0
IsNoneOrTooLong stop = (stop ≡ None) ⊎ ((place : ℕ) × (stop ≡ Some (Limit ItemTooLong place)))

-- the dialect reads the text to its end, or to an item that is over the limit
abbrev pub IsReadOn : Dialect → List ℕ → Type 0
IsReadOn dialect text = IsNoneOrTooLong (reads dialect 0 text).stop

-- the fault isn't that the text is malformed
abbrev pub IsNotMalformed : Option StreamFault → Type 0
IsNotMalformed fault = (kind : MalformedKind) (place : ℕ) → fault ≢ Some (Malformed kind place)

-- what the stage writes, with a fault or without, is read on by the dialect
abbrev pub WritesFor : Dialect → (List ℕ → Ending → Told) → Type 0
WritesFor dialect stage = (text : List ℕ) (ending : Ending) →
    IsReadOn dialect (stage text ending).text

-- a text that is read on by the dialect is never malformed for the stage
abbrev pub NeverMalformed : Dialect → (List ℕ → Ending → Told) → Type 0
NeverMalformed dialect stage = (text : List ℕ) → IsReadOn dialect text →
    IsNotMalformed (stage text Clean).fault

-- the stage reads the one dialect, and writes for the other
pub record Links (from to : Dialect) (stage : List ℕ → Ending → Told) : Type 0 where
  pub taken : NeverMalformed from stage
  pub written : WritesFor to stage

-- the text is a row of pieces of the dialect, each of any size, with some superblanks
pub record ArePieces (dialect : Dialect) (text : List ℕ) : Type 0 where
  pub superblanks : List (List ℕ)
  pub has : HasSuperblanks dialect text superblanks

-- some text of the dialect begins with these bytes
pub record BeginsText (dialect : Dialect) (bytes : List ℕ) : Type 0 where
  pub more : List ℕ
  pub pieces : ArePieces dialect (bytes ++ more)

-- Behind pieces, which end at the place, stand bytes that begin a text of the dialect with them,
-- and then the first wrong byte: with it too no text of the dialect begins.
pub record IsFirstWrong (dialect : Dialect) (text : List ℕ) (place : ℕ) : Type 0 where
  pub front : List ℕ
  pub begun : List ℕ
  pub byte : ℕ
  pub rest : List ℕ
  pub text_is : text ≡ front ++ (begun ++ byte ∷ rest)
  pub place_is : place ≡ counted (length front)
  pub whole : ArePieces dialect front
  pub begins : BeginsText dialect (front ++ begun)
  pub wrong : (more : List ℕ) → ArePieces dialect (front ++ (begun ++ byte ∷ more)) → ⊥

-- the text is no text of the dialect, and begins one
pub record IsUnfinished (dialect : Dialect) (text : List ℕ) (kind : MalformedKind) : Type 0 where
  pub kind_is : kind ≡ Unfinished
  pub lacks : ArePieces dialect text → ⊥
  pub begins : BeginsText dialect text

-- the laws

-- a row of pieces is read on
abbrev pub PiecesAreRead : Type 0
PiecesAreRead = (dialect : Dialect) (text : List ℕ) (superblanks : List (List ℕ)) →
    HasSuperblanks dialect text superblanks → IsReadOn dialect text

-- What a tool writes that takes each item by itself, and makes no superblank of a unit, is a row of
-- pieces: of what is read of any text, whatever stops the reading, and up to a fault of its own.
abbrev pub EachIsPieces : Type 0
EachIsPieces = (from to : Dialect) (given : List (List Symbol) → List ℕ) (place : ℕ)
    (text : List ℕ)
    → StayBare from to → MakesNone from to given →
    ArePieces to (each given (reads from place text).items).text

-- Where reading answers that a text is malformed, it has a first wrong byte, in the item at that
-- place; or it is unfinished.
abbrev pub MalformedAreWrong : Type 0
MalformedAreWrong = (dialect : Dialect) (text : List ℕ) (kind : MalformedKind) (place : ℕ) →
    (reads dialect 0 text).stop ≡ Some (Malformed kind place) →
    IsFirstWrong dialect text place ⊎ IsUnfinished dialect text kind
