-- The superblanks of a text, by its pieces: a text is a row of plain characters, white space, whole
-- superblanks, whole units and whole chunks, each of any size.
use Rattle.std.specs.Prelude.{◌≡◌, ℕ, true, List, [], ◌∷◌, ◌++◌, None}
use Rattle.std.specs.List.{flat_map}
use Rattle.ap_stream.specs.Types.{Symbol, Dialect, Chunked}
use Rattle.ap_stream.specs.Blanks.{is_white}
use Rattle.ap_stream.specs.Dialects.{has_chunks}
use Rattle.ap_stream.specs.Each.{each}
use Rattle.ap_stream.specs.Laws.{AreWords}
use Rattle.ap_stream.specs.Notation.{IsUnitText, IsChunkText}
use Rattle.ap_stream.specs.Reading.{reads}
use Rattle.ap_stream.specs.Supers.{inner_supers, item_supers, supers}
use Rattle.ap_stream.specs.Items.{Chunk, Read}
pub use Rattle.ap_stream.specs.Notation.{is_bare, IsPlain, IsToBracket, closed, bare, escaped, IsSuperblank}

-- a whole unit of the dialect
pub record IsUnit (dialect : Dialect) (bytes : List ℕ) : Type 0 where
  pub words : List (List Symbol)
  pub text : IsUnitText dialect words bytes

-- a whole chunk, in the dialect that has them
pub record IsChunk (dialect : Dialect) (bytes : List ℕ) : Type 0 where
  pub chunks : has_chunks dialect ≡ true
  pub chunk : Chunk
  pub text : IsChunkText chunk bytes

-- a piece of a text, and its superblanks: itself, where it is one, and of a chunk those of the
-- blanks in its content
pub data IsPiece (dialect : Dialect) (bytes : List ℕ) : List (List ℕ) → Type 0 where
  plain : {superblanks : List (List ℕ)} → IsPlain dialect bytes → superblanks ≡ []
      → IsPiece dialect bytes superblanks
  white : {superblanks : List (List ℕ)} (b : ℕ) → bytes ≡ b ∷ [] → is_white b ≡ true →
      superblanks ≡ []
      → IsPiece dialect bytes superblanks
  superblank : {superblanks : List (List ℕ)} → IsSuperblank bytes → superblanks ≡ bytes ∷ []
      → IsPiece dialect bytes superblanks
  unit : {superblanks : List (List ℕ)} → IsUnit dialect bytes → superblanks ≡ []
      → IsPiece dialect bytes superblanks
  chunk : {superblanks : List (List ℕ)} (c : IsChunk dialect bytes) →
      superblanks ≡ flat_map inner_supers c.chunk.content → IsPiece dialect bytes superblanks

-- The text is a row of pieces, and these are its superblanks in order.
pub data HasSuperblanks (dialect : Dialect) : List ℕ → List (List ℕ) → Type 0 where
  nothing : {text : List ℕ} {superblanks : List (List ℕ)} → text ≡ [] → superblanks ≡ []
      → HasSuperblanks dialect text superblanks
  piece : {text : List ℕ} {superblanks : List (List ℕ)} (front rest : List ℕ)
      (own more : List (List ℕ))
      → IsPiece dialect front own → HasSuperblanks dialect rest more
      → text ≡ front ++ rest → superblanks ≡ own ++ more → HasSuperblanks dialect text superblanks

-- two texts, in the dialects that they are read in, with the same superblanks
pub record HaveSameSuperblanks (from to : Dialect) (text made : List ℕ) : Type 0 where
  pub superblanks : List (List ℕ)
  pub before : HasSuperblanks from text superblanks
  pub after : HasSuperblanks to made superblanks

-- the laws

-- one text behind another has the superblanks of both
abbrev pub TextsJoin : Type 0
TextsJoin = (dialect : Dialect) (front back : List ℕ) (own more : List (List ℕ))
    → HasSuperblanks dialect front own → HasSuperblanks dialect back more →
    HasSuperblanks dialect (front ++ back) (own ++ more)

-- a text has no two lists of superblanks
abbrev pub OneList : Type 0
OneList = (dialect : Dialect) (text : List ℕ) (one other : List (List ℕ))
    → HasSuperblanks dialect text one → HasSuperblanks dialect text other → one ≡ other

-- they are what a scan of the text finds
abbrev pub ScanFinds : Type 0
ScanFinds = (dialect : Dialect) (text : List ℕ) (superblanks : List (List ℕ))
    → HasSuperblanks dialect text superblanks → supers dialect text ≡ superblanks

-- the superblanks of items
abbrev pub supers_of : List Read → List (List ℕ)
supers_of items = flat_map (λ read. item_supers read.item) items

-- a text that is read to its end has the superblanks of its items
abbrev pub ReadTextsHave : Type 0
ReadTextsHave = (dialect : Dialect) (place : ℕ) (text : List ℕ) →
    (reads dialect place text).stop ≡ None
    → HasSuperblanks dialect text (supers_of (reads dialect place text).items)

-- characters that stand bare in one dialect do so in the other
abbrev pub BareStay : Dialect → Dialect → Type 0
BareStay from to = (c : ℕ) → is_bare from c ≡ true → is_bare to c ≡ true

-- and chunks of the one are chunks of the other
abbrev pub StayBare : Dialect → Dialect → Type 0
StayBare Chunked to = BareStay Chunked to × (has_chunks to ≡ true)
StayBare from to = BareStay from to

-- of each unit of one dialect it makes a text of the other without superblanks
abbrev pub MakesNone : Dialect → Dialect → (List (List Symbol) → List ℕ) → Type 0
MakesNone from to given = (words : List (List Symbol)) → AreWords from words
    → HasSuperblanks to (given words) []

-- a tool that takes each item by itself, and makes no superblank of a unit, keeps the superblanks
-- of a text
abbrev pub EachKeeps : Type 0
EachKeeps = (from to : Dialect) (given : List (List Symbol) → List ℕ) (place : ℕ) (text : List ℕ)
    → StayBare from to → MakesNone from to given
    → (reads from place text).stop ≡ None → (each given (reads from place text).items).fault ≡ None
    → HaveSameSuperblanks from to text (each given (reads from place text).items).text

-- what two tools keep one after the other is kept
abbrev pub KeptTwice : Type 0
KeptTwice = (first second third : Dialect) (text made last : List ℕ)
    → HaveSameSuperblanks first second text made → HaveSameSuperblanks second third made last →
    HaveSameSuperblanks first third text last
