-- What the laws of reading say.
use Rattle.std.specs.Prelude.{◌≡◌, ℕ, ◌<◌, Bool, true, false, List, [], ◌∷◌, ◌++◌, length, take}
use Rattle.ap_stream.specs.Types.{Symbol, Dialect, Lexical, Chunked}
use Rattle.ap_symbol.specs.Words.{is_white, AreProper}
use Rattle.ap_symbol.specs.Coded.{IsCode, IsNameText, AreCoded}
use Rattle.ap_stream.specs.Items.{Chunk, Inner, Item}
use Rattle.ap_stream.specs.Blanks.{Open, blank}
use Rattle.ap_stream.specs.Dialects.{has_words}
use Rattle.ap_stream.specs.Units.{form_of}
use Rattle.ap_stream.specs.Reading.{Whole, first}
use Rattle.ap_stream.specs.Notation.{IsUnitText, IsChunkText}
pub use Rattle.ap_stream.specs.Notation.{NoBlankFirst}
use Rattle.ap_stream.specs.Spelling.{unit_bytes, chunk_bytes}

-- a symbol that bytes of a surface, or of another word, spell
abbrev pub IsSpelt : Bool → Symbol → Type 0
IsSpelt surface (Symbol.Letter c) = IsCode c × (is_white c ≡ false)
IsSpelt surface (Symbol.Tag name) = (surface ≡ false) × IsNameText name
IsSpelt surface Symbol.Blank = Unit {0}
IsSpelt surface mark = surface ≡ false

abbrev pub AreSpelt : Bool → List Symbol → Type 0
AreSpelt surface [] = Unit {0}
AreSpelt surface (s ∷ word) = IsSpelt surface s × AreSpelt surface word

abbrev pub EachSpelt : List (List Symbol) → Type 0
EachSpelt [] = Unit {0}
EachSpelt (word ∷ words) = AreSpelt false word × EachSpelt words

-- one word, or several
abbrev pub AreAsMany : Bool → List (List Symbol) → Type 0
AreAsMany several [] = several ≡ false
AreAsMany several (word ∷ words) = several ≡ true

-- the words of a unit of the dialect: a first one that isn't empty, and then as many as the dialect
-- says
abbrev pub AreWords : Dialect → List (List Symbol) → Type 0
AreWords dialect [] = ⊥
AreWords dialect (word ∷ words) = (has_words dialect ≡ true) × (0 < length word)
    × AreSpelt (form_of dialect).surface word × EachSpelt words
    × AreAsMany (form_of dialect).several words

-- the bytes of a blank: white space and superblanks, and all of them
abbrev pub IsBlank : List ℕ → Type 0
IsBlank bytes = (0 < length bytes) × (blank 0 bytes ≡ Open)

-- the parts of a chunk's content: units of one word and blanks, no two blanks side by side
abbrev pub AreParts : List Inner → Type 0
AreParts [] = Unit {0}
AreParts (Inner.Unit words ∷ parts) = AreWords Lexical words × AreParts parts
AreParts (Inner.Blank bytes ∷ parts) = IsBlank bytes × NoBlankFirst parts × AreParts parts

-- what is written of the words of a unit is read back as these words, whatever follows
abbrev pub ReadsBack : Type 0
ReadsBack = (dialect : Dialect) (words : List (List Symbol)) (x : List ℕ) → AreWords dialect words →
    first dialect (unit_bytes words ++ x) ≡ Whole (Item.Unit words) (length (unit_bytes words))

-- the words of a unit that is read are words of a unit of the dialect
abbrev pub ReadsWords : Type 0
ReadsWords = (dialect : Dialect) (text : List ℕ) (words : List (List Symbol)) (n : ℕ) →
    first dialect text ≡ Whole (Item.Unit words) n → AreWords dialect words

-- what is written of a chunk is read back as it, whatever follows
abbrev pub ChunksReadBack : Type 0
ChunksReadBack = (name : List Symbol) (content : List Inner) (x : List ℕ) → AreSpelt false name →
    AreParts content → first Chunked (chunk_bytes name content ++ x)
    ≡ Whole (Item.Chunk (record { name = name; content = content }))
    (length (chunk_bytes name content))

-- a chunk that is read can be written: its name is a word, and its content is of such parts
abbrev pub ChunksAreWritten : Type 0
ChunksAreWritten = (text : List ℕ) (chunk : Chunk) (n : ℕ) →
    first Chunked text ≡ Whole (Item.Chunk chunk) n →
    AreSpelt false chunk.name × AreParts chunk.content

-- every word of the program can be written in a unit, and as a chunk's name
abbrev pub WordsAreSpelt : Type 0
WordsAreSpelt = (word : List Symbol) → AreProper word → AreCoded word → AreSpelt false word

-- the bytes of a unit are read as its words, whatever follows
abbrev pub UnitsAreRead : Type 0
UnitsAreRead = (dialect : Dialect) (words : List (List Symbol)) (bytes x : List ℕ) →
    IsUnitText dialect words bytes →
    first dialect (bytes ++ x) ≡ Whole (Item.Unit words) (length bytes)

-- what is read as a unit are the bytes of one, with these words
abbrev pub ReadAreUnits : Type 0
ReadAreUnits = (dialect : Dialect) (text : List ℕ) (words : List (List Symbol)) (n : ℕ) →
    first dialect text ≡ Whole (Item.Unit words) n → IsUnitText dialect words (take n text)

-- bytes are those of one unit, or of none
abbrev pub AreOneUnit : Type 0
AreOneUnit = (dialect : Dialect) (bytes : List ℕ) (one other : List (List Symbol)) →
    IsUnitText dialect one bytes → IsUnitText dialect other bytes → one ≡ other

-- the bytes of a chunk are read as it, whatever follows
abbrev pub ChunksAreRead : Type 0
ChunksAreRead = (chunk : Chunk) (bytes x : List ℕ) → IsChunkText chunk bytes →
    first Chunked (bytes ++ x) ≡ Whole (Item.Chunk chunk) (length bytes)

-- what is read as a chunk are the bytes of it
abbrev pub ReadAreChunks : Type 0
ReadAreChunks = (text : List ℕ) (chunk : Chunk) (n : ℕ) →
    first Chunked text ≡ Whole (Item.Chunk chunk) n → IsChunkText chunk (take n text)

-- bytes are those of one chunk, or of none
abbrev pub AreOneChunk : Type 0
AreOneChunk = (bytes : List ℕ) (one other : Chunk) → IsChunkText one bytes →
    IsChunkText other bytes → one ≡ other
