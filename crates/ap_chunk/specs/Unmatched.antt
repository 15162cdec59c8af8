-- What is written for an item that no match holds.
use Rattle.std.specs.Prelude.{ℕ, Bool, true, false, List, [], ◌∷◌, ◌++◌, codes}
use Rattle.ap_symbol.specs.declared.symbol.Symbol.{Symbol}
use Rattle.ap_symbol.specs.declared.symbol.Symbol.TheVariants.{Star}
use Rattle.ap_stream.specs.Spelling.{spelled, chunk_bytes}
use Rattle.ap_stream.specs.declared.item.Inner.{Inner}
use Rattle.ap_stream.specs.declared.item.Item.{Item}
use Rattle.ap_stream.specs.declared.item.Item.TheVariants.{Plain, Blank, Unit, Chunk}
use Rattle.ap_rules.specs.declared.rules.DefaultPiece.{DefaultPiece}
use Rattle.ap_rules.specs.declared.rules.DefaultPiece.TheVariants as default
use Rattle.ap_rules.specs.declared.rules.Form.{Form}
use Rattle.ap_rules.specs.declared.rules.Form.TheVariants.{Transfer, Interchunk, Postchunk}
use Rattle.ap_rules.specs.declared.rules.Rules.{Rules}
use Rattle.ap_chunk.specs.Chunks.{lone_unit, chunk_words, content_text}
use Rattle.ap_chunk.specs.Parts.{word_of}

-- the source of a unit is unknown: it begins with a star
abbrev pub is_unknown : List Symbol → Bool
is_unknown [] = false
is_unknown (Star ∷ word) = true
is_unknown (_ ∷ word) = false

abbrev pub chunk_front : Bool → List ℕ
chunk_front true = codes "^unknown<unknown>{"
chunk_front false = codes "^default<default>{"

-- a unit of transfer: its target as it is, or in a chunk of its own
abbrev pub default_text : DefaultPiece → List Symbol → List Symbol → List ℕ
default_text default.Chunk source target = chunk_front (is_unknown source) ++
    (lone_unit target ++ codes "}$")
default_text default.Lu source target = lone_unit target

abbrev pub unit_text : Form → DefaultPiece → List (List Symbol) → List ℕ
unit_text Transfer piece words = default_text piece (word_of 0 words) (word_of 1 words)
unit_text Interchunk piece words = spelled (Unit words)
unit_text Postchunk piece words = spelled (Unit words)

-- in postchunk a chunk is replaced by its content
abbrev pub chunk_text : Form → List Symbol → List Inner → List ℕ
chunk_text Transfer name content = chunk_bytes name content
chunk_text Interchunk name content = chunk_bytes name content
chunk_text Postchunk name content = content_text content (chunk_words name content)

-- an item, by what is written for the words of a unit; every other item as it is spelled
abbrev pub lone_text : (List (List Symbol) → List ℕ) → Rules → Item → List ℕ
lone_text text_of rules (Plain c) = spelled (Plain c)
lone_text text_of rules (Blank bytes) = spelled (Blank bytes)
lone_text text_of rules (Unit words) = text_of words
lone_text text_of rules (Chunk c) = chunk_text rules.form c.name c.content

abbrev pub unmatched_text : Rules → Item → List ℕ
unmatched_text rules thing = lone_text (unit_text rules.form rules.default) rules thing
