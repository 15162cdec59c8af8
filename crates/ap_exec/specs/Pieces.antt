-- The pieces that an output adds.
use Rattle.std.specs.Prelude.{ℕ, ◌+◌, List, [], ◌∷◌, ◌++◌, length, map, Bool, true, false, if◌then◌else◌, nat_le, Ok, Err, Option, Some, None, slice_get}
use Rattle.std.specs.List.{flat_map}
use Rattle.ap_symbol.specs.Kinds.{first_word}
use Rattle.ap_symbol.specs.Recasing.{case_of_lem, recase_lem}
use Rattle.ap_symbol.specs.Rendering.{rendering}
use Rattle.ap_symbol.specs.declared.symbol.Symbol.{Symbol}
use Rattle.ap_symbol.specs.declared.symbol.Symbol.TheVariants.{Join}
use Rattle.ap_rules.specs.Plain.{PlainValue, clip, values_of, PlainUnit, PlainChunkPiece, chunk_unit, chunk_units, chunk_blank, PlainChunk, PlainPiece, blank, unit, units, chunk, value_chunk}
use Rattle.ap_rules.specs.declared.value.ClipPart.{ClipPart}
use Rattle.ap_rules.specs.declared.value.ClipPart.TheVariants.{Whole, Content}
use Rattle.ap_stream.specs.declared.TheConstants.{SPAN_MAX}
use Rattle.ap_stream.specs.declared.item.Inner.{Inner}
use Rattle.ap_stream.specs.declared.item.Inner.TheVariants as inner
use Rattle.ap_exec.specs.declared.template.Atom.{Atom}
use Rattle.ap_exec.specs.declared.template.Atom.TheVariants.{Unit as The_unit, Slot, Space}
use Rattle.ap_exec.specs.declared.template.Piece.{Piece}
use Rattle.ap_exec.specs.declared.template.Piece.TheVariants.{Atom as The_atom, Chunk}
use Rattle.ap_exec.specs.Results.{Ran, ◌>>=◌, OutputTooLong}
use Rattle.ap_exec.specs.Units.{Shown, Sight, unit_at, var_at}
use Rattle.ap_exec.specs.Values.{joined_of}

-- the word of a unit: its values in order
abbrev pub unit_of : Sight → PlainUnit → Ran (List Symbol)
unit_of sight vs = joined_of sight (values_of vs)

abbrev pub units_of : Sight → List PlainUnit → Ran (List (List Symbol))
units_of sight [] = Ok []
units_of sight (u ∷ us) = unit_of sight u >>= λ w. units_of sight us >>= λ ws. Ok (w ∷ ws)

-- the words that aren't empty
abbrev pub filled : List (List Symbol) → List (List Symbol)
filled [] = []
filled ([] ∷ words) = filled words
filled ((s ∷ word) ∷ words) = (s ∷ word) ∷ filled words

abbrev pub behind_join : List Symbol → List Symbol
behind_join word = Join ∷ word

abbrev pub joined : List (List Symbol) → List Symbol
joined [] = []
joined (word ∷ words) = word ++ flat_map behind_join words

-- one word of several, those that aren't empty joined by Joins
abbrev pub compound : List (List Symbol) → List Symbol
compound words = joined (filled words)

-- a blank with a position is a slot
abbrev pub blank_atom : Option ℕ → Atom
blank_atom None = Space
blank_atom (Some pos) = Slot

abbrev pub chunk_piece_of : Sight → PlainChunkPiece → Ran Atom
chunk_piece_of sight (chunk_unit vs) = unit_of sight vs >>= λ word. Ok (The_unit word)
chunk_piece_of sight (chunk_units us) =
    units_of sight us >>= λ words. Ok (The_unit (compound words))
chunk_piece_of sight (chunk_blank pos) = Ok (blank_atom pos)

abbrev pub chunk_pieces_of : Sight → List PlainChunkPiece → Ran (List Atom)
chunk_pieces_of sight [] = Ok []
chunk_pieces_of sight (p ∷ ps) =
    chunk_piece_of sight p >>= λ x. chunk_pieces_of sight ps >>= λ xs. Ok (x ∷ xs)

abbrev pub tags_of : Sight → List PlainUnit → Ran (List Symbol)
tags_of sight [] = Ok []
tags_of sight (t ∷ ts) = unit_of sight t >>= λ x. tags_of sight ts >>= λ xs. Ok (x ++ xs)

-- what a variable holds, where one is given
abbrev pub held_by : List (List Symbol) → Option ℕ → List Symbol
held_by vars None = []
held_by vars (Some n) = var_at (slice_get vars n)

-- the name that is stated, or what a variable holds
abbrev pub stated : List (List Symbol) → Option (List Symbol) → Option ℕ → List Symbol
stated vars (Some name) from = name
stated vars None from = held_by vars from

-- in the case of a variable, where one is given
abbrev pub cased : List (List Symbol) → Option ℕ → List Symbol → List Symbol
cased vars None word = word
cased vars (Some n) word = recase_lem (case_of_lem (var_at (slice_get vars n))) word

abbrev pub name_of : List (List Symbol) → PlainChunk → List Symbol
name_of vars c = cased vars c.case (stated vars c.name c.namefrom)

-- of a unit inside of a chunk its word, and a slot for a blank
abbrev pub atom_in : Inner → Atom
atom_in (inner.Unit words) = The_unit (first_word words)
atom_in (inner.Blank bytes) = Slot

-- a clip gives the content where it names it, or the whole chunk and no link in its place
abbrev pub gives_content : ClipPart → Option (List Symbol) → Bool
gives_content Content link = true
gives_content Whole None = true
gives_content part link = false

abbrev pub content_in : Option Shown → List Atom
content_in None = []
content_in (Some shown) = map atom_in shown.content

abbrev pub content_of : Sight → PlainValue → List Atom
content_of sight (clip c) = if gives_content c.part c.link_to
    then content_in (unit_at sight.positions sight.units c.pos) else []
content_of sight v = []

-- the content of a chunk's content clips, in order
abbrev pub contents_of : Sight → List PlainValue → List Atom
contents_of sight [] = []
contents_of sight (v ∷ vs) = content_of sight v ++ contents_of sight vs

-- A chunk as transfer makes it has its name and its tags, and its pieces; as interchunk makes it,
-- its values as its name, and their content.
abbrev pub piece_of : Sight → PlainPiece → Ran Piece
piece_of sight (blank pos) = Ok (The_atom (blank_atom pos))
piece_of sight (unit vs) = unit_of sight vs >>= λ word. Ok (The_atom (The_unit word))
piece_of sight (units us) = units_of sight us >>= λ words. Ok (The_atom (The_unit (compound words)))
piece_of sight (chunk c) =
    tags_of sight c.tags >>= λ tags. chunk_pieces_of sight c.pieces >>= λ atoms. Ok
    (Chunk (name_of sight.vars c ++ tags) atoms)
piece_of sight (value_chunk vs) =
    unit_of sight vs >>= λ name. Ok (Chunk name (contents_of sight vs))

-- the bytes of the pieces, slots aside; of an empty unit nothing is written
abbrev pub unit_size : List Symbol → ℕ
unit_size [] = 0
unit_size (s ∷ word) = length (rendering (s ∷ word)) + 2

abbrev pub atom_size : Atom → ℕ
atom_size (The_unit word) = unit_size word
atom_size Slot = 0
atom_size Space = 1

abbrev pub atoms_size : List Atom → ℕ
atoms_size [] = 0
atoms_size (a ∷ more) = atom_size a + atoms_size more

abbrev pub piece_size : Piece → ℕ
piece_size (The_atom a) = atom_size a
piece_size (Chunk name atoms) = length (rendering name) + 4 + atoms_size atoms

abbrev pub pieces_size : List Piece → ℕ
pieces_size [] = 0
pieces_size (p ∷ more) = piece_size p + pieces_size more

-- pieces with one more behind them, unless they have more bytes with it than an output may have
unfoldable pub added : Piece → List Piece → Ran (List Piece)
added piece pieces = if nat_le (pieces_size (pieces ++ piece ∷ [])) SPAN_MAX
    then Ok (pieces ++ piece ∷ []) else Err OutputTooLong
