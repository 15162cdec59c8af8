-- The pieces of outputs in the table of elements, as relations: one case for each row, and none in
-- which an element is passed over.
use Rattle.std.specs.Prelude.{◌≡◌, ◌⊎◌, ℕ, true, false, List, [], ◌∷◌, Option, Some, None, codes}
use Rattle.ap_markup.specs.Pieces.{Pair}
use Rattle.ap_markup.specs.NameLists.{number_of}
use Rattle.ap_markup.specs.Said.{value_of}
use Rattle.ap_markup.specs.Tree.{Tag}
use Rattle.ap_rules.specs.Children.{Children, nothing, element}
use Rattle.ap_rules.specs.Faults.{is_transfer}
use Rattle.ap_rules.specs.Pieces.{word_given, is_named_once}
use Rattle.ap_rules.specs.Plain.{PlainValue, values_of, PlainChunkPiece, chunk_unit, chunk_units, chunk_blank, PlainChunk, PlainPiece, blank, unit, units, chunk, value_chunk}
use Rattle.ap_rules.specs.ValueRows.{IsNamed, IsBlankAt, AreValues}
use Rattle.ap_rules.specs.Values.{Scope}

-- each of the elements has this name and holds the values of one of these rows, in order
abbrev pub AreRows : List ℕ → Scope → Children → List (List PlainValue) → Type 0
AreRows name s nothing [] = Unit {0}
AreRows name s (element tag own more) (row ∷ rows) = IsNamed name tag
    × AreValues s false own (values_of row) × AreRows name s more rows
AreRows name s _ _ = ⊥

-- a piece of a chunk of transfer
abbrev pub IsChunkPiece : Scope → Tag → Children → PlainChunkPiece → Type 0
IsChunkPiece s tag own (chunk_unit vs) = IsNamed (codes "lu") tag
    × AreValues s false own (values_of vs)
IsChunkPiece s tag own (chunk_units us) = IsNamed (codes "mlu") tag × AreRows (codes "lu") s own us
IsChunkPiece s tag own (chunk_blank pos) = IsNamed (codes "b") tag × IsBlankAt tag.attributes pos

abbrev pub AreChunkPieces : Scope → Children → List PlainChunkPiece → Type 0
AreChunkPieces s nothing [] = Unit {0}
AreChunkPieces s (element tag own more) (p ∷ ps) = IsChunkPiece s tag own p
    × AreChunkPieces s more ps
AreChunkPieces s _ _ = ⊥

-- the tags, if they stand first, and then the pieces
abbrev pub AreTagsAndPieces : Scope → Children → List (List PlainValue) → List PlainChunkPiece →
    Type 0
AreTagsAndPieces s nothing tags pieces = (tags ≡ []) × (pieces ≡ [])
AreTagsAndPieces s (element tag own more) tags pieces =
    (IsNamed (codes "tags") tag × AreRows (codes "tag") s own tags × AreChunkPieces s more pieces)
    ⊎ ((tags ≡ []) × AreChunkPieces s (element tag own more) pieces)

-- a variable that the file defines, where one is named
abbrev pub IsVariableNamed : List (List ℕ) → Option (List ℕ) → Option ℕ → Type 0
IsVariableNamed vars given None = given ≡ None
IsVariableNamed vars given (Some n) = (name : List ℕ) × (given ≡ Some name)
    × (number_of vars name ≡ Some n)

-- a chunk of transfer: one name, which is a word or the value of a variable
pub record IsChunk (s : Scope) (given : List Pair) (own : Children) (c : PlainChunk) : Type 0 where
  pub named : is_named_once c.name c.namefrom ≡ true
  pub name : c.name ≡ word_given (value_of (codes "name") given)
  pub namefrom : IsVariableNamed s.names.vars (value_of (codes "namefrom") given) c.namefrom
  pub case : IsVariableNamed s.names.vars (value_of (codes "case") given) c.case
  pub parts : AreTagsAndPieces s own c.tags c.pieces

-- The element is this piece of an output: a chunk as the form of the file has it where outputs hold
-- chunks, and units where they don't.
abbrev pub IsPiece : Scope → Tag → Children → PlainPiece → Type 0
IsPiece s tag own (blank pos) = IsNamed (codes "b") tag × IsBlankAt tag.attributes pos
IsPiece s tag own (unit vs) = IsNamed (codes "lu") tag × (s.chunks ≡ false)
    × AreValues s false own (values_of vs)
IsPiece s tag own (units us) = IsNamed (codes "mlu") tag × (s.chunks ≡ false)
    × AreRows (codes "lu") s own us
IsPiece s tag own (chunk c) = IsNamed (codes "chunk") tag × (s.chunks ≡ true)
    × (is_transfer s.form ≡ true) × IsChunk s tag.attributes own c
IsPiece s tag own (value_chunk vs) = IsNamed (codes "chunk") tag × (s.chunks ≡ true)
    × (is_transfer s.form ≡ false) × AreValues s true own (values_of vs)

abbrev pub ArePieces : Scope → Children → List PlainPiece → Type 0
ArePieces s nothing [] = Unit {0}
ArePieces s (element tag own more) (p ∷ ps) = IsPiece s tag own p × ArePieces s more ps
ArePieces s _ _ = ⊥
