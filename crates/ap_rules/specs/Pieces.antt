-- The pieces that elements of an output are.
use Rattle.std.specs.Prelude.{ℕ, Bool, true, false, List, [], ◌∷◌, ◌++◌, Option, Some, None, codes, if◌then◌else◌}
use Rattle.std.specs.Option.{option_map, option_to_list}
use Rattle.ap_symbol.specs.declared.symbol.Symbol.{Symbol}
use Rattle.ap_markup.specs.NameLists.{number_of}
use Rattle.ap_markup.specs.Pieces.{Pair}
use Rattle.ap_markup.specs.Said.{value_of, is_named}
use Rattle.ap_markup.specs.Tree.{Tag}
use Rattle.ap_rules.specs.Children.{Children, nothing, element, within}
use Rattle.ap_rules.specs.Faults.{is_transfer}
use Rattle.ap_rules.specs.Plain.{PlainValue, PlainUnit, PlainChunkPiece, chunk_unit, chunk_units, chunk_blank, PlainChunk, PlainPiece, blank, unit, units, chunk, value_chunk}
use Rattle.ap_rules.specs.Texts.{number_in, word_of}
use Rattle.ap_rules.specs.Values.{Scope, on_some, values}

-- the values of each element of this name
abbrev pub rows_named : List ℕ → Scope → Children → List (List PlainValue)
rows_named name s nothing = []
rows_named name s (element tag own more) = if is_named name tag
    then values s false own ∷ rows_named name s more else rows_named name s more

abbrev pub chunk_piece : Scope → Tag → Children → Option PlainChunkPiece
chunk_piece s tag own =
    if is_named (codes "lu") tag then Some (chunk_unit (values s false own))
    else if is_named (codes "mlu") tag then Some (chunk_units (rows_named (codes "lu") s own))
    else if is_named (codes "b") tag
    then Some (chunk_blank (number_in 1 99 (value_of (codes "pos") tag.attributes)))
    else None

abbrev pub chunk_pieces : Scope → Children → List PlainChunkPiece
chunk_pieces s nothing = []
chunk_pieces s (element tag own more) = option_to_list (chunk_piece s tag own)
    ++ chunk_pieces s more

-- The variable whose name is given: none where no name is given, and no answer where no variable
-- has it.
abbrev pub variable_given : List (List ℕ) → Option (List ℕ) → Option (Option ℕ)
variable_given vars None = Some None
variable_given vars (Some name) = option_map Some (number_of vars name)

abbrev pub word_given : Option (List ℕ) → Option (List Symbol)
word_given None = None
word_given (Some text) = Some (word_of text)

-- one of the two names of a chunk is there
abbrev pub is_named_once : Option (List Symbol) → Option ℕ → Bool
is_named_once None None = false
is_named_once None (Some n) = true
is_named_once (Some word) None = true
is_named_once (Some word) (Some n) = false

-- a chunk of transfer: its name, which is a word or that of a variable, the variable of its case,
-- its tags and its pieces
abbrev pub chunk_of : Scope → List Pair → Children → Option PlainChunk
chunk_of s given own =
    on_some (variable_given s.names.vars (value_of (codes "namefrom") given))
    (λ (namefrom : Option ℕ).
    on_some (variable_given s.names.vars (value_of (codes "case") given)) (λ (case : Option ℕ).
    if is_named_once (word_given (value_of (codes "name") given)) namefrom then Some (record {
      name = word_given (value_of (codes "name") given);
      namefrom = namefrom;
      case = case;
      tags = rows_named (codes "tag") s (within (codes "tags") own);
      pieces = chunk_pieces s own;
    }) else None))

-- a chunk as the form of the file has it
abbrev pub any_chunk : Scope → Tag → Children → Option PlainPiece
any_chunk s tag own = if is_transfer s.form then option_map chunk (chunk_of s tag.attributes own)
    else Some (value_chunk (values s true own))

-- The piece that an element is: a blank; a chunk where outputs hold chunks, and units where they
-- don't.
abbrev pub piece : Scope → Tag → Children → Option PlainPiece
piece s tag own =
    if is_named (codes "b") tag
    then Some (blank (number_in 1 99 (value_of (codes "pos") tag.attributes)))
    else if is_named (codes "chunk") tag then (if s.chunks then any_chunk s tag own else None)
    else if is_named (codes "lu") tag
    then (if s.chunks then None else Some (unit (values s false own)))
    else if is_named (codes "mlu") tag
    then (if s.chunks then None else Some (units (rows_named (codes "lu") s own)))
    else None

-- the pieces among the elements of an output
abbrev pub pieces : Scope → Children → List PlainPiece
pieces s nothing = []
pieces s (element tag own more) = option_to_list (piece s tag own) ++ pieces s more
