-- A template with its slots filled: the slots in order are the blanks in order, whole.
use Rattle.std.specs.Prelude.{ℕ, Bool, nat_lt, List, [], ◌∷◌, ◌++◌, length, Ok, Err, if◌then◌else◌}
use Rattle.std.specs.List.{flat_map}
use Rattle.ap_symbol.specs.declared.symbol.Symbol.{Symbol}
use Rattle.ap_symbol.specs.Rendering.{rendering}
use Rattle.ap_stream.specs.Limits.{span_max}
use Rattle.ap_stream.specs.Supers.{blank_supers}
use Rattle.ap_exec.specs.declared.template.Atom.{Atom}
use Rattle.ap_exec.specs.declared.template.Atom.TheVariants.{Unit as The_unit, Slot, Space}
use Rattle.ap_exec.specs.declared.template.Piece.{Piece}
use Rattle.ap_exec.specs.declared.template.Piece.TheVariants.{Atom as The_atom, Chunk}
use Rattle.ap_exec.specs.Results.{Ran, OutputTooLong}

-- a text, or a slot
pub data Mark : Type 0 where
  text : List ℕ → Mark
  gap : Mark

-- ^ and $ stand about a unit's word
abbrev pub word_marks : List Symbol → List Mark
word_marks word = text (94 ∷ []) ∷ (text (rendering word) ∷ (text (36 ∷ []) ∷ []))

-- an empty unit isn't written
abbrev pub unit_marks : List Symbol → List Mark
unit_marks [] = []
unit_marks (s ∷ word) = word_marks (s ∷ word)

abbrev pub atom_marks : Atom → List Mark
atom_marks (The_unit word) = unit_marks word
atom_marks Slot = gap ∷ []
atom_marks Space = text (32 ∷ []) ∷ []

abbrev pub atoms_marks : List Atom → List Mark
atoms_marks [] = []
atoms_marks (a ∷ more) = atom_marks a ++ atoms_marks more

-- ^ stands before a chunk's name, { and } about what is in it, and $ behind it
abbrev pub chunk_marks : List Symbol → List Atom → List Mark
chunk_marks name atoms =
    text (94 ∷ []) ∷ (text (rendering name)
    ∷ (text (123 ∷ []) ∷ (atoms_marks atoms ++ text (125 ∷ 36 ∷ []) ∷ [])))

abbrev pub piece_marks : Piece → List Mark
piece_marks (The_atom a) = atom_marks a
piece_marks (Chunk name atoms) = chunk_marks name atoms

-- a template as a row of texts and slots
abbrev pub marks : List Piece → List Mark
marks [] = []
marks (p ∷ more) = piece_marks p ++ marks more

-- what is written of a blank for which there is no slot: its superblanks
abbrev pub left_over : List ℕ → List ℕ
left_over bytes = flat_map (λ x. x) (blank_supers 0 bytes)

-- each slot is a whole blank, or a space where there is no blank; what is left over follows
abbrev pub filled : List Mark → List (List ℕ) → List ℕ
filled [] blanks = flat_map left_over blanks
filled (text t ∷ more) blanks = t ++ filled more blanks
filled (gap ∷ more) [] = 32 ∷ filled more []
filled (gap ∷ more) (b ∷ blanks) = b ++ filled more blanks

-- a text has more bytes than an output may have
unfoldable pub is_over : List ℕ → Bool
is_over bytes = nat_lt span_max (length bytes)

unfoldable pub within_span : List ℕ → Ran (List ℕ)
within_span bytes = if is_over bytes then Err OutputTooLong else Ok bytes

-- the text of a template with these blanks, or that it is too long
abbrev pub fill_of : List Piece → List (List ℕ) → Ran (List ℕ)
fill_of template blanks = within_span (filled (marks template) blanks)
