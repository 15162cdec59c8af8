-- What filling keeps: the superblanks of the blanks, in order.
use Rattle.std.specs.Prelude.{◌≡◌, ℕ, true, List, [], ◌∷◌, ◌++◌}
use Rattle.std.specs.List.{flat_map}
use Rattle.ap_symbol.specs.Coded.{AreCoded}
use Rattle.ap_symbol.specs.Words.{AreProper}
use Rattle.ap_stream.specs.Blanks.{is_white}
use Rattle.ap_stream.specs.Pieces.{HasSuperblanks, IsSuperblank}
use Rattle.ap_stream.specs.Spelling.{spelled}
use Rattle.ap_stream.specs.Supers.{blank_supers, item_supers}
use Rattle.ap_stream.specs.declared.dialect.Dialect.TheVariants.{Lexical}
use Rattle.ap_stream.specs.declared.item.Inner.{Inner}
use Rattle.ap_stream.specs.declared.item.Inner.TheVariants as inner
use Rattle.ap_stream.specs.declared.item.Item.{Item}
use Rattle.ap_stream.specs.declared.item.Item.TheVariants as item
use Rattle.ap_exec.specs.declared.template.Atom.{Atom}
use Rattle.ap_exec.specs.declared.template.Atom.TheVariants.{Unit as The_unit, Slot, Space}
use Rattle.ap_exec.specs.declared.template.Piece.{Piece}
use Rattle.ap_exec.specs.declared.template.Piece.TheVariants.{Atom as The_atom, Chunk}
use Rattle.ap_exec.specs.Filling.{marks, filled, left_over}

-- a blank: white space and whole superblanks, in a row
pub data IsBlank : List ℕ → Type 0 where
  ends : {bytes : List ℕ} → bytes ≡ [] → IsBlank bytes
  white : {bytes : List ℕ} (b : ℕ) (rest : List ℕ) → is_white b ≡ true → IsBlank rest →
      bytes ≡ b ∷ rest → IsBlank bytes
  superblank : {bytes : List ℕ} (front rest : List ℕ) → IsSuperblank front → IsBlank rest →
      bytes ≡ front ++ rest → IsBlank bytes

abbrev pub AreBlanks : List (List ℕ) → Type 0
AreBlanks [] = Unit {0}
AreBlanks (b ∷ blanks) = IsBlank b × AreBlanks blanks

-- the superblanks of blanks, in order
abbrev pub supers_in : List (List ℕ) → List (List ℕ)
supers_in blanks = flat_map (blank_supers 0) blanks

-- what an atom takes of the blanks leaves these
abbrev pub left_by_atom : Atom → List (List ℕ) → List (List ℕ)
left_by_atom (The_unit word) blanks = blanks
left_by_atom Slot [] = []
left_by_atom Slot (b ∷ blanks) = blanks
left_by_atom Space blanks = blanks

abbrev pub left_by_atoms : List Atom → List (List ℕ) → List (List ℕ)
left_by_atoms [] blanks = blanks
left_by_atoms (a ∷ more) blanks = left_by_atoms more (left_by_atom a blanks)

abbrev pub left_by_piece : Piece → List (List ℕ) → List (List ℕ)
left_by_piece (The_atom a) blanks = left_by_atom a blanks
left_by_piece (Chunk name atoms) blanks = left_by_atoms atoms blanks

-- the blanks for which a template has no slot
abbrev pub left_by : List Piece → List (List ℕ) → List (List ℕ)
left_by [] blanks = blanks
left_by (p ∷ more) blanks = left_by more (left_by_piece p blanks)

abbrev pub space : List ℕ
space = 32 ∷ []

-- an atom with its slot filled
abbrev pub atom_parts : Atom → List (List ℕ) → List Inner
atom_parts (The_unit []) blanks = []
atom_parts (The_unit (s ∷ word)) blanks = inner.Unit ((s ∷ word) ∷ []) ∷ []
atom_parts Slot [] = inner.Blank space ∷ []
atom_parts Slot (b ∷ blanks) = inner.Blank b ∷ []
atom_parts Space blanks = inner.Blank space ∷ []

abbrev pub atoms_parts : List Atom → List (List ℕ) → List Inner
atoms_parts [] blanks = []
atoms_parts (a ∷ more) blanks = atom_parts a blanks ++ atoms_parts more (left_by_atom a blanks)

abbrev pub outside : Inner → Item
outside (inner.Unit words) = item.Unit words
outside (inner.Blank bytes) = item.Blank bytes

abbrev pub all_outside : List Inner → List Item
all_outside [] = []
all_outside (part ∷ parts) = outside part ∷ all_outside parts

abbrev pub piece_items : Piece → List (List ℕ) → List Item
piece_items (The_atom a) blanks = all_outside (atom_parts a blanks)
piece_items (Chunk name atoms) blanks =
    item.Chunk (record { name = name; content = atoms_parts atoms blanks }) ∷ []

-- the units, blanks and chunks of a template with its slots filled
abbrev pub items_of : List Piece → List (List ℕ) → List Item
items_of [] blanks = []
items_of (p ∷ more) blanks = piece_items p blanks ++ items_of more (left_by_piece p blanks)

-- The text spells these items, and behind them stand the superblanks of the blanks left over; the
-- superblanks of the items, those inside of chunks too, and of the blanks left over are those of
-- all blanks, in order.
abbrev pub FillSpells : Type 0
FillSpells = (template : List Piece) (blanks : List (List ℕ))
    → (filled (marks template) blanks ≡ flat_map spelled (items_of template blanks)
    ++ flat_map left_over (left_by template blanks))
    × (flat_map item_supers (items_of template blanks) ++ supers_in (left_by template blanks)
    ≡ supers_in blanks)

abbrev pub IsWordedAtom : Atom → Type 0
IsWordedAtom (The_unit word) = AreProper word × AreCoded word
IsWordedAtom Slot = Unit {0}
IsWordedAtom Space = Unit {0}

-- the template has no chunk, and its words are words of the program
abbrev pub HoldUnits : List Piece → Type 0
HoldUnits [] = Unit {0}
HoldUnits (The_atom a ∷ more) = IsWordedAtom a × HoldUnits more
HoldUnits (Chunk name atoms ∷ more) = ⊥

-- a text of units has the superblanks of the blanks, in order
abbrev pub FillKeeps : Type 0
FillKeeps = (template : List Piece) (blanks : List (List ℕ)) → HoldUnits template → AreBlanks blanks
    → HasSuperblanks Lexical (filled (marks template) blanks) (supers_in blanks)
