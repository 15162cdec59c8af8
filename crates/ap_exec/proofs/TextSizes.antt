-- The bytes of pieces are those of their texts.
use Rattle.std.proofs.Common.{◌≡◌, ◌+◌, List, [], ◌∷◌, ◌++◌, refl, arith}
use Rattle.ap_symbol.specs.declared.symbol.Symbol.{Symbol}
use Rattle.ap_exec.specs.declared.template.Atom.{Atom}
use Rattle.ap_exec.specs.declared.template.Atom.TheVariants.{Unit as The_unit, Slot, Space}
use Rattle.ap_exec.specs.declared.template.Piece.{Piece}
use Rattle.ap_exec.specs.declared.template.Piece.TheVariants.{Atom as The_atom, Chunk}
use Rattle.ap_exec.specs.Filling.{Mark, text, gap, unit_marks, atom_marks, atoms_marks, piece_marks, marks}
use Rattle.ap_exec.specs.Pieces.{unit_size, atom_size, atoms_size, piece_size}
use Rattle.ap_exec.specs.SizeLaws.{texts_size, TextsAreCounted}

texts_append : (a b : List Mark) → texts_size (a ++ b) ≡ texts_size a + texts_size b
texts_append [] b = omega arith
texts_append (text bytes ∷ a) b = omega (arith, texts_append a b)
texts_append (gap ∷ a) b = texts_append a b

unit_texts : (word : List Symbol) → texts_size (unit_marks word) ≡ unit_size word
unit_texts [] = refl
unit_texts (s ∷ word) = omega arith

atom_texts : (a : Atom) → texts_size (atom_marks a) ≡ atom_size a
atom_texts (The_unit word) = unit_texts word
atom_texts Slot = refl
atom_texts Space = omega arith

atoms_texts : (atoms : List Atom) → texts_size (atoms_marks atoms) ≡ atoms_size atoms
atoms_texts [] = refl
atoms_texts (a ∷ more) =
    omega (arith, texts_append (atom_marks a) (atoms_marks more), atom_texts a, atoms_texts more)

piece_texts : (p : Piece) → texts_size (piece_marks p) ≡ piece_size p
piece_texts (The_atom a) = atom_texts a
piece_texts (Chunk name atoms) =
    omega (arith, texts_append (atoms_marks atoms) (text (125 ∷ 36 ∷ []) ∷ []), atoms_texts atoms)

pub texts_are_counted : TextsAreCounted
texts_are_counted [] = refl
texts_are_counted (p ∷ more) =
    omega (arith, texts_append (piece_marks p) (marks more), piece_texts p, texts_are_counted more)
