-- The text of a template spells its items, with their superblanks.
use Rattle.std.proofs.Common.{◌≡◌, ℕ, List, [], ◌∷◌, ◌++◌, refl, ap, sym, ◌∙◌, append_assoc, append-nil}
use Rattle.std.specs.List.{flat_map}
use Rattle.std.proofs.lemmas.Grind.{flat_map-append}
use Rattle.std.proofs.lemmas.List.Concat.{flat_map-cons}
use Rattle.ap_symbol.specs.Rendering.{rendering}
use Rattle.ap_symbol.specs.declared.symbol.Symbol.{Symbol}
use Rattle.ap_stream.specs.Spelling.{inner_bytes, spelled, unit_bytes, chunk_bytes}
use Rattle.ap_stream.specs.Supers.{blank_supers, inner_supers, item_supers}
use Rattle.ap_stream.specs.declared.item.Inner.{Inner}
use Rattle.ap_stream.specs.declared.item.Inner.TheVariants as inner
use Rattle.ap_stream.specs.declared.item.Item.TheVariants as item
use Rattle.ap_exec.specs.declared.template.Atom.{Atom}
use Rattle.ap_exec.specs.declared.template.Atom.TheVariants.{Unit as The_unit, Slot, Space}
use Rattle.ap_exec.specs.declared.template.Piece.{Piece}
use Rattle.ap_exec.specs.declared.template.Piece.TheVariants.{Atom as The_atom, Chunk}
use Rattle.ap_exec.specs.Filling.{Mark, text, atom_marks, atoms_marks, piece_marks, marks, filled, left_over}
use Rattle.ap_exec.specs.FillingLaws.{supers_in, left_by_atom, left_by_atoms, left_by_piece, left_by, space, atom_parts, atoms_parts, all_outside, piece_items, items_of, FillSpells}

one : {A B : Type 0} (f : A → List B) (x : A) → flat_map f (x ∷ []) ≡ f x
one f x = flat_map-cons f x [] ∙ append-nil (f x)

-- the bytes of a unit and of a chunk, before a text
pub unit_front : (word : List Symbol) (more : List ℕ) → 94 ∷ (rendering word ++ (36 ∷ more))
    ≡ unit_bytes (word ∷ []) ++ more
unit_front word more =
    ap (λ (xs : List ℕ). 94 ∷ xs) (sym (append_assoc (rendering word) (36 ∷ []) more)
    ∙ ap (λ (xs : List ℕ). (xs ++ 36 ∷ []) ++ more) (sym (append-nil (rendering word))))

chunk_front : (name : List Symbol) (content : List Inner) (more : List ℕ) →
    94 ∷ (rendering name ++ (123 ∷ (flat_map inner_bytes content ++ (125 ∷ 36 ∷ more))))
    ≡ chunk_bytes name content ++ more
chunk_front name content more =
    ap (λ (xs : List ℕ). 94 ∷ xs)
    (ap (λ (xs : List ℕ). rendering name ++ (123 ∷ xs))
    (sym (append_assoc (flat_map inner_bytes content) (125 ∷ 36 ∷ []) more))
    ∙ sym (append_assoc (rendering name)
    (123 ∷ (flat_map inner_bytes content ++ 125 ∷ 36 ∷ [])) more))

-- one after another
both_flat : {A : Type 0} (f : A → List ℕ) (xs ys : List A) (all middle rest : List ℕ) →
    all ≡ flat_map f xs ++ middle → middle ≡ flat_map f ys ++ rest →
    all ≡ flat_map f (xs ++ ys) ++ rest
both_flat f xs ys all middle rest e g =
    e ∙ ap (λ (zs : List ℕ). flat_map f xs ++ zs) g
    ∙ sym (append_assoc (flat_map f xs) (flat_map f ys) rest)
    ∙ ap (λ (zs : List ℕ). zs ++ rest) (sym (flat_map-append f xs ys))

both_supers : {A : Type 0} (f : A → List (List ℕ)) (xs ys : List A)
    (all middle rest : List (List ℕ)) → flat_map f xs ++ middle ≡ all →
    flat_map f ys ++ rest ≡ middle → flat_map f (xs ++ ys) ++ rest ≡ all
both_supers f xs ys all middle rest e g =
    ap (λ (zs : List (List ℕ)). zs ++ rest) (flat_map-append f xs ys)
    ∙ append_assoc (flat_map f xs) (flat_map f ys) rest
    ∙ ap (λ (zs : List (List ℕ)). flat_map f xs ++ zs) g ∙ e

-- the texts

atom_spells : (a : Atom) (more : List Mark) (blanks : List (List ℕ)) →
    filled (atom_marks a ++ more) blanks ≡ flat_map inner_bytes (atom_parts a blanks)
    ++ filled more (left_by_atom a blanks)
atom_spells (The_unit []) more blanks = refl
atom_spells (The_unit (s ∷ word)) more blanks = unit_front (s ∷ word) (filled more blanks)
    ∙ ap (λ (xs : List ℕ). xs ++ filled more blanks)
    (sym (one inner_bytes (inner.Unit ((s ∷ word) ∷ []))))
atom_spells Slot more [] =
    ap (λ (xs : List ℕ). xs ++ filled more []) (sym (one inner_bytes (inner.Blank space)))
atom_spells Slot more (b ∷ blanks) =
    ap (λ (xs : List ℕ). xs ++ filled more blanks) (sym (one inner_bytes (inner.Blank b)))
atom_spells Space more blanks =
    ap (λ (xs : List ℕ). xs ++ filled more blanks) (sym (one inner_bytes (inner.Blank space)))

atoms_spell : (atoms : List Atom) (more : List Mark) (blanks : List (List ℕ)) →
    filled (atoms_marks atoms ++ more) blanks ≡ flat_map inner_bytes (atoms_parts atoms blanks)
    ++ filled more (left_by_atoms atoms blanks)
atoms_spell [] more blanks = refl
atoms_spell (a ∷ atoms) more blanks =
    both_flat inner_bytes (atom_parts a blanks) (atoms_parts atoms (left_by_atom a blanks))
    (filled ((atom_marks a ++ atoms_marks atoms) ++ more) blanks)
    (filled (atoms_marks atoms ++ more) (left_by_atom a blanks))
    (filled more (left_by_atoms atoms (left_by_atom a blanks)))
    (ap (λ (ms : List Mark). filled ms blanks)
    (append_assoc (atom_marks a) (atoms_marks atoms) more)
    ∙ atom_spells a (atoms_marks atoms ++ more) blanks)
    (atoms_spell atoms more (left_by_atom a blanks))

outside_bytes : (parts : List Inner) → flat_map inner_bytes parts
    ≡ flat_map spelled (all_outside parts)
outside_bytes [] = refl
outside_bytes (inner.Unit words ∷ parts) = flat_map-cons inner_bytes (inner.Unit words) parts
    ∙ ap (λ (xs : List ℕ). unit_bytes words ++ xs) (outside_bytes parts)
    ∙ sym (flat_map-cons spelled (item.Unit words) (all_outside parts))
outside_bytes (inner.Blank bytes ∷ parts) = flat_map-cons inner_bytes (inner.Blank bytes) parts
    ∙ ap (λ (xs : List ℕ). bytes ++ xs) (outside_bytes parts)
    ∙ sym (flat_map-cons spelled (item.Blank bytes) (all_outside parts))

piece_spells : (p : Piece) (more : List Mark) (blanks : List (List ℕ)) →
    filled (piece_marks p ++ more) blanks ≡ flat_map spelled (piece_items p blanks)
    ++ filled more (left_by_piece p blanks)
piece_spells (The_atom a) more blanks = atom_spells a more blanks
    ∙ ap (λ (xs : List ℕ). xs ++ filled more (left_by_atom a blanks))
    (outside_bytes (atom_parts a blanks))
piece_spells (Chunk name atoms) more blanks =
    ap (λ (xs : List ℕ). 94 ∷ (rendering name ++ (123 ∷ xs)))
    (ap (λ (ms : List Mark). filled ms blanks)
    (append_assoc (atoms_marks atoms) (text (125 ∷ 36 ∷ []) ∷ []) more)
    ∙ atoms_spell atoms (text (125 ∷ 36 ∷ []) ∷ more) blanks)
    ∙ chunk_front name (atoms_parts atoms blanks) (filled more (left_by_atoms atoms blanks))
    ∙ ap (λ (xs : List ℕ). xs ++ filled more (left_by_atoms atoms blanks))
    (sym (one spelled (item.Chunk
    (record { name = name; content = atoms_parts atoms blanks }))))

template_spells : (template : List Piece) (blanks : List (List ℕ)) → filled (marks template) blanks
    ≡ flat_map spelled (items_of template blanks) ++ flat_map left_over (left_by template blanks)
template_spells [] blanks = refl
template_spells (p ∷ more) blanks =
    both_flat spelled (piece_items p blanks) (items_of more (left_by_piece p blanks))
    (filled (piece_marks p ++ marks more) blanks) (filled (marks more) (left_by_piece p blanks))
    (flat_map left_over (left_by more (left_by_piece p blanks)))
    (piece_spells p (marks more) blanks) (template_spells more (left_by_piece p blanks))

-- the superblanks

space_has_none : blank_supers 0 space ≡ []
unfolding blank_supers
space_has_none = refl

atom_has : (a : Atom) (blanks : List (List ℕ)) → flat_map inner_supers (atom_parts a blanks)
    ++ supers_in (left_by_atom a blanks) ≡ supers_in blanks
atom_has (The_unit []) blanks = refl
atom_has (The_unit (s ∷ word)) blanks =
    ap (λ (xs : List (List ℕ)). xs ++ supers_in blanks)
    (one inner_supers (inner.Unit ((s ∷ word) ∷ [])))
atom_has Slot [] = ap (λ (xs : List (List ℕ)). xs ++ []) (one inner_supers (inner.Blank space)
    ∙ space_has_none)
atom_has Slot (b ∷ blanks) =
    ap (λ (xs : List (List ℕ)). xs ++ supers_in blanks) (one inner_supers (inner.Blank b))
    ∙ sym (flat_map-cons (blank_supers 0) b blanks)
atom_has Space blanks = ap (λ (xs : List (List ℕ)). xs ++ supers_in blanks)
    (one inner_supers (inner.Blank space) ∙ space_has_none)

atoms_have : (atoms : List Atom) (blanks : List (List ℕ)) →
    flat_map inner_supers (atoms_parts atoms blanks) ++ supers_in (left_by_atoms atoms blanks)
    ≡ supers_in blanks
atoms_have [] blanks = refl
atoms_have (a ∷ atoms) blanks =
    both_supers inner_supers (atom_parts a blanks) (atoms_parts atoms (left_by_atom a blanks))
    (supers_in blanks) (supers_in (left_by_atom a blanks))
    (supers_in (left_by_atoms atoms (left_by_atom a blanks)))
    (atom_has a blanks) (atoms_have atoms (left_by_atom a blanks))

outside_supers : (parts : List Inner) → flat_map item_supers (all_outside parts)
    ≡ flat_map inner_supers parts
outside_supers [] = refl
outside_supers (inner.Unit words ∷ parts) =
    flat_map-cons item_supers (item.Unit words) (all_outside parts) ∙ outside_supers parts
    ∙ sym (flat_map-cons inner_supers (inner.Unit words) parts)
outside_supers (inner.Blank bytes ∷ parts) =
    flat_map-cons item_supers (item.Blank bytes) (all_outside parts)
    ∙ ap (λ (xs : List (List ℕ)). blank_supers 0 bytes ++ xs) (outside_supers parts)
    ∙ sym (flat_map-cons inner_supers (inner.Blank bytes) parts)

piece_has : (p : Piece) (blanks : List (List ℕ)) → flat_map item_supers (piece_items p blanks)
    ++ supers_in (left_by_piece p blanks) ≡ supers_in blanks
piece_has (The_atom a) blanks =
    ap (λ (xs : List (List ℕ)). xs ++ supers_in (left_by_atom a blanks))
    (outside_supers (atom_parts a blanks)) ∙ atom_has a blanks
piece_has (Chunk name atoms) blanks =
    ap (λ (xs : List (List ℕ)). xs ++ supers_in (left_by_atoms atoms blanks))
    (one item_supers (item.Chunk (record { name = name; content = atoms_parts atoms blanks })))
    ∙ atoms_have atoms blanks

template_has : (template : List Piece) (blanks : List (List ℕ)) →
    flat_map item_supers (items_of template blanks) ++ supers_in (left_by template blanks)
    ≡ supers_in blanks
template_has [] blanks = refl
template_has (p ∷ more) blanks =
    both_supers item_supers (piece_items p blanks) (items_of more (left_by_piece p blanks))
    (supers_in blanks) (supers_in (left_by_piece p blanks))
    (supers_in (left_by more (left_by_piece p blanks)))
    (piece_has p blanks) (template_has more (left_by_piece p blanks))

pub fill_spells : FillSpells
fill_spells template blanks = (template_spells template blanks, template_has template blanks)
