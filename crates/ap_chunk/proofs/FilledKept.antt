-- A template of units with its slots filled has the superblanks of blanks that were read.
use Rattle.std.proofs.Common.{◌≡◌, ℕ, false, List, [], ◌∷◌, ◌++◌, refl, ap, sym, subst, arith}
use Rattle.std.specs.List.{flat_map, AllByRecursion}
use Rattle.std.proofs.lemmas.List.{append-nil, append_assoc}
use Rattle.std.proofs.lemmas.List.Concat.{flat_map-cons}
use Rattle.ap_symbol.specs.Rendering.{rendering}
use Rattle.ap_symbol.specs.declared.symbol.Symbol.{Symbol}
use Rattle.ap_stream.specs.Laws.{AreSpelt}
use Rattle.ap_stream.specs.Pieces.{HasSuperblanks, nothing, piece, white as white_piece}
use Rattle.ap_stream.specs.Supers.{blank_supers}
use Rattle.ap_stream.specs.declared.dialect.Dialect.TheVariants.{Lexical}
use Rattle.ap_stream.proofs.EachKept.{unit_has_none}
use Rattle.ap_stream.proofs.Joined.{joined}
use Rattle.ap_stream.proofs.Spelt.{words_are_spelt}
use Rattle.ap_stream.proofs.SupersAlone.{supers_are, supers_alone}
use Rattle.ap_exec.specs.declared.template.Atom.TheVariants.{Unit as The_unit, Slot, Space}
use Rattle.ap_exec.specs.declared.template.Piece.{Piece}
use Rattle.ap_exec.specs.declared.template.Piece.TheVariants.{Atom as The_atom, Chunk}
use Rattle.ap_exec.specs.Filling.{marks, filled, left_over}
use Rattle.ap_exec.specs.FillingLaws.{supers_in, HoldUnits}
use Rattle.ap_chunk.specs.Chunks.{lone_unit}

-- the superblanks of a blank are those that a scan of it finds
abbrev pub HasOwn : List ℕ → Type 0
HasOwn bytes = HasSuperblanks Lexical bytes (blank_supers 0 bytes)

abbrev pub HaveOwn : List (List ℕ) → Type 0
HaveOwn blanks = AllByRecursion HasOwn blanks

left_has : (blanks : List (List ℕ)) → HaveOwn blanks →
    HasSuperblanks Lexical (flat_map left_over blanks) (supers_in blanks)
left_has [] h = nothing refl refl
left_has (b ∷ blanks) h =
    let alone : HasSuperblanks Lexical (left_over b) (blank_supers 0 b) =
    supers_alone Lexical (blank_supers 0 b) (supers_are Lexical b (blank_supers 0 b) h.0) in
    subst (λ (q : List ℕ). HasSuperblanks Lexical q (supers_in (b ∷ blanks)))
    (sym (flat_map-cons left_over b blanks))
    (subst (λ (q : List (List ℕ)). HasSuperblanks Lexical (left_over b ++ flat_map left_over blanks)
    q) (sym (flat_map-cons (blank_supers 0) b blanks))
    (joined Lexical (left_over b) (flat_map left_over blanks) (blank_supers 0 b)
    (supers_in blanks) alone (left_has blanks h.1)))

space_first : (text : List ℕ) (supers : List (List ℕ)) → HasSuperblanks Lexical text supers →
    HasSuperblanks Lexical (32 ∷ text) supers
space_first text supers h = piece (32 ∷ []) text [] supers (white_piece 32 refl refl refl) h refl
    refl

-- a word as a unit has none
pub lone_none : (word : List Symbol) → AreSpelt false word →
    HasSuperblanks Lexical (lone_unit word) []
lone_none [] h = nothing refl refl
lone_none (x ∷ word) h =
    subst (λ (q : List ℕ). HasSuperblanks Lexical q [])
    (ap (λ (xs : List ℕ). 94 ∷ (xs ++ 36 ∷ [])) (append-nil (rendering (x ∷ word))))
    (unit_has_none Lexical ((x ∷ word) ∷ []) (refl, omega arith, h, tt, refl))

unit_front : (x : Symbol) (word : List Symbol) (more : List ℕ) →
    94 ∷ (rendering (x ∷ word) ++ (36 ∷ more)) ≡ lone_unit (x ∷ word) ++ more
unit_front x word more = ap (λ (xs : List ℕ). 94 ∷ xs)
    (sym (append_assoc (rendering (x ∷ word)) (36 ∷ []) more))

pub filled_keeps : (template : List Piece) (blanks : List (List ℕ)) → HoldUnits template →
    HaveOwn blanks → HasSuperblanks Lexical (filled (marks template) blanks) (supers_in blanks)
filled_keeps [] blanks u h = left_has blanks h
filled_keeps (The_atom (The_unit []) ∷ more) blanks u h = filled_keeps more blanks u.1 h
filled_keeps (The_atom (The_unit (s ∷ word)) ∷ more) blanks u h =
    subst (λ (q : List ℕ). HasSuperblanks Lexical q (supers_in blanks))
    (sym (unit_front s word (filled (marks more) blanks)))
    (joined Lexical (lone_unit (s ∷ word)) (filled (marks more) blanks) [] (supers_in blanks)
    (lone_none (s ∷ word) (words_are_spelt (s ∷ word) u.0.0 u.0.1))
    (filled_keeps more blanks u.1 h))
filled_keeps (The_atom Slot ∷ more) [] u h = space_first (filled (marks more) []) []
    (filled_keeps more [] u.1 h)
filled_keeps (The_atom Slot ∷ more) (b ∷ blanks) u h =
    subst (λ (q : List (List ℕ)). HasSuperblanks Lexical (b ++ filled (marks more) blanks) q)
    (sym (flat_map-cons (blank_supers 0) b blanks))
    (joined Lexical b (filled (marks more) blanks) (blank_supers 0 b) (supers_in blanks) h.0
    (filled_keeps more blanks u.1 h.1))
filled_keeps (The_atom Space ∷ more) blanks u h = space_first (filled (marks more) blanks)
    (supers_in blanks) (filled_keeps more blanks u.1 h)
filled_keeps (Chunk name atoms ∷ more) blanks u h = absurd u
