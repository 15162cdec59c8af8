-- A text of units has the superblanks of the blanks.
use Rattle.std.proofs.Common.{◌≡◌, ℕ, true, List, [], ◌∷◌, ◌++◌, length, refl, ap, sym, subst, ◌∙◌, arith}
use Rattle.std.specs.List.{flat_map}
use Rattle.std.proofs.Math.Seq.{drop-append_seam, take-append_seam}
use Rattle.std.proofs.lemmas.List.Concat.{flat_map-cons}
use Rattle.ap_stream.specs.Blanks.{is_white}
use Rattle.ap_stream.specs.Pieces.{HasSuperblanks, nothing, piece, white as white_piece, superblank as superblank_piece, IsSuperblank, IsToBracket}
use Rattle.ap_stream.specs.Spelling.{unit_bytes}
use Rattle.ap_stream.specs.Supers.{blank_supers}
use Rattle.ap_stream.specs.declared.dialect.Dialect.TheVariants.{Lexical}
use Rattle.ap_stream.proofs.EachKept.{unit_has_none}
use Rattle.ap_stream.proofs.Fronts.{white_other, to_bracket}
use Rattle.ap_stream.proofs.Joined.{joined}
use Rattle.ap_stream.proofs.Spelt.{words_are_spelt}
use Rattle.ap_stream.proofs.Superblanks.{supers_other, supers_closed}
use Rattle.ap_stream.proofs.SupersAlone.{supers_are, supers_alone}
use Rattle.ap_exec.specs.declared.template.Atom.TheVariants.{Unit as The_unit, Slot, Space}
use Rattle.ap_exec.specs.declared.template.Piece.TheVariants.{Atom as The_atom, Chunk}
use Rattle.ap_exec.specs.Filling.{marks, filled, left_over}
use Rattle.ap_exec.specs.FillingLaws.{IsBlank, ends, white, superblank, AreBlanks, supers_in, FillKeeps}
use Rattle.ap_exec.proofs.FillSpells.{unit_front}

-- the superblanks of a blank are those that a scan of it finds
abbrev HasOwn : List ℕ → Type 0
HasOwn bytes = HasSuperblanks Lexical bytes (blank_supers 0 bytes)

none_has : HasOwn []
unfolding blank_supers
none_has = nothing refl refl

white_has : (b : ℕ) (bs : List ℕ) → is_white b ≡ true → HasOwn bs → HasOwn (b ∷ bs)
white_has b bs w h = piece (b ∷ []) bs [] (blank_supers 0 bs) (white_piece b refl w refl) h refl
    (supers_other b bs (white_other b w))

super_has : (inner bs : List ℕ) → IsToBracket inner → HasOwn bs → HasOwn (91 ∷ (inner ++ bs))
super_has inner bs t h =
    let own : IsSuperblank (91 ∷ inner) = record { rest = inner; begins = refl; goes_on = t } in
    let all : blank_supers 0 (91 ∷ (inner ++ bs)) ≡ (91 ∷ inner) ∷ blank_supers 0 bs =
    supers_closed (inner ++ bs) (length inner) (to_bracket inner t bs)
    ∙ rw (take-append_seam inner bs, drop-append_seam inner bs) refl in
    piece (91 ∷ inner) bs ((91 ∷ inner) ∷ []) (blank_supers 0 bs)
    (superblank_piece own refl) h refl all

blank_has : (bytes : List ℕ) → IsBlank bytes → HasOwn bytes
blank_has bytes (ends e) = subst HasOwn (sym e) none_has
blank_has bytes (white b rest w h e) = subst HasOwn (sym e) (white_has b rest w (blank_has rest h))
blank_has bytes (superblank front rest s h e) =
    subst HasOwn (sym (e ∙ ap (λ (xs : List ℕ). xs ++ rest) s.begins))
    (super_has s.rest rest s.goes_on (blank_has rest h))

-- blanks left over
left_has : (blanks : List (List ℕ)) → AreBlanks blanks →
    HasSuperblanks Lexical (flat_map left_over blanks) (supers_in blanks)
left_has [] h = nothing refl refl
left_has (b ∷ blanks) h =
    let alone : HasSuperblanks Lexical (left_over b) (blank_supers 0 b) =
    supers_alone Lexical (blank_supers 0 b)
    (supers_are Lexical b (blank_supers 0 b) (blank_has b h.0)) in
    subst (λ (q : List ℕ). HasSuperblanks Lexical q (supers_in (b ∷ blanks)))
    (sym (flat_map-cons left_over b blanks))
    (subst (λ (q : List (List ℕ)). HasSuperblanks Lexical (left_over b ++ flat_map left_over blanks)
    q) (sym (flat_map-cons (blank_supers 0) b blanks))
    (joined Lexical (left_over b) (flat_map left_over blanks) (blank_supers 0 b) (supers_in blanks)
    alone (left_has blanks h.1)))

space_first : (text : List ℕ) (supers : List (List ℕ)) → HasSuperblanks Lexical text supers →
    HasSuperblanks Lexical (32 ∷ text) supers
space_first text supers h =
    piece (32 ∷ []) text [] supers (white_piece 32 refl refl refl) h refl refl

pub fill_keeps : FillKeeps
fill_keeps [] blanks u h = left_has blanks h
fill_keeps (The_atom (The_unit []) ∷ more) blanks u h = fill_keeps more blanks u.1 h
fill_keeps (The_atom (The_unit (s ∷ word)) ∷ more) blanks u h =
    let none : HasSuperblanks Lexical (unit_bytes ((s ∷ word) ∷ [])) [] =
    unit_has_none Lexical ((s ∷ word) ∷ [])
    (refl, omega arith, words_are_spelt (s ∷ word) u.0.0 u.0.1, tt, refl) in
    subst (λ (q : List ℕ). HasSuperblanks Lexical q (supers_in blanks))
    (sym (unit_front (s ∷ word) (filled (marks more) blanks)))
    (joined Lexical (unit_bytes ((s ∷ word) ∷ [])) (filled (marks more) blanks) []
    (supers_in blanks) none (fill_keeps more blanks u.1 h))
fill_keeps (The_atom Slot ∷ more) [] u h =
    space_first (filled (marks more) []) [] (fill_keeps more [] u.1 h)
fill_keeps (The_atom Slot ∷ more) (b ∷ blanks) u h =
    subst (λ (q : List (List ℕ)). HasSuperblanks Lexical (b ++ filled (marks more) blanks) q)
    (sym (flat_map-cons (blank_supers 0) b blanks))
    (joined Lexical b (filled (marks more) blanks) (blank_supers 0 b) (supers_in blanks)
    (blank_has b h.0) (fill_keeps more blanks u.1 h.1))
fill_keeps (The_atom Space ∷ more) blanks u h =
    space_first (filled (marks more) blanks) (supers_in blanks) (fill_keeps more blanks u.1 h)
fill_keeps (Chunk name atoms ∷ more) blanks u h = absurd u
