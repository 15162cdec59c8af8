-- A template with its slots filled has the superblanks of the blanks: in a text of chunks too,
-- where blanks side by side in a
-- chunk are read as one.
use Rattle.std.proofs.Common.{◌≡◌, ℕ, Bool, true, false, List, [], ◌∷◌, ◌++◌, length, refl, ap, sym, subst, ◌∙◌, arith, cond}
use Rattle.std.specs.Prelude.{eqb}
use Rattle.std.specs.List.{flat_map, AllByRecursion}
use Rattle.std.proofs.lemmas.List.{append-nil, append_assoc}
use Rattle.std.proofs.lemmas.List.Concat.{flat_map-cons}
use Rattle.ap_symbol.specs.Rendering.{rendering}
use Rattle.ap_symbol.specs.declared.symbol.Symbol.{Symbol}
use Rattle.ap_stream.specs.Blanks.{Run, Open, Done, further, blank, is_white, begins_blank}
use Rattle.ap_stream.specs.Laws.{AreSpelt, AreWords, AreParts}
use Rattle.ap_stream.specs.Pieces.{HasSuperblanks, nothing, piece, white, chunk}
use Rattle.ap_stream.specs.Reading.{first, Needs, last, Complete}
use Rattle.ap_stream.specs.Spelling.{inner_bytes, chunk_bytes, spelled}
use Rattle.ap_stream.specs.Supers.{blank_supers, inner_supers, item_supers, items_of, supers}
use Rattle.ap_stream.specs.declared.dialect.Dialect.{Dialect}
use Rattle.ap_stream.specs.declared.dialect.Dialect.TheVariants.{Lexical, Chunked}
use Rattle.ap_stream.specs.declared.item.Inner.{Inner}
use Rattle.ap_stream.specs.declared.item.Inner.TheVariants as inner
use Rattle.ap_stream.specs.declared.item.Item.{Item}
use Rattle.ap_stream.specs.declared.item.Item.TheVariants as item
use Rattle.ap_stream.proofs.ChunkCut.{open_on}
use Rattle.ap_stream.proofs.ChunkTexts.{written_chunk}
use Rattle.ap_stream.proofs.Joined.{joined, one_piece}
use Rattle.ap_stream.proofs.Scan.{scan_finds}
use Rattle.ap_stream.proofs.Spelt.{words_are_spelt}
use Rattle.ap_stream.proofs.SupersAlone.{supers_are, supers_alone}
use Rattle.ap_exec.specs.declared.template.Atom.{Atom}
use Rattle.ap_exec.specs.declared.template.Atom.TheVariants.{Unit as The_unit, Slot, Space}
use Rattle.ap_exec.specs.declared.template.Piece.{Piece}
use Rattle.ap_exec.specs.declared.template.Piece.TheVariants.{Atom as The_atom, Chunk}
use Rattle.ap_exec.specs.Filling.{marks, filled, left_over}
use Rattle.ap_exec.specs.FillingLaws.{supers_in, left_by, left_by_atom, left_by_atoms, atoms_parts, space}
use Rattle.ap_exec.specs.FillingLaws.{items_of as template_items}
use Rattle.ap_exec.proofs.FillSpells.{fill_spells}
use Rattle.ap_chunk.specs.Laws.{HoldAtoms, HoldChunks}
use Rattle.ap_chunk.proofs.OpenBlanks.{IsOpen}

-- all of the bytes are a blank, and its superblanks are those that a scan of it finds
abbrev pub IsGood : List ℕ → Type 0
IsGood bytes = IsOpen bytes × ((dialect : Dialect) →
    HasSuperblanks dialect bytes (blank_supers 0 bytes))

abbrev pub AreGood : List (List ℕ) → Type 0
AreGood blanks = AllByRecursion IsGood blanks

open_both : (b c : List ℕ) → IsOpen b → IsOpen c → IsOpen (b ++ c)
open_both b c h k = open_on b h c ∙ ap (further (length b)) k

begins_by : (b : ℕ) (r s : Run) (w e : Bool) → is_white b ≡ w → eqb b 91 ≡ e →
    cond (is_white b) r (cond (eqb b 91) s (Done 0)) ≡ Open → begins_blank b ≡ true
begins_by b r s true e w f h = rw w refl
begins_by b r s false true w f h = rw (w, f) refl
begins_by b r s false false w f h = let wrong : Done 0 ≡ Open = (rw (w, f) at h) in absurd (cc)

begins : (b : ℕ) (bs : List ℕ) → IsOpen (b ∷ bs) → begins_blank b ≡ true
unfolding blank
begins b bs h = begins_by b _ _ (is_white b) (eqb b 91) refl refl h

first_needs : (b : ℕ) (bs : List ℕ) → IsOpen (b ∷ bs) → first Lexical (b ∷ bs) ≡ Needs
unfolding first
first_needs b bs h = rw (begins b bs h, h) refl

last_whole : (b : ℕ) (bs : List ℕ) → IsOpen (b ∷ bs) →
    last (b ∷ bs) ≡ Complete (item.Blank (b ∷ bs))
unfolding last
last_whole b bs h = rw (begins b bs h, h) refl

one_blank : (b : ℕ) (bs : List ℕ) → IsOpen (b ∷ bs) → items_of Lexical 0 (b ∷ bs)
    ≡ item.Blank (b ∷ bs) ∷ []
unfolding items_of
one_blank b bs h = rw (first_needs b bs h, last_whole b bs h) refl

scanned : (bytes : List ℕ) → IsOpen bytes → supers Lexical bytes ≡ blank_supers 0 bytes
unfolding items_of blank_supers
scanned [] h = refl
scanned (b ∷ bs) h = ap (flat_map item_supers) (one_blank b bs h)
    ∙ flat_map-cons item_supers (item.Blank (b ∷ bs)) [] ∙ append-nil (blank_supers 0 (b ∷ bs))

supers_both : (b c : List ℕ) → IsGood b → IsGood c → blank_supers 0 (b ++ c)
    ≡ blank_supers 0 b ++ blank_supers 0 c
supers_both b c h k =
    sym (scanned (b ++ c) (open_both b c h.0 k.0))
    ∙ scan_finds Lexical (b ++ c) (blank_supers 0 b ++ blank_supers 0 c)
    (joined Lexical b c (blank_supers 0 b) (blank_supers 0 c) (h.1 Lexical) (k.1 Lexical))

good_both : (b c : List ℕ) → IsGood b → IsGood c → IsGood (b ++ c)
good_both b c h k = (
  open_both b c h.0 k.0,
  λ dialect. subst (λ (q : List (List ℕ)). HasSuperblanks dialect (b ++ c) q)
      (sym (supers_both b c h k)) (joined dialect b c (blank_supers 0 b) (blank_supers 0 c)
      (h.1 dialect) (k.1 dialect)),
)

space_open : IsOpen space
unfolding blank
space_open = refl

space_has : (dialect : Dialect) → HasSuperblanks dialect space (blank_supers 0 space)
unfolding blank_supers
space_has dialect = piece space [] [] [] (white 32 refl refl refl) (nothing refl refl) refl refl

space_good : IsGood space
space_good = (space_open, space_has)

-- blanks side by side are one

put : List ℕ → List Inner → List Inner
put [] parts = parts
put (b ∷ bs) [] = inner.Blank (b ∷ bs) ∷ []
put (b ∷ bs) (inner.Unit words ∷ parts) = inner.Blank (b ∷ bs) ∷ inner.Unit words ∷ parts
put (b ∷ bs) (inner.Blank bytes ∷ parts) = inner.Blank ((b ∷ bs) ++ bytes) ∷ parts

merged : List Inner → List Inner
merged [] = []
merged (inner.Unit words ∷ parts) = inner.Unit words ∷ merged parts
merged (inner.Blank bytes ∷ parts) = put bytes (merged parts)

abbrev pub GoodParts : List Inner → Type 0
GoodParts [] = Unit {0}
GoodParts (inner.Unit words ∷ parts) = AreWords Lexical words × GoodParts parts
GoodParts (inner.Blank bytes ∷ parts) = IsGood bytes × GoodParts parts

-- what a merged content is
record IsMerged (parts all : List Inner) : Type 0 where
  parts_are : AreParts parts
  good : GoodParts parts
  bytes : flat_map inner_bytes parts ≡ flat_map inner_bytes all
  supers_are : flat_map inner_supers parts ≡ flat_map inner_supers all

put_parts : (b : List ℕ) (parts : List Inner) → IsGood b → GoodParts parts → AreParts parts →
    AreParts (put b parts)
unfolding put
put_parts [] parts h g a = a
put_parts (b ∷ bs) [] h g a = ((omega arith, h.0), tt, tt)
put_parts (b ∷ bs) (inner.Unit words ∷ parts) h g a = ((omega arith, h.0), tt, a)
put_parts (b ∷ bs) (inner.Blank bytes ∷ parts) h g a =
    ((omega arith, open_both (b ∷ bs) bytes h.0 g.0.0), a.1, a.2)

put_good : (b : List ℕ) (parts : List Inner) → IsGood b → GoodParts parts → GoodParts (put b parts)
unfolding put
put_good [] parts h g = g
put_good (b ∷ bs) [] h g = (h, tt)
put_good (b ∷ bs) (inner.Unit words ∷ parts) h g = (h, g)
put_good (b ∷ bs) (inner.Blank bytes ∷ parts) h g = (good_both (b ∷ bs) bytes h g.0, g.1)

put_bytes : (b : List ℕ) (parts : List Inner) → flat_map inner_bytes (put b parts)
    ≡ b ++ flat_map inner_bytes parts
unfolding put
put_bytes [] parts = refl
put_bytes (b ∷ bs) [] = flat_map-cons inner_bytes (inner.Blank (b ∷ bs)) []
put_bytes (b ∷ bs) (inner.Unit words ∷ parts) = flat_map-cons inner_bytes (inner.Blank (b ∷ bs))
    (inner.Unit words ∷ parts)
put_bytes (b ∷ bs) (inner.Blank bytes ∷ parts) =
    flat_map-cons inner_bytes (inner.Blank ((b ∷ bs) ++ bytes)) parts
    ∙ append_assoc (b ∷ bs) bytes (flat_map inner_bytes parts)
    ∙ ap (λ (q : List ℕ). (b ∷ bs) ++ q) (sym (flat_map-cons inner_bytes (inner.Blank bytes) parts))

no_supers : blank_supers 0 [] ≡ []
unfolding blank_supers
no_supers = refl

put_supers : (b : List ℕ) (parts : List Inner) → IsGood b → GoodParts parts →
    flat_map inner_supers (put b parts) ≡ blank_supers 0 b ++ flat_map inner_supers parts
unfolding put
put_supers [] parts h g = ap (λ (q : List (List ℕ)). q ++ flat_map inner_supers parts)
    (sym no_supers)
put_supers (b ∷ bs) [] h g = flat_map-cons inner_supers (inner.Blank (b ∷ bs)) []
put_supers (b ∷ bs) (inner.Unit words ∷ parts) h g =
    flat_map-cons inner_supers (inner.Blank (b ∷ bs)) (inner.Unit words ∷ parts)
put_supers (b ∷ bs) (inner.Blank bytes ∷ parts) h g =
    flat_map-cons inner_supers (inner.Blank ((b ∷ bs) ++ bytes)) parts
    ∙ ap (λ (q : List (List ℕ)). q ++ flat_map inner_supers parts)
    (supers_both (b ∷ bs) bytes h g.0)
    ∙ append_assoc (blank_supers 0 (b ∷ bs)) (blank_supers 0 bytes) (flat_map inner_supers parts)
    ∙ ap (λ (q : List (List ℕ)). blank_supers 0 (b ∷ bs) ++ q)
    (sym (flat_map-cons inner_supers (inner.Blank bytes) parts))

merge : (all : List Inner) → GoodParts all → IsMerged (merged all) all
unfolding merged
merge [] g = record { parts_are = tt; good = tt; bytes = refl; supers_are = refl }
merge (inner.Unit words ∷ parts) g =
    let m = merge parts g.1 in
    record {
      parts_are = (g.0, m.parts_are);
      good = (g.0, m.good);
      bytes = flat_map-cons inner_bytes (inner.Unit words) (merged parts)
          ∙ ap (λ (q : List ℕ). inner_bytes (inner.Unit words) ++ q) m.bytes
          ∙ sym (flat_map-cons inner_bytes (inner.Unit words) parts);
      supers_are = flat_map-cons inner_supers (inner.Unit words) (merged parts) ∙ m.supers_are
          ∙ sym (flat_map-cons inner_supers (inner.Unit words) parts);
    }
merge (inner.Blank bytes ∷ parts) g =
    let m = merge parts g.1 in
    record {
      parts_are = put_parts bytes (merged parts) g.0 m.good m.parts_are;
      good = put_good bytes (merged parts) g.0 m.good;
      bytes = put_bytes bytes (merged parts) ∙ ap (λ (q : List ℕ). bytes ++ q) m.bytes
          ∙ sym (flat_map-cons inner_bytes (inner.Blank bytes) parts);
      supers_are = put_supers bytes (merged parts) g.0 m.good
          ∙ ap (λ (q : List (List ℕ)). blank_supers 0 bytes ++ q) m.supers_are
          ∙ sym (flat_map-cons inner_supers (inner.Blank bytes) parts);
    }

-- a chunk that is written has the superblanks of its content
pub chunk_has : (name : List Symbol) (content : List Inner) → AreSpelt false name →
    GoodParts content → HasSuperblanks Chunked (chunk_bytes name content)
    (flat_map inner_supers content)
chunk_has name content s g =
    let all : List Inner = merged content in
    let m = merge content g in
    let text : List ℕ = chunk_bytes name all in
    let same : text ≡ chunk_bytes name content =
    ap (λ (q : List ℕ). 94 ∷ (rendering name ++ (123 ∷ (q ++ 125 ∷ 36 ∷ [])))) m.bytes in
    let has : HasSuperblanks Chunked text (flat_map inner_supers all) =
    one_piece Chunked text (flat_map inner_supers all)
    (chunk (record {
      chunks = refl;
      chunk = record { name = name; content = all };
      text = written_chunk name all s m.parts_are;
    }) refl) in
    subst (λ (q : List ℕ). HasSuperblanks Chunked q (flat_map inner_supers content)) same
    (subst (λ (q : List (List ℕ)). HasSuperblanks Chunked text q) m.supers_are has)

-- templates

left_good_atom : (a : Atom) (blanks : List (List ℕ)) → AreGood blanks →
    AreGood (left_by_atom a blanks)
left_good_atom (The_unit word) blanks h = h
left_good_atom Slot [] h = tt
left_good_atom Slot (b ∷ blanks) h = h.1
left_good_atom Space blanks h = h

left_good_atoms : (atoms : List Atom) (blanks : List (List ℕ)) → AreGood blanks →
    AreGood (left_by_atoms atoms blanks)
left_good_atoms [] blanks h = h
left_good_atoms (a ∷ more) blanks h = left_good_atoms more (left_by_atom a blanks)
    (left_good_atom a blanks h)

atoms_good : (atoms : List Atom) (blanks : List (List ℕ)) → HoldAtoms atoms → AreGood blanks →
    GoodParts (atoms_parts atoms blanks)
atoms_good [] blanks w h = tt
atoms_good (The_unit [] ∷ more) blanks w h = atoms_good more blanks w.1 h
atoms_good (The_unit (s ∷ word) ∷ more) blanks w h = (
  (refl, omega arith, words_are_spelt (s ∷ word) w.0.0 w.0.1, tt, refl),
  atoms_good more blanks w.1 h,
)
atoms_good (Slot ∷ more) [] w h = (space_good, atoms_good more [] w.1 tt)
atoms_good (Slot ∷ more) (b ∷ blanks) w h = (h.0, atoms_good more blanks w.1 h.1)
atoms_good (Space ∷ more) blanks w h = (space_good, atoms_good more blanks w.1 h)

left_have : (dialect : Dialect) (blanks : List (List ℕ)) → AreGood blanks →
    HasSuperblanks dialect (flat_map left_over blanks) (supers_in blanks)
left_have dialect [] h = nothing refl refl
left_have dialect (b ∷ blanks) h =
    let alone : HasSuperblanks dialect (left_over b) (blank_supers 0 b) =
    supers_alone dialect (blank_supers 0 b) (supers_are dialect b (blank_supers 0 b)
    (h.0.1 dialect)) in
    subst (λ (q : List ℕ). HasSuperblanks dialect q (supers_in (b ∷ blanks)))
    (sym (flat_map-cons left_over b blanks))
    (subst (λ (q : List (List ℕ)). HasSuperblanks dialect (left_over b ++ flat_map left_over blanks)
    q) (sym (flat_map-cons (blank_supers 0) b blanks))
    (joined dialect (left_over b) (flat_map left_over blanks) (blank_supers 0 b)
    (supers_in blanks) alone (left_have dialect blanks h.1)))

-- the text and the superblanks of one more item
one_more : (thing : Item) (more : List Item) →
    HasSuperblanks Chunked (spelled thing) (item_supers thing) →
    HasSuperblanks Chunked (flat_map spelled more) (flat_map item_supers more)
    → HasSuperblanks Chunked (flat_map spelled (thing ∷ more)) (flat_map item_supers (thing ∷ more))
one_more thing more h k =
    subst (λ (q : List ℕ). HasSuperblanks Chunked q (flat_map item_supers (thing ∷ more)))
    (sym (flat_map-cons spelled thing more))
    (subst (λ (q : List (List ℕ)). HasSuperblanks Chunked (spelled thing ++ flat_map spelled more)
    q) (sym (flat_map-cons item_supers thing more))
    (joined Chunked (spelled thing) (flat_map spelled more) (item_supers thing)
    (flat_map item_supers more) h k))

-- the items of a template, and the blanks left over
record Fills (template : List Piece) (blanks : List (List ℕ)) : Type 0 where
  items : HasSuperblanks Chunked (flat_map spelled (template_items template blanks))
      (flat_map item_supers (template_items template blanks))
  rest : AreGood (left_by template blanks)

fills : (template : List Piece) (blanks : List (List ℕ)) → HoldChunks template → AreGood blanks →
    Fills template blanks
fills [] blanks w h = record { items = nothing refl refl; rest = h }
fills (The_atom (The_unit word) ∷ more) blanks w h = absurd w
fills (The_atom Slot ∷ more) [] w h = let f = fills more [] w tt in
    record {
      items = one_more (item.Blank space) (template_items more [])
          (space_has Chunked) f.items;
      rest = f.rest;
    }
fills (The_atom Slot ∷ more) (b ∷ blanks) w h = let f = fills more blanks w h.1 in
    record {
      items = one_more (item.Blank b) (template_items more blanks) (h.0.1 Chunked) f.items;
      rest = f.rest;
    }
fills (The_atom Space ∷ more) blanks w h = let f = fills more blanks w h in
    record {
      items = one_more (item.Blank space) (template_items more blanks)
          (space_has Chunked) f.items;
      rest = f.rest;
    }
fills (Chunk name atoms ∷ more) blanks w h =
    let f = fills more (left_by_atoms atoms blanks) w.2 (left_good_atoms atoms blanks h) in
    let thing : Item = item.Chunk (record { name = name; content = atoms_parts atoms blanks }) in
    record {
      items = one_more thing (template_items more (left_by_atoms atoms blanks))
          (chunk_has name (atoms_parts atoms blanks) (words_are_spelt name w.0.0 w.0.1)
          (atoms_good atoms blanks w.1 h)) f.items;
      rest = f.rest;
    }

pub chunks_filled : (template : List Piece) (blanks : List (List ℕ)) → HoldChunks template →
    AreGood blanks → HasSuperblanks Chunked (filled (marks template) blanks) (supers_in blanks)
chunks_filled template blanks w h =
    let f = fills template blanks w h in
    let spells = fill_spells template blanks in
    subst (λ (q : List ℕ). HasSuperblanks Chunked q (supers_in blanks)) (sym spells.0)
    (subst (λ (q : List (List ℕ)). HasSuperblanks Chunked
    (flat_map spelled (template_items template blanks) ++ flat_map left_over
    (left_by template blanks)) q) spells.1
    (joined Chunked (flat_map spelled (template_items template blanks))
    (flat_map left_over (left_by template blanks))
    (flat_map item_supers (template_items template blanks))
    (supers_in (left_by template blanks))
    f.items (left_have Chunked (left_by template blanks) f.rest)))
