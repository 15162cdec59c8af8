-- Rules in which no clip leaves out a queue don't see borders.
use Rattle.std.proofs.Common.{◌≡◌, ℕ, zero, suc, ◌-◌, ◌==◌, nat_le, Bool, true, false, not, if◌then◌else◌, List, [], ◌∷◌, ◌++◌, length, map, refl, ap, sym, ◌∙◌, Option, Some, None, Ok, Err}
use Rattle.std.proofs.lemmas.List.{append-nil, length-map}
use Rattle.std.proofs.lemmas.Option.{slice_get-map}
use Rattle.std.specs.Prelude.{slice_get, slice_set, option_map}
use Rattle.ap_symbol.specs.Recasing.{case_of_lem, recase_lem}
use Rattle.ap_symbol.specs.declared.symbol.Symbol.{Symbol}
use Rattle.ap_rules.specs.Plain.{PlainValue, PlainValues, clip, lit, lit_tag, var, get_case_from, case_of, concat, blank_value, no_values, then_value, values_of, PlainUnit, PlainCondition, PlainConditions, all_of, one_of, negated, equal, begins_with, ends_with, contains_substring, is_in, begins_with_list, ends_with_list, no_conditions, then_condition, PlainComparison, PlainMembership, PlainChunkPiece, chunk_unit, chunk_units, chunk_blank, PlainPiece, blank, unit, units, chunk, value_chunk, PlainStatement, PlainStatements, PlainWhens, choose, assign, append, out, modify_case, call_macro, no_statements, then_statement, no_whens, then_when, PlainRule}
use Rattle.ap_rules.specs.Soundness.{Opt, Each}
use Rattle.ap_rules.specs.declared.statement.Place.{Place}
use Rattle.ap_rules.specs.declared.statement.Place.TheVariants as place
use Rattle.ap_rules.specs.declared.value.Clip.{Clip}
use Rattle.ap_rules.specs.declared.value.ClipPart.{ClipPart}
use Rattle.ap_rules.specs.declared.value.ClipPart.TheVariants.{Lem}
use Rattle.ap_rules.specs.declared.value.Side.{Side}
use Rattle.ap_rules.specs.declared.value.Side.TheVariants.{Source, Target}
use Rattle.ap_exec.specs.declared.comparing.Way.{Way}
use Rattle.ap_exec.specs.declared.comparing.Way.TheVariants.{Equals, Begins, Ends, Contains}
use Rattle.ap_exec.specs.declared.matched.MatchedUnit.{MatchedUnit}
use Rattle.ap_stream.specs.declared.TheConstants.{SPAN_MAX}
use Rattle.ap_exec.specs.declared.template.Atom.{Atom}
use Rattle.ap_exec.specs.declared.template.Atom.TheVariants.{Unit as The_unit}
use Rattle.ap_exec.specs.declared.template.Piece.{Piece}
use Rattle.ap_exec.specs.declared.template.Piece.TheVariants.{Atom as The_atom, Chunk}
use Rattle.ap_exec.specs.Acting.{outcome, body_of, definitions_of, action_in, action_of, shown, units_in, positions_in, started}
use Rattle.ap_exec.specs.Borderless.{ClipKeeps, ValueKeeps, ValuesKeep, UnitKeeps, ComparisonKeeps, ConditionKeeps, ConditionsKeep, ChunkPieceKeeps, PieceKeeps, PlaceKeeps, StatementKeeps, StatementsKeep, WhensKeep, MacroKeeps, RuleKeeps, all_head, without_queues, BordersDoNotMatter}
use Rattle.ap_exec.specs.Comparing.{compared, compared_some}
use Rattle.ap_exec.specs.Conditions.{words_of, compares, compares_some, and_then, or_else, holds, all_hold, one_holds}
use Rattle.ap_exec.specs.Parts.{Span, span_of, cut, side_in, word_on, word_of, word_at, part_at, linked, clip_of, case_at}
use Rattle.ap_exec.specs.Pieces.{unit_of, units_of, compound, chunk_piece_of, chunk_pieces_of, tags_of, name_of, gives_content, content_in, content_of, contents_of, piece_of, pieces_size, added}
use Rattle.ap_exec.specs.Results.{Ran, ◌>>=◌, seen, OutputTooLong}
use Rattle.ap_exec.specs.Running.{Definitions, RunState, sight_of, with_var, unit_set, units_set, with_place, held_at, recased_at, placed, outs, places_of, either_of, Calls, run, run_all, run_choice, body_in, body_at, macros_below}
use Rattle.ap_exec.specs.Units.{Shown, Sight, number_at, numbered, unit_at, var_at}
use Rattle.ap_exec.specs.Values.{bounded, case_word, value_of, joined_of, appended}
use Rattle.ap_exec.specs.Writing.{is_kept, replaced, written}
use Rattle.ap_exec.proofs.Worded.{each_map, each_get}

-- a unit, what is read and what is changed, with each border at the front
abbrev bare : Shown → Shown
bare u = record { source = u.source; target = u.target; border = 0; content = u.content }

abbrev bare_sight : Sight → Sight
bare_sight s = record {
  form = s.form;
  attributes = s.attributes;
  lists = s.lists;
  positions = s.positions;
  units = map bare s.units;
  vars = s.vars;
}

abbrev bare_state : RunState → RunState
bare_state s =
    record { units = map bare s.units; vars = s.vars; pieces = s.pieces }

-- lists

set_map : {A B : Type 0} (f : A → B) (xs : List A) (n : ℕ) (x : A) →
    map f (slice_set xs n x) ≡ slice_set (map f xs) n (f x)
set_map f [] n y = refl
set_map f (x ∷ xs) zero y = refl
set_map {A} {B} f (x ∷ xs) (suc n) y = ap (λ (ys : List B). f x ∷ ys) (set_map f xs n y)

bare_twice : (us : List Shown) → map bare (map bare us) ≡ map bare us
bare_twice [] = refl
bare_twice (u ∷ us) = ap (λ (xs : List Shown). bare u ∷ xs) (bare_twice us)

-- runs one after another

then_same : {A B : Type 0} (r q : Ran A) (f g : A → Ran B) → r ≡ q → ((x : A) → f x ≡ g x) →
    (r >>= f) ≡ (q >>= g)
then_same {A} {B} r q f g e h = ap (λ (x : Ran A). x >>= f) e ∙ by q
  where
    by : (x : Ran A) → (x >>= f) ≡ (x >>= g)
    by (Ok x) = h x
    by (Err x) = refl

-- the parts of units

word_bare : (side : Side) (o : Option Shown) →
    word_of side true (option_map bare o) ≡ word_of side true o
word_bare Source None = refl
word_bare Target None = refl
word_bare Source (Some u) = refl
word_bare Target (Some u) = refl

numbered_bare : (us : List Shown) (n : Option ℕ) → numbered (map bare us) n
    ≡ option_map bare (numbered us n)
numbered_bare us None = refl
numbered_bare us (Some n) = slice_get-map bare us n

module _ (sight : Sight) where
  word_at_bare : (pos : ℕ) (side : Side) →
      word_at (bare_sight sight) pos side true ≡ word_at sight pos side true
  word_at_bare pos side =
      ap (word_of (side_in sight.form side) true)
      (numbered_bare sight.units (number_at sight.positions pos))
      ∙ word_bare (side_in sight.form side) (unit_at sight.positions sight.units pos)

  part_bare : (pos : ℕ) (part : ClipPart) (side : Side) →
      part_at (bare_sight sight) pos part side true ≡ part_at sight pos part side true
  part_bare pos part side =
      ap (λ (w : List Symbol). cut (span_of sight.attributes part w) w) (word_at_bare pos side)

  kept_bare : (c : Clip) → ClipKeeps c → part_at (bare_sight sight) c.pos c.part c.side c.queue
      ≡ part_at sight c.pos c.part c.side c.queue
  kept_bare c h =
      ap (λ (b : Bool). part_at (bare_sight sight) c.pos c.part c.side b) h
      ∙ part_bare c.pos c.part c.side
      ∙ ap (λ (b : Bool). part_at sight c.pos c.part c.side b) (sym h)

  clip_bare : (c : Clip) → ClipKeeps c → clip_of (bare_sight sight) c ≡ clip_of sight c
  clip_bare c h = ap (linked c.link_to) (kept_bare c h)

  -- values

  mutual
    value_bare : (v : PlainValue) → ValueKeeps v →
        value_of (bare_sight sight) v ≡ value_of sight v
    value_bare (clip c) h = ap bounded (clip_bare c h)
    value_bare (lit word) h = refl
    value_bare (lit_tag word) h = refl
    value_bare (var n) h = refl
    value_bare (get_case_from pos v) h =
        then_same (value_of (bare_sight sight) v) (value_of sight v)
        (λ word. bounded (recase_lem (case_at (bare_sight sight) pos) word))
        (λ word. bounded (recase_lem (case_at sight pos) word)) (value_bare v h)
        (λ word. ap (λ (part : List Symbol). bounded (recase_lem (case_of_lem part) word))
        (part_bare pos Lem Source))
    value_bare (case_of c) h =
        ap (λ (part : List Symbol). bounded (case_word (case_of_lem part)))
        (part_bare c.pos c.part c.side)
    value_bare (concat vs) h =
        ap (λ (x : Ran (List Symbol)). x >>= bounded) (values_bare vs h)
    value_bare (blank_value pos) h = refl

    values_bare : (vs : PlainValues) → ValuesKeep vs →
        joined_of (bare_sight sight) vs ≡ joined_of sight vs
    values_bare no_values h = refl
    values_bare (then_value v vs) h =
        then_same (value_of (bare_sight sight) v) (value_of sight v)
        (λ w. joined_of (bare_sight sight) vs >>= λ ws. Ok (w ++ ws))
        (λ w. joined_of sight vs >>= λ ws. Ok (w ++ ws)) (value_bare v h.0)
        (λ w. ap (λ (x : Ran (List Symbol)). x >>= λ ws. Ok (w ++ ws)) (values_bare vs h.1))

  row_keeps : (vs : List PlainValue) → UnitKeeps vs → ValuesKeep (values_of vs)
  row_keeps [] h = tt
  row_keeps (v ∷ vs) h = (h.0, row_keeps vs h.1)

  appended_bare : (n : ℕ) (vs : List PlainValue) → UnitKeeps vs →
      appended (bare_sight sight) n (values_of vs) ≡ appended sight n (values_of vs)
  appended_bare n vs h =
      ap (λ (r : Ran (List Symbol)). r >>= λ x. bounded (var_at (slice_get sight.vars n) ++ x))
      (values_bare (values_of vs) (row_keeps vs h))

  -- conditions

  compares_bare : (way : Way) (c : PlainComparison) → ComparisonKeeps c →
      compares way (bare_sight sight) c ≡ compares way sight c
  compares_bare way c h =
      then_same (value_of (bare_sight sight) c.first) (value_of sight c.first)
      (λ a. value_of (bare_sight sight) c.second >>= λ b. Ok (compared way c.caseless a b))
      (λ a. value_of sight c.second >>= λ b. Ok (compared way c.caseless a b))
      (value_bare c.first h.0)
      (λ a. ap (λ (r : Ran (List Symbol)). r >>= λ b. Ok (compared way c.caseless a b))
      (value_bare c.second h.1))

  some_bare : (way : Way) (m : PlainMembership) → ValueKeeps m.value →
      compares_some way (bare_sight sight) m ≡ compares_some way sight m
  some_bare way m h =
      ap (λ (r : Ran (List Symbol)). r >>= λ a. Ok
      (compared_some way m.caseless a (words_of sight.lists m.list))) (value_bare m.value h)

  mutual
    holds_bare : (c : PlainCondition) → ConditionKeeps c →
        holds (bare_sight sight) c ≡ holds sight c
    holds_bare (all_of cs) h = all_bare cs h
    holds_bare (one_of cs) h = one_bare cs h
    holds_bare (negated c) h = ap (λ (r : Ran Bool). r >>= λ b. Ok (not b)) (holds_bare c h)
    holds_bare (equal c) h = compares_bare Equals c h
    holds_bare (begins_with c) h = compares_bare Begins c h
    holds_bare (ends_with c) h = compares_bare Ends c h
    holds_bare (contains_substring c) h = compares_bare Contains c h
    holds_bare (is_in m) h = some_bare Equals m h
    holds_bare (begins_with_list m) h = some_bare Begins m h
    holds_bare (ends_with_list m) h = some_bare Ends m h

    all_bare : (cs : PlainConditions) → ConditionsKeep cs →
        all_hold (bare_sight sight) cs ≡ all_hold sight cs
    all_bare no_conditions h = refl
    all_bare (then_condition c cs) h =
        then_same (holds (bare_sight sight) c) (holds sight c)
        (λ b. and_then b (all_hold (bare_sight sight) cs)) (λ b. and_then b (all_hold sight cs))
        (holds_bare c h.0) (λ b. ap (and_then b) (all_bare cs h.1))

    one_bare : (cs : PlainConditions) → ConditionsKeep cs →
        one_holds (bare_sight sight) cs ≡ one_holds sight cs
    one_bare no_conditions h = refl
    one_bare (then_condition c cs) h =
        then_same (holds (bare_sight sight) c) (holds sight c)
        (λ b. or_else b (one_holds (bare_sight sight) cs)) (λ b. or_else b (one_holds sight cs))
        (holds_bare c h.0) (λ b. ap (or_else b) (one_bare cs h.1))

  -- the pieces of an output

  made_bare : (vs : PlainUnit) → UnitKeeps vs → unit_of (bare_sight sight) vs ≡ unit_of sight vs
  made_bare vs h = values_bare (values_of vs) (row_keeps vs h)

  all_made_bare : (us : List PlainUnit) → Each UnitKeeps us →
      units_of (bare_sight sight) us ≡ units_of sight us
  all_made_bare [] h = refl
  all_made_bare (u ∷ us) h =
      then_same (unit_of (bare_sight sight) u) (unit_of sight u)
      (λ w. units_of (bare_sight sight) us >>= λ ws. Ok (w ∷ ws))
      (λ w. units_of sight us >>= λ ws. Ok (w ∷ ws)) (made_bare u h.0)
      (λ w. ap (λ (r : Ran (List (List Symbol))). r >>= λ ws. Ok (w ∷ ws))
      (all_made_bare us h.1))

  inner_bare : (p : PlainChunkPiece) → ChunkPieceKeeps p →
      chunk_piece_of (bare_sight sight) p ≡ chunk_piece_of sight p
  inner_bare (chunk_unit vs) h =
      ap (λ (r : Ran (List Symbol)). r >>= λ word. Ok (The_unit word)) (made_bare vs h)
  inner_bare (chunk_units us) h =
      ap (λ (r : Ran (List (List Symbol))). r >>= λ words. Ok (The_unit (compound words)))
      (all_made_bare us h)
  inner_bare (chunk_blank pos) h = refl

  all_inner_bare : (ps : List PlainChunkPiece) → Each ChunkPieceKeeps ps →
      chunk_pieces_of (bare_sight sight) ps ≡ chunk_pieces_of sight ps
  all_inner_bare [] h = refl
  all_inner_bare (p ∷ ps) h =
      then_same (chunk_piece_of (bare_sight sight) p) (chunk_piece_of sight p)
      (λ x. chunk_pieces_of (bare_sight sight) ps >>= λ xs. Ok (x ∷ xs))
      (λ x. chunk_pieces_of sight ps >>= λ xs. Ok (x ∷ xs)) (inner_bare p h.0)
      (λ x. ap (λ (r : Ran (List Atom)). r >>= λ xs. Ok (x ∷ xs)) (all_inner_bare ps h.1))

  tags_bare : (ts : List PlainUnit) → Each UnitKeeps ts →
      tags_of (bare_sight sight) ts ≡ tags_of sight ts
  tags_bare [] h = refl
  tags_bare (t ∷ ts) h =
      then_same (unit_of (bare_sight sight) t) (unit_of sight t)
      (λ x. tags_of (bare_sight sight) ts >>= λ xs. Ok (x ++ xs))
      (λ x. tags_of sight ts >>= λ xs. Ok (x ++ xs)) (made_bare t h.0)
      (λ x. ap (λ (r : Ran (List Symbol)). r >>= λ xs. Ok (x ++ xs)) (tags_bare ts h.1))

  content_in_bare : (o : Option Shown) → content_in (option_map bare o) ≡ content_in o
  content_in_bare None = refl
  content_in_bare (Some u) = refl

  content_at_bare : (pos : ℕ) → content_in (unit_at sight.positions (map bare sight.units) pos)
      ≡ content_in (unit_at sight.positions sight.units pos)
  content_at_bare pos =
      ap content_in (numbered_bare sight.units (number_at sight.positions pos))
      ∙ content_in_bare (unit_at sight.positions sight.units pos)

  content_bare : (v : PlainValue) → content_of (bare_sight sight) v ≡ content_of sight v
  content_bare (clip c) =
      ap (λ (atoms : List Atom). if gives_content c.part c.link_to then atoms else [])
      (content_at_bare c.pos)
  content_bare (lit word) = refl
  content_bare (lit_tag word) = refl
  content_bare (var n) = refl
  content_bare (get_case_from pos v) = refl
  content_bare (case_of c) = refl
  content_bare (concat vs) = refl
  content_bare (blank_value pos) = refl

  contents_bare : (vs : List PlainValue) →
      contents_of (bare_sight sight) vs ≡ contents_of sight vs
  contents_bare [] = refl
  contents_bare (v ∷ vs) =
      ap (λ (atoms : List Atom). atoms ++ contents_of (bare_sight sight) vs) (content_bare v)
      ∙ ap (λ (atoms : List Atom). content_of sight v ++ atoms) (contents_bare vs)

  piece_bare : (p : PlainPiece) → PieceKeeps p → piece_of (bare_sight sight) p ≡ piece_of sight p
  piece_bare (blank pos) h = refl
  piece_bare (unit vs) h =
      ap (λ (r : Ran (List Symbol)). r >>= λ word. Ok (The_atom (The_unit word)))
      (made_bare vs h)
  piece_bare (units us) h =
      ap (λ (r : Ran (List (List Symbol))). r >>= λ words. Ok
      (The_atom (The_unit (compound words)))) (all_made_bare us h)
  piece_bare (chunk c) h =
      then_same (tags_of (bare_sight sight) c.tags) (tags_of sight c.tags)
      (λ tags. chunk_pieces_of (bare_sight sight) c.pieces >>= λ atoms. Ok
      (Chunk (name_of sight.vars c ++ tags) atoms))
      (λ tags. chunk_pieces_of sight c.pieces >>= λ atoms. Ok
      (Chunk (name_of sight.vars c ++ tags) atoms)) (tags_bare c.tags h.tags)
      (λ tags. ap (λ (r : Ran (List Atom)). r >>= λ atoms. Ok
      (Chunk (name_of sight.vars c ++ tags) atoms)) (all_inner_bare c.pieces h.pieces))
  piece_bare (value_chunk vs) h =
      then_same (unit_of (bare_sight sight) vs) (unit_of sight vs)
      (λ name. Ok (Chunk name (contents_of (bare_sight sight) vs)))
      (λ name. Ok (Chunk name (contents_of sight vs))) (made_bare vs h)
      (λ name. ap (λ (atoms : List Atom). Ok (Chunk name atoms)) (contents_bare vs))

  held_bare : (p : Place) → PlaceKeeps p → held_at (bare_sight sight) p ≡ held_at sight p
  held_bare (place.Clip c) h = kept_bare c h
  held_bare (place.Var v) h = refl

-- what is written to units

replaced_bare : (side : Side) (span : Span) (value : List Symbol) (u : Shown) →
    bare (replaced side span value (bare u)) ≡ bare (replaced side span value u)
replaced_bare Source span value u = refl
replaced_bare Target span value u = refl

either_bare : (b : Bool) (side : Side) (span : Span) (value : List Symbol) (u : Shown) →
    bare (if b then bare u else replaced side span value (bare u))
    ≡ bare (if b then u else replaced side span value u)
either_bare true side span value u = refl
either_bare false side span value u = replaced_bare side span value u

on_bare : (side : Side) (queue : Bool) (u : Shown) → queue ≡ true →
    word_on side queue (bare u) ≡ word_on side queue u
on_bare Source queue u h = refl
on_bare Target queue u h =
    ap (λ (b : Bool). word_on Target b (bare u)) h ∙ ap (λ (b : Bool). word_on Target b u) (sym h)

module _ (w : Definitions) (c : Clip) (h : ClipKeeps c) (value : List Symbol) where
  side : Side
  side = side_in w.form c.side

  written_bare : (u : Shown) → bare (written w.form w.attributes c value (bare u))
      ≡ bare (written w.form w.attributes c value u)
  unfolding side
  written_bare u =
      ap (λ (word : List Symbol). bare
      (if is_kept c.part (span_of w.attributes c.part word).count then bare u
      else replaced side (span_of w.attributes c.part word) value (bare u)))
      (on_bare side c.queue u h)
      ∙ either_bare (is_kept c.part
      (span_of w.attributes c.part (word_on side c.queue u)).count) side
      (span_of w.attributes c.part (word_on side c.queue u)) value u

  unit_set_bare : (us : List Shown) (n : Option ℕ) (o : Option Shown) →
      map bare (unit_set w c value (map bare us) n (option_map bare o))
      ≡ map bare (unit_set w c value us n o)
  unit_set_bare us None o = bare_twice us
  unit_set_bare us (Some n) None = bare_twice us
  unit_set_bare us (Some n) (Some u) =
      set_map bare (map bare us) n (written w.form w.attributes c value (bare u))
      ∙ ap (λ (xs : List Shown). slice_set xs n
      (bare (written w.form w.attributes c value (bare u)))) (bare_twice us)
      ∙ ap (slice_set (map bare us) n) (written_bare u)
      ∙ sym (set_map bare us n (written w.form w.attributes c value u))

  units_set_bare : (us : List Shown) (n : Option ℕ) → map bare (units_set w c value (map bare us) n)
      ≡ map bare (units_set w c value us n)
  units_set_bare us n =
      ap (λ (o : Option Shown). map bare (unit_set w c value (map bare us) n o))
      (numbered_bare us n) ∙ unit_set_bare us n (numbered us n)

-- what is changed

abbrev with_units : RunState → List Shown → RunState
with_units s us = record { units = us; vars = s.vars; pieces = s.pieces }

place_bare : (w : Definitions) (positions : List (Option ℕ)) (p : Place) → PlaceKeeps p →
    (value : List Symbol) (s : RunState) → bare_state (with_place w positions p value (bare_state
    s))
    ≡ bare_state (with_place w positions p value s)
place_bare w positions (place.Clip c) h value s =
    ap (with_units s) (units_set_bare w c h value s.units (number_at positions c.pos))
place_bare w positions (place.Var v) h value s =
    ap (with_units (with_var v.n value s)) (bare_twice s.units)

-- two runs give the same, or are refused for the same, borders aside
abbrev Alike : Ran RunState → Ran RunState → Type 0
Alike r q = seen bare_state r ≡ seen bare_state q

alike_next : (r q : Ran RunState) (f : RunState → Ran RunState) → Alike r q →
    ((s : RunState) → Alike (f (bare_state s)) (f s)) → Alike (r >>= f) (q >>= f)
alike_next (Ok s) (Ok t) f e h =
    let same : bare_state s ≡ bare_state t = cc in
    sym (h s) ∙ ap (λ (x : RunState). seen bare_state (f x)) same ∙ h t
alike_next (Ok s) (Err x) f e h = absurd (cc)
alike_next (Err x) (Ok t) f e h = absurd (cc)
alike_next (Err x) (Err y) f e h = e

alike_then : {A : Type 0} (r q : Ran A) (f g : A → Ran RunState) → r ≡ q →
    ((x : A) → Alike (f x) (g x)) → Alike (r >>= f) (q >>= g)
alike_then {A} r q f g e h = ap (λ (x : Ran A). seen bare_state (x >>= f)) e ∙ by q
  where
    by : (x : Ran A) → Alike (x >>= f) (x >>= g)
    by (Ok x) = h x
    by (Err x) = refl

placed_by : (b : Bool) (p : Piece) (s : RunState) → Alike
    ((if b then Ok (s.pieces ++ p ∷ []) else Err OutputTooLong)
    >>= λ pieces. Ok (record (bare_state s) { pieces = pieces }))
    ((if b then Ok (s.pieces ++ p ∷ []) else Err OutputTooLong)
    >>= λ pieces. Ok (record s { pieces = pieces }))
placed_by true p s =
    ap (λ (us : List Shown). Ok (with_units (record s { pieces = s.pieces ++ p ∷ [] }) us))
    (bare_twice s.units)
placed_by false p s = refl

placed_bare : (p : Piece) (s : RunState) → Alike (placed p (bare_state s)) (placed p s)
unfolding added
placed_bare p s = placed_by (nat_le (pieces_size (s.pieces ++ p ∷ [])) SPAN_MAX) p s

outs_bare : (w : Definitions) (positions : List (Option ℕ)) (ps : List PlainPiece) →
    Each PieceKeeps ps →
    (s : RunState) → Alike (outs w positions ps (bare_state s)) (outs w positions ps s)
outs_bare w positions [] h s = ap (λ (us : List Shown). Ok (with_units s us)) (bare_twice s.units)
outs_bare w positions (p ∷ ps) h s =
    alike_then (piece_of (sight_of w positions (bare_state s)) p) (piece_of (sight_of w positions s)
    p)
    (λ x. placed x (bare_state s) >>= outs w positions ps) (λ x. placed x s >>= outs w positions ps)
    (piece_bare (sight_of w positions s) p h.0)
    (λ x. alike_next (placed x (bare_state s)) (placed x s) (outs w positions ps) (placed_bare x s)
    (outs_bare w positions ps h.1))

either_alike : (b : Bool) (first second third fourth : Ran RunState) → Alike first third →
    Alike second fourth → Alike (either_of b first second) (either_of b third fourth)
either_alike true first second third fourth h k = h
either_alike false first second third fourth h k = k

chosen_alike : (b : Bool) (first second third fourth : Ran RunState) → Alike first third →
    Alike second fourth → Alike (if b then first else second) (if b then third else fourth)
chosen_alike true first second third fourth h k = h
chosen_alike false first second third fourth h k = k

abbrev CallsBare : Calls → Type 0
CallsBare calls = (k : ℕ) (positions : List (Option ℕ)) (s : RunState) →
    Alike (calls k positions (bare_state s)) (calls k positions s)

module _ (w : Definitions) (calls : Calls) (c : CallsBare calls) (positions : List (Option ℕ)) where
  mutual
    run_bare : (x : PlainStatement) → StatementKeeps x → (s : RunState) →
        Alike (run w calls positions x (bare_state s)) (run w calls positions x s)
    run_bare (choose whens otherwise) h s =
        choice_bare whens h.0 (run_all w calls positions otherwise) (run_all_bare otherwise h.1) s
    run_bare (assign p v) h s =
        alike_then (value_of (sight_of w positions (bare_state s)) v) (value_of (sight_of w
        positions s) v)
        (λ x. Ok (with_place w positions p x (bare_state s))) (λ x. Ok (with_place w positions p x
        s))
        (value_bare (sight_of w positions s) v h.1)
        (λ x. ap (λ (t : RunState). Ok t) (place_bare w positions p h.0 x s))
    run_bare (append n vs) h s =
        alike_then (appended (sight_of w positions (bare_state s)) n (values_of vs))
        (appended (sight_of w positions s) n (values_of vs)) (λ x. Ok (with_var n x (bare_state s)))
        (λ x. Ok (with_var n x s)) (appended_bare (sight_of w positions s) n vs h)
        (λ x. ap (λ (us : List Shown). Ok (with_units (with_var n x s) us)) (bare_twice s.units))
    run_bare (out ps) h s = outs_bare w positions ps h s
    run_bare (modify_case p v) h s =
        alike_then (value_of (sight_of w positions (bare_state s)) v) (value_of (sight_of w
        positions s) v)
        (λ x. Ok
        (with_place w positions p (recased_at (sight_of w positions (bare_state s)) p x) (bare_state
        s)))
        (λ x. Ok (with_place w positions p (recased_at (sight_of w positions s) p x) s))
        (value_bare (sight_of w positions s) v h.1)
        (λ x. ap (λ (held : List Symbol). Ok (bare_state
        (with_place w positions p (recase_lem (case_of_lem x) held) (bare_state s))))
        (held_bare (sight_of w positions s) p h.0)
        ∙ ap (λ (t : RunState). Ok t)
        (place_bare w positions p h.0 (recased_at (sight_of w positions s) p x) s))
    run_bare (call_macro n params) h s = c n (places_of positions params) s

    run_all_bare : (xs : PlainStatements) → StatementsKeep xs → (s : RunState) →
        Alike (run_all w calls positions xs (bare_state s)) (run_all w calls positions xs s)
    run_all_bare no_statements h s =
        ap (λ (us : List Shown). Ok (with_units s us)) (bare_twice s.units)
    run_all_bare (then_statement x more) h s =
        alike_next (run w calls positions x (bare_state s)) (run w calls positions x s)
        (run_all w calls positions more) (run_bare x h.0 s) (run_all_bare more h.1)

    choice_bare : (ws : PlainWhens) → WhensKeep ws → (last : RunState → Ran RunState) →
        ((s : RunState) → Alike (last (bare_state s)) (last s)) → (s : RunState) →
        Alike (run_choice w calls positions ws last (bare_state s)) (run_choice w calls positions ws
        last s)
    choice_bare no_whens h last l s = l s
    choice_bare (then_when test statements more) h last l s =
        alike_then (holds (sight_of w positions (bare_state s)) test) (holds (sight_of w positions
        s) test)
        (λ b. either_of b (run_all w calls positions statements (bare_state s))
        (run_choice w calls positions more last (bare_state s)))
        (λ b. either_of b (run_all w calls positions statements s)
        (run_choice w calls positions more last s)) (holds_bare (sight_of w positions s) test h.0)
        (λ b. either_alike b (run_all w calls positions statements (bare_state s))
        (run_choice w calls positions more last (bare_state s)) (run_all w calls positions
        statements s)
        (run_choice w calls positions more last s) (run_all_bare statements h.1 s)
        (choice_bare more h.2 last l s))

body_keeps : (o : Option PlainStatements) → Opt StatementsKeep o → StatementsKeep (body_in o)
body_keeps None h = tt
body_keeps (Some body) h = h

macros_bare : (w : Definitions) → Each StatementsKeep w.bodies → (macros : ℕ) →
    CallsBare (macros_below w macros)
macros_bare w h zero n positions s =
    ap (λ (us : List Shown). Ok (with_units s us)) (bare_twice s.units)
macros_bare w h (suc m) n positions s =
    chosen_alike (n == m) (run_all w (macros_below w m) positions (body_at w m) (bare_state s))
    (macros_below w m n positions (bare_state s)) (run_all w (macros_below w m) positions (body_at w
    m) s)
    (macros_below w m n positions s)
    (run_all_bare w (macros_below w m) (macros_bare w h m) positions (body_at w m)
    (body_keeps (slice_get w.bodies m) (each_get StatementsKeep w.bodies m h)) s)
    (macros_bare w h m n positions s)

action_keeps : (o : Option PlainRule) → Opt RuleKeeps o → StatementsKeep (action_in o)
action_keeps None h = tt
action_keeps (Some rule) h = h

-- the start

shown_bare : (us : List MatchedUnit) → map bare (map shown (map all_head us))
    ≡ map bare (map shown us)
shown_bare [] = refl
shown_bare (u ∷ us) =
    ap (λ (target : List Symbol). (record {
      source = u.source;
      target = target;
      border = 0;
      content =
          u.content;
    }) ∷ map bare (map shown (map all_head us))) (append-nil (u.head ++ u.queue))
    ∙ ap (λ (xs : List Shown). bare (shown u) ∷ xs) (shown_bare us)

units_in_bare : (chunk : Option (List Symbol)) (us : List MatchedUnit) →
    map bare (units_in chunk (map all_head us)) ≡ map bare (units_in chunk us)
units_in_bare None us = shown_bare us
units_in_bare (Some name) us =
    ap (λ (xs : List Shown). (record { source = []; target = name; border = 0; content = [] }) ∷ xs)
    (shown_bare us)

seen_bare : (r : Ran RunState) → seen outcome r ≡ seen outcome (seen bare_state r)
seen_bare (Ok s) = refl
seen_bare (Err x) = refl

-- what is seen of the end is the same, where the starts are the same, borders aside
seen_alike : (f : RunState → Ran RunState) → ((s : RunState) → Alike (f (bare_state s)) (f s)) →
    (s t : RunState) →
    bare_state s ≡ bare_state t → seen outcome (f s) ≡ seen outcome (f t)
seen_alike f h s t e =
    seen_bare (f s) ∙ ap (seen outcome)
    (sym (h s) ∙ ap (λ (x : RunState). seen bare_state (f x)) e ∙ h t) ∙ sym (seen_bare (f t))

pub borders_do_not_matter : BordersDoNotMatter
borders_do_not_matter r n m vars h =
    let w = definitions_of r in
    let calls = macros_below w (length r.macros) in
    let bodies = each_map MacroKeeps StatementsKeep body_of (λ x l. l) r.macros h.macros in
    let positions = positions_in m.chunk (length m.units) in
    ap (λ (size : ℕ). seen outcome
    (run_all w calls (positions_in m.chunk size) (action_of r n) (started (without_queues m) vars)))
    (length-map m.units all_head)
    ∙ seen_alike (run_all w calls positions (action_of r n))
    (run_all_bare w calls (macros_bare w bodies (length r.macros)) positions (action_of r n)
    (action_keeps (slice_get r.rules n) (each_get RuleKeeps r.rules n h.rules)))
    (started (without_queues m) vars) (started m vars)
    (ap (with_units (started m vars)) (units_in_bare m.chunk m.units))
