-- Running a rule keeps words what they are.
use Rattle.std.proofs.Common.{◌≡◌, ℕ, zero, suc, ◌+◌, ◌==◌, nat_le, Bool, true, false, if◌then◌else◌, List, [], ◌∷◌, ◌++◌, length, take, drop, subst, Option, Some, None, Ok, Err}
use Rattle.std.specs.Prelude.{slice_get}
use Rattle.ap_symbol.specs.Kinds.{first_word}
use Rattle.ap_symbol.specs.Recasing.{case_of_lem, recase_lem}
use Rattle.ap_symbol.specs.Rendering.{rendering}
use Rattle.ap_symbol.specs.declared.symbol.Symbol.{Symbol}
use Rattle.ap_symbol.specs.declared.symbol.Symbol.TheVariants.{Blank}
use Rattle.ap_rules.specs.Plain.{PlainValue, PlainValues, clip, lit, lit_tag, var, get_case_from, case_of, concat, blank_value, no_values, then_value, values_of, PlainUnit, PlainChunkPiece, chunk_unit, chunk_units, chunk_blank, PlainChunk, PlainPiece, blank, unit, units, chunk, value_chunk, PlainStatement, PlainStatements, PlainWhens, choose, assign, append, out, modify_case, call_macro, no_statements, then_statement, no_whens, then_when, PlainRule}
use Rattle.ap_rules.specs.Soundness.{Opt, Each}
use Rattle.ap_rules.specs.Worded.{IsWorded, IsWordedValue, AreWordedValues, IsWordedUnit, IsWordedChunkPiece, IsWordedChunk, IsWordedPiece, IsWordedStatement, AreWordedStatements, AreWordedWhens, IsWordedVariable, IsWordedMacro, IsWordedRule}
use Rattle.ap_rules.specs.declared.statement.Place.{Place}
use Rattle.ap_rules.specs.declared.statement.Place.TheVariants as place
use Rattle.ap_rules.specs.declared.value.Clip.{Clip}
use Rattle.ap_rules.specs.declared.value.ClipPart.{ClipPart}
use Rattle.ap_rules.specs.declared.value.Side.{Side}
use Rattle.ap_rules.specs.declared.value.Side.TheVariants.{Source, Target}
use Rattle.ap_stream.specs.declared.TheConstants.{UNIT_MAX}
use Rattle.ap_stream.specs.declared.item.Inner.{Inner}
use Rattle.ap_stream.specs.declared.item.Inner.TheVariants as inner
use Rattle.ap_exec.specs.declared.matched.MatchedUnit.{MatchedUnit}
use Rattle.ap_stream.specs.declared.TheConstants.{SPAN_MAX}
use Rattle.ap_exec.specs.declared.template.Atom.{Atom}
use Rattle.ap_exec.specs.declared.template.Atom.TheVariants.{Unit as The_unit}
use Rattle.ap_exec.specs.declared.template.Piece.{Piece}
use Rattle.ap_exec.specs.declared.template.Piece.TheVariants.{Atom as The_atom, Chunk}
use Rattle.ap_exec.specs.Acting.{Outcome, outcome, body_of, definitions_of, action_in, action_of, shown, units_in, positions_in, started}
use Rattle.ap_exec.specs.Conditions.{holds}
use Rattle.ap_exec.specs.FillingLaws.{IsWordedAtom}
use Rattle.ap_exec.specs.Parts.{Span, span_of, cut, side_in, word_on, word_of, word_at, part_at, linked, clip_of, case_at}
use Rattle.ap_exec.specs.Pieces.{unit_of, units_of, compound, blank_atom, chunk_piece_of, chunk_pieces_of, tags_of, held_by, stated, cased, name_of, atom_in, gives_content, content_in, content_of, contents_of, piece_of, pieces_size, added}
use Rattle.ap_exec.specs.Results.{Ran, ◌>>=◌, seen, ValueTooLong, OutputTooLong}
use Rattle.ap_exec.specs.Running.{Definitions, RunState, sight_of, with_var, unit_set, with_place, held_at, recased_at, placed, outs, places_of, either_of, Calls, run, run_all, run_choice, body_in, body_at, macros_below}
use Rattle.ap_exec.specs.RunningLaws.{IsWordedInner, IsWordedMatched, IsWordedOutput, RunningKeepsWords, StartingKeepsWords}
use Rattle.ap_exec.specs.Units.{Shown, Sight, number_at, numbered, unit_at, var_at}
use Rattle.ap_exec.specs.Values.{sized, bounded, case_said, value_of, joined_of, appended}
use Rattle.ap_exec.specs.Writing.{spliced, is_kept, replaced, written}
use Rattle.ap_exec.proofs.Worded.{each_map, each_get, each_set, each_append, Then, then_next, then_any, none_worded, append_worded, take_worded, drop_worded, recased_worded, blank_worded, case_worded, compound_worded}

record IsWordedShown (unit : Shown) : Type 0 where
  source : IsWorded unit.source
  target : IsWorded unit.target
  content : Each IsWordedInner unit.content

record IsWordedSight (sight : Sight) : Type 0 where
  units : Each IsWordedShown sight.units
  vars : Each IsWorded sight.vars

record IsWordedState (s : RunState) : Type 0 where
  units : Each IsWordedShown s.units
  vars : Each IsWorded s.vars
  pieces : Each IsWordedOutput s.pieces

-- the parts of words

cut_worded : (span : Span) (word : List Symbol) → IsWorded word → IsWorded (cut span word)
cut_worded span word h =
    take_worded span.count (drop span.start word) (drop_worded span.start word h)

on_worded : (side : Side) (queue : Bool) (u : Shown) → IsWordedShown u →
    IsWorded (word_on side queue u)
on_worded Source queue u h = h.source
on_worded Target true u h = h.target
on_worded Target false u h = take_worded u.border u.target h.target

of_worded : (side : Side) (queue : Bool) (u : Option Shown) → Opt IsWordedShown u →
    IsWorded (word_of side queue u)
of_worded side queue None h = none_worded
of_worded side queue (Some u) h = on_worded side queue u h

numbered_worded : (us : List Shown) (n : Option ℕ) → Each IsWordedShown us →
    Opt IsWordedShown (numbered us n)
numbered_worded us None h = tt
numbered_worded us (Some n) h = each_get IsWordedShown us n h

unit_worded : (sight : Sight) → IsWordedSight sight → (pos : ℕ) →
    Opt IsWordedShown (unit_at sight.positions sight.units pos)
unit_worded sight g pos = numbered_worded sight.units (number_at sight.positions pos) g.units

part_worded : (sight : Sight) → IsWordedSight sight → (pos : ℕ) (part : ClipPart) (side : Side)
    (queue : Bool) → IsWorded (part_at sight pos part side queue)
part_worded sight g pos part side queue =
    cut_worded (span_of sight.attributes part (word_at sight pos side queue))
    (word_at sight pos side queue)
    (of_worded (side_in sight.form side) queue (unit_at sight.positions sight.units pos)
    (unit_worded sight g pos))

linked_worded : (link : Option (List Symbol)) (part : List Symbol) → Opt IsWorded link →
    IsWorded part → IsWorded (linked link part)
linked_worded None part h k = k
linked_worded (Some link) [] h k = k
linked_worded (Some link) (s ∷ part) h k = h

held_worded : (o : Option (List Symbol)) → Opt IsWorded o → IsWorded (var_at o)
held_worded None h = none_worded
held_worded (Some word) h = h

var_worded : (vars : List (List Symbol)) (n : ℕ) → Each IsWorded vars →
    IsWorded (var_at (slice_get vars n))
var_worded vars n h = held_worded (slice_get vars n) (each_get IsWorded vars n h)

-- values

sized_by : {A : Type 0} (P : A → Type 0) (b : Bool) (x : A) → P x →
    Then P (if b then Ok x else Err ValueTooLong)
sized_by P true x h = h
sized_by P false x h = tt

sized_keeps : {A : Type 0} (P : A → Type 0) (n : ℕ) (x : A) → P x → Then P (sized n x)
unfolding sized
sized_keeps P n x h = sized_by P (nat_le n UNIT_MAX) x h

bounded_worded : (word : List Symbol) → IsWorded word → Then IsWorded (bounded word)
bounded_worded word h = sized_keeps IsWorded (length (rendering word)) word h

mutual
  value_worded : (sight : Sight) → IsWordedSight sight → (v : PlainValue) → IsWordedValue v →
      Then IsWorded (value_of sight v)
  value_worded sight g (clip c) h =
      bounded_worded (clip_of sight c)
      (linked_worded c.link_to (part_at sight c.pos c.part c.side c.queue) h
      (part_worded sight g c.pos c.part c.side c.queue))
  value_worded sight g (lit word) h = bounded_worded word h
  value_worded sight g (lit_tag word) h = bounded_worded word h
  value_worded sight g (var n) h =
      bounded_worded (var_at (slice_get sight.vars n)) (var_worded sight.vars n g.vars)
  value_worded sight g (get_case_from pos v) h =
      then_next IsWorded IsWorded (value_of sight v)
      (λ word. bounded (recase_lem (case_at sight pos) word)) (value_worded sight g v h)
      (λ word k. bounded_worded (recase_lem (case_at sight pos) word)
      (recased_worded (case_at sight pos) word k))
  value_worded sight g (case_of c) h =
      bounded_worded (case_said sight c)
      (case_worded (case_of_lem (part_at sight c.pos c.part c.side true)))
  value_worded sight g (concat vs) h =
      then_next IsWorded IsWorded (joined_of sight vs) bounded (values_worded sight g vs h)
      bounded_worded
  value_worded sight g (blank_value pos) h = bounded_worded (Blank ∷ []) blank_worded

  values_worded : (sight : Sight) → IsWordedSight sight → (vs : PlainValues) →
      AreWordedValues vs → Then IsWorded (joined_of sight vs)
  values_worded sight g no_values h = none_worded
  values_worded sight g (then_value v vs) h =
      then_next IsWorded IsWorded (value_of sight v)
      (λ w. joined_of sight vs >>= λ ws. Ok (w ++ ws)) (value_worded sight g v h.0)
      (λ w k. then_next IsWorded IsWorded (joined_of sight vs) (λ ws. Ok (w ++ ws))
      (values_worded sight g vs h.1) (λ ws l. append_worded w ws k l))

in_row : (vs : List PlainValue) → IsWordedUnit vs → AreWordedValues (values_of vs)
in_row [] h = tt
in_row (v ∷ vs) h = (h.0, in_row vs h.1)

appended_worded : (sight : Sight) → IsWordedSight sight → (n : ℕ) (vs : List PlainValue) →
    IsWordedUnit vs → Then IsWorded (appended sight n (values_of vs))
appended_worded sight g n vs h =
    then_next IsWorded IsWorded (joined_of sight (values_of vs))
    (λ x. bounded (var_at (slice_get sight.vars n) ++ x))
    (values_worded sight g (values_of vs) (in_row vs h))
    (λ x k. bounded_worded (var_at (slice_get sight.vars n) ++ x)
    (append_worded (var_at (slice_get sight.vars n)) x (var_worded sight.vars n g.vars) k))

-- the pieces of an output

module _ (sight : Sight) (g : IsWordedSight sight) where
  made_worded : (vs : PlainUnit) → IsWordedUnit vs → Then IsWorded (unit_of sight vs)
  made_worded vs h = values_worded sight g (values_of vs) (in_row vs h)

  all_made_worded : (us : List PlainUnit) → Each IsWordedUnit us →
      Then (Each IsWorded) (units_of sight us)
  all_made_worded [] h = tt
  all_made_worded (u ∷ us) h =
      then_next IsWorded (Each IsWorded) (unit_of sight u)
      (λ w. units_of sight us >>= λ ws. Ok (w ∷ ws)) (made_worded u h.0)
      (λ w k. then_next (Each IsWorded) (Each IsWorded) (units_of sight us) (λ ws. Ok (w ∷ ws))
      (all_made_worded us h.1) (λ ws l. (k, l)))

  blank_is : (pos : Option ℕ) → IsWordedAtom (blank_atom pos)
  blank_is None = tt
  blank_is (Some pos) = tt

  inner_worded : (p : PlainChunkPiece) → IsWordedChunkPiece p →
      Then IsWordedAtom (chunk_piece_of sight p)
  inner_worded (chunk_unit vs) h =
      then_next IsWorded IsWordedAtom (unit_of sight vs) (λ word. Ok (The_unit word))
      (made_worded vs h) (λ word k. k)
  inner_worded (chunk_units us) h =
      then_next (Each IsWorded) IsWordedAtom (units_of sight us)
      (λ words. Ok (The_unit (compound words))) (all_made_worded us h) compound_worded
  inner_worded (chunk_blank pos) h = blank_is pos

  all_inner_worded : (ps : List PlainChunkPiece) → Each IsWordedChunkPiece ps →
      Then (Each IsWordedAtom) (chunk_pieces_of sight ps)
  all_inner_worded [] h = tt
  all_inner_worded (p ∷ ps) h =
      then_next IsWordedAtom (Each IsWordedAtom) (chunk_piece_of sight p)
      (λ x. chunk_pieces_of sight ps >>= λ xs. Ok (x ∷ xs)) (inner_worded p h.0)
      (λ x k. then_next (Each IsWordedAtom) (Each IsWordedAtom) (chunk_pieces_of sight ps)
      (λ xs. Ok (x ∷ xs)) (all_inner_worded ps h.1) (λ xs l. (k, l)))

  tags_worded : (ts : List PlainUnit) → Each IsWordedUnit ts → Then IsWorded (tags_of sight ts)
  tags_worded [] h = none_worded
  tags_worded (t ∷ ts) h =
      then_next IsWorded IsWorded (unit_of sight t)
      (λ x. tags_of sight ts >>= λ xs. Ok (x ++ xs)) (made_worded t h.0)
      (λ x k. then_next IsWorded IsWorded (tags_of sight ts) (λ xs. Ok (x ++ xs))
      (tags_worded ts h.1) (λ xs l. append_worded x xs k l))

  held_by_worded : (from : Option ℕ) → IsWorded (held_by sight.vars from)
  held_by_worded None = none_worded
  held_by_worded (Some n) = var_worded sight.vars n g.vars

  stated_worded : (name : Option (List Symbol)) (from : Option ℕ) → Opt IsWorded name →
      IsWorded (stated sight.vars name from)
  stated_worded (Some name) from h = h
  stated_worded None from h = held_by_worded from

  cased_worded : (case : Option ℕ) (word : List Symbol) → IsWorded word →
      IsWorded (cased sight.vars case word)
  cased_worded None word h = h
  cased_worded (Some n) word h =
      recased_worded (case_of_lem (var_at (slice_get sight.vars n))) word h

  name_worded : (c : PlainChunk) → IsWordedChunk c → IsWorded (name_of sight.vars c)
  name_worded c h =
      cased_worded c.case (stated sight.vars c.name c.namefrom)
      (stated_worded c.name c.namefrom h.name)

  first_worded : (words : List (List Symbol)) → Each IsWorded words → IsWorded (first_word words)
  first_worded [] h = none_worded
  first_worded (word ∷ words) h = h.0

  atom_worded : (part : Inner) → IsWordedInner part → IsWordedAtom (atom_in part)
  atom_worded (inner.Unit words) h = first_worded words h
  atom_worded (inner.Blank bytes) h = tt

  content_in_worded : (o : Option Shown) → Opt IsWordedShown o →
      Each IsWordedAtom (content_in o)
  content_in_worded None h = tt
  content_in_worded (Some u) h =
      each_map IsWordedInner IsWordedAtom atom_in atom_worded u.content h.content

  given_worded : (b : Bool) (atoms : List Atom) → Each IsWordedAtom atoms →
      Each IsWordedAtom (if b then atoms else [])
  given_worded true atoms h = h
  given_worded false atoms h = tt

  content_worded : (v : PlainValue) → Each IsWordedAtom (content_of sight v)
  content_worded (clip c) =
      given_worded (gives_content c.part c.link_to)
      (content_in (unit_at sight.positions sight.units c.pos))
      (content_in_worded (unit_at sight.positions sight.units c.pos) (unit_worded sight g c.pos))
  content_worded (lit word) = tt
  content_worded (lit_tag word) = tt
  content_worded (var n) = tt
  content_worded (get_case_from pos v) = tt
  content_worded (case_of c) = tt
  content_worded (concat vs) = tt
  content_worded (blank_value pos) = tt

  contents_worded : (vs : List PlainValue) → Each IsWordedAtom (contents_of sight vs)
  contents_worded [] = tt
  contents_worded (v ∷ vs) =
      each_append IsWordedAtom (content_of sight v) (contents_of sight vs) (content_worded v)
      (contents_worded vs)

  piece_worded : (p : PlainPiece) → IsWordedPiece p → Then IsWordedOutput (piece_of sight p)
  piece_worded (blank pos) h = blank_is pos
  piece_worded (unit vs) h =
      then_next IsWorded IsWordedOutput (unit_of sight vs)
      (λ word. Ok (The_atom (The_unit word))) (made_worded vs h) (λ word k. k)
  piece_worded (units us) h =
      then_next (Each IsWorded) IsWordedOutput (units_of sight us)
      (λ words. Ok (The_atom (The_unit (compound words)))) (all_made_worded us h) compound_worded
  piece_worded (chunk c) h =
      then_next IsWorded IsWordedOutput (tags_of sight c.tags)
      (λ tags. chunk_pieces_of sight c.pieces >>= λ atoms. Ok
      (Chunk (name_of sight.vars c ++ tags) atoms)) (tags_worded c.tags h.tags)
      (λ tags k. then_next (Each IsWordedAtom) IsWordedOutput (chunk_pieces_of sight c.pieces)
      (λ atoms. Ok (Chunk (name_of sight.vars c ++ tags) atoms))
      (all_inner_worded c.pieces h.pieces)
      (λ atoms l. (append_worded (name_of sight.vars c) tags (name_worded c h) k, l)))
  piece_worded (value_chunk vs) h =
      then_next IsWorded IsWordedOutput (unit_of sight vs)
      (λ name. Ok (Chunk name (contents_of sight vs))) (made_worded vs h)
      (λ name k. (k, contents_worded vs))

-- what statements do

sight_worded : (w : Definitions) (positions : List (Option ℕ)) (s : RunState) → IsWordedState s →
    IsWordedSight (sight_of w positions s)
sight_worded w positions s h = record { units = h.units; vars = h.vars }

var_set : (n : ℕ) (word : List Symbol) (s : RunState) → IsWordedState s → IsWorded word →
    IsWordedState (with_var n word s)
var_set n word s h k = record {
  units = h.units;
  vars = each_set IsWorded s.vars n word h.vars k;
  pieces = h.pieces;
}

spliced_worded : (span : Span) (value word : List Symbol) → IsWorded value → IsWorded word →
    IsWorded (spliced span value word)
spliced_worded span value word h k =
    append_worded (take span.start word ++ value) (drop (span.start + span.count) word)
    (append_worded (take span.start word) value (take_worded span.start word k) h)
    (drop_worded (span.start + span.count) word k)

replaced_worded : (side : Side) (span : Span) (value : List Symbol) (u : Shown) →
    IsWorded value → IsWordedShown u → IsWordedShown (replaced side span value u)
replaced_worded Source span value u h k = record {
  source = spliced_worded span value u.source h k.source;
  target = k.target;
  content = k.content;
}
replaced_worded Target span value u h k = record {
  source = k.source;
  target = spliced_worded span value u.target h k.target;
  content = k.content;
}

kept_worded : (b : Bool) (side : Side) (span : Span) (value : List Symbol) (u : Shown) →
    IsWorded value → IsWordedShown u →
    IsWordedShown (if b then u else replaced side span value u)
kept_worded true side span value u h k = k
kept_worded false side span value u h k = replaced_worded side span value u h k

written_worded : (w : Definitions) (c : Clip) (value : List Symbol) (u : Shown) → IsWorded value →
    IsWordedShown u → IsWordedShown (written w.form w.attributes c value u)
written_worded w c value u h k =
    let span = span_of w.attributes c.part (word_on (side_in w.form c.side) c.queue u) in
    kept_worded (is_kept c.part span.count) (side_in w.form c.side) span value u h k

unit_set_worded : (w : Definitions) (c : Clip) (value : List Symbol) (us : List Shown)
    (n : Option ℕ) (u : Option Shown) → IsWorded value → Each IsWordedShown us →
    Opt IsWordedShown u → Each IsWordedShown (unit_set w c value us n u)
unit_set_worded w c value us (Some n) (Some u) h k l =
    each_set IsWordedShown us n (written w.form w.attributes c value u) k
    (written_worded w c value u h l)
unit_set_worded w c value us (Some n) None h k l = k
unit_set_worded w c value us None u h k l = k

place_set : (w : Definitions) (positions : List (Option ℕ)) (p : Place) (value : List Symbol) (s :
    RunState) →
    IsWordedState s → IsWorded value → IsWordedState (with_place w positions p value s)
place_set w positions (place.Clip c) value s h k = record {
  units = unit_set_worded w c value s.units (number_at positions c.pos)
      (numbered s.units (number_at positions c.pos)) k h.units
      (numbered_worded s.units (number_at positions c.pos) h.units);
  vars = h.vars;
  pieces = h.pieces;
}
place_set w positions (place.Var v) value s h k = var_set v.n value s h k

at_worded : (sight : Sight) → IsWordedSight sight → (p : Place) → IsWorded (held_at sight p)
at_worded sight g (place.Clip c) = part_worded sight g c.pos c.part c.side c.queue
at_worded sight g (place.Var v) = var_worded sight.vars v.n g.vars

placed_by : (b : Bool) (p : Piece) (s : RunState) → IsWordedState s → IsWordedOutput p
    → Then IsWordedState ((if b then Ok (s.pieces ++ p ∷ []) else Err OutputTooLong)
    >>= λ pieces. Ok (record s { pieces = pieces }))
placed_by true p s h k = record {
  units = h.units;
  vars = h.vars;
  pieces = each_append IsWordedOutput s.pieces (p ∷ []) h.pieces (k, tt);
}
placed_by false p s h k = tt

placed_worded : (p : Piece) (s : RunState) → IsWordedState s → IsWordedOutput p →
    Then IsWordedState (placed p s)
unfolding added
placed_worded p s h k = placed_by (nat_le (pieces_size (s.pieces ++ p ∷ [])) SPAN_MAX) p s h k

outs_worded : (w : Definitions) (positions : List (Option ℕ)) (ps : List PlainPiece) →
    Each IsWordedPiece ps → (s : RunState) → IsWordedState s → Then IsWordedState (outs w positions
    ps s)
outs_worded w positions [] h s k = k
outs_worded w positions (p ∷ ps) h s k =
    then_next IsWordedOutput IsWordedState (piece_of (sight_of w positions s) p)
    (λ x. placed x s >>= outs w positions ps)
    (piece_worded (sight_of w positions s) (sight_worded w positions s k) p h.0)
    (λ x l. then_next IsWordedState IsWordedState (placed x s) (outs w positions ps)
    (placed_worded x s k l) (outs_worded w positions ps h.1))

either : (b : Bool) (first second : Ran RunState) → Then IsWordedState first →
    Then IsWordedState second → Then IsWordedState (either_of b first second)
either true first second h k = h
either false first second h k = k

chosen : (b : Bool) (first second : Ran RunState) → Then IsWordedState first →
    Then IsWordedState second → Then IsWordedState (if b then first else second)
chosen true first second h k = h
chosen false first second h k = k

-- what macros do keeps words
abbrev CallsKeep : Calls → Type 0
CallsKeep calls = (k : ℕ) (positions : List (Option ℕ)) (s : RunState) → IsWordedState s →
    Then IsWordedState (calls k positions s)

mutual
  run_worded : (w : Definitions) (calls : Calls) → CallsKeep calls → (positions : List (Option ℕ))
      (x : PlainStatement) → IsWordedStatement x → (s : RunState) → IsWordedState s →
      Then IsWordedState (run w calls positions x s)
  run_worded w calls c positions (choose whens otherwise) h s k =
      choice_worded w calls c positions whens h.0 (run_all w calls positions otherwise)
      (all_worded w calls c positions otherwise h.1) s k
  run_worded w calls c positions (assign p v) h s k =
      then_next IsWorded IsWordedState (value_of (sight_of w positions s) v)
      (λ x. Ok (with_place w positions p x s))
      (value_worded (sight_of w positions s) (sight_worded w positions s k) v h)
      (λ x l. place_set w positions p x s k l)
  run_worded w calls c positions (append n vs) h s k =
      then_next IsWorded IsWordedState (appended (sight_of w positions s) n (values_of vs))
      (λ x. Ok (with_var n x s))
      (appended_worded (sight_of w positions s) (sight_worded w positions s k) n vs h)
      (λ x l. var_set n x s k l)
  run_worded w calls c positions (out ps) h s k = outs_worded w positions ps h s k
  run_worded w calls c positions (modify_case p v) h s k =
      then_next IsWorded IsWordedState (value_of (sight_of w positions s) v)
      (λ x. Ok (with_place w positions p (recased_at (sight_of w positions s) p x) s))
      (value_worded (sight_of w positions s) (sight_worded w positions s k) v h)
      (λ x l. place_set w positions p (recased_at (sight_of w positions s) p x) s k
      (recased_worded (case_of_lem x) (held_at (sight_of w positions s) p)
      (at_worded (sight_of w positions s) (sight_worded w positions s k) p)))
  run_worded w calls c positions (call_macro n params) h s k = c n (places_of positions params) s k

  all_worded : (w : Definitions) (calls : Calls) → CallsKeep calls → (positions : List (Option ℕ))
      (xs : PlainStatements) → AreWordedStatements xs → (s : RunState) → IsWordedState s →
      Then IsWordedState (run_all w calls positions xs s)
  all_worded w calls c positions no_statements h s k = k
  all_worded w calls c positions (then_statement x more) h s k =
      then_next IsWordedState IsWordedState (run w calls positions x s) (run_all w calls positions
      more)
      (run_worded w calls c positions x h.0 s k) (all_worded w calls c positions more h.1)

  choice_worded : (w : Definitions) (calls : Calls) → CallsKeep calls →
      (positions : List (Option ℕ))
      (ws : PlainWhens) → AreWordedWhens ws → (last : RunState → Ran RunState) →
      ((s : RunState) → IsWordedState s → Then IsWordedState (last s)) → (s : RunState) →
      IsWordedState s →
      Then IsWordedState (run_choice w calls positions ws last s)
  choice_worded w calls c positions no_whens h last l s k = l s k
  choice_worded w calls c positions (then_when test statements more) h last l s k =
      then_any IsWordedState (holds (sight_of w positions s) test)
      (λ b. either_of b (run_all w calls positions statements s)
      (run_choice w calls positions more last s))
      (λ b. either b (run_all w calls positions statements s) (run_choice w calls positions more
      last s)
      (all_worded w calls c positions statements h.0 s k)
      (choice_worded w calls c positions more h.1 last l s k))

body_worded : (o : Option PlainStatements) → Opt AreWordedStatements o →
    AreWordedStatements (body_in o)
body_worded None h = tt
body_worded (Some body) h = h

macros_worded : (w : Definitions) → Each AreWordedStatements w.bodies → (macros : ℕ) →
    CallsKeep (macros_below w macros)
macros_worded w h zero n positions s k = k
macros_worded w h (suc m) n positions s k =
    chosen (n == m) (run_all w (macros_below w m) positions (body_at w m) s) (macros_below w m n
    positions s)
    (all_worded w (macros_below w m) (macros_worded w h m) positions (body_at w m)
    (body_worded (slice_get w.bodies m) (each_get AreWordedStatements w.bodies m h)) s k)
    (macros_worded w h m n positions s k)

action_worded : (o : Option PlainRule) → Opt IsWordedRule o → AreWordedStatements (action_in o)
action_worded None h = tt
action_worded (Some rule) h = h

shown_worded : (u : MatchedUnit) → IsWordedMatched u → IsWordedShown (shown u)
shown_worded u h = record {
  source = h.source;
  target = append_worded u.head u.queue h.head h.queue;
  content = h.content;
}

units_worded : (chunk : Option (List Symbol)) (us : List MatchedUnit) → Opt IsWorded chunk →
    Each IsWordedMatched us → Each IsWordedShown (units_in chunk us)
units_worded None us h k = each_map IsWordedMatched IsWordedShown shown shown_worded us k
units_worded (Some name) us h k = (
  record { source = none_worded; target = h; content = tt },
  each_map IsWordedMatched IsWordedShown shown shown_worded us k,
)

ends_worded : (r : Ran RunState) (o : Outcome) → Then IsWordedState r → seen outcome r ≡ Ok o →
    Each IsWordedOutput o.pieces × Each IsWorded o.vars
ends_worded (Ok t) o h e =
    let same : outcome t ≡ o = cc in
    subst (λ (x : Outcome). Each IsWordedOutput x.pieces × Each IsWorded x.vars) same
    (h.pieces, h.vars)
ends_worded (Err x) o h e = cc

pub running_keeps_words : RunningKeepsWords
running_keeps_words r n m vars o worded h k e =
    let w = definitions_of r in
    let bodies = each_map IsWordedMacro AreWordedStatements body_of (λ x l. l) r.macros
    worded.macros in
    ends_worded (run_all w (macros_below w (length r.macros)) (positions_in m.chunk (length
    m.units))
    (action_of r n) (started m vars)) o
    (all_worded w (macros_below w (length r.macros)) (macros_worded w bodies (length r.macros))
    (positions_in m.chunk (length m.units)) (action_of r n)
    (action_worded (slice_get r.rules n) (each_get IsWordedRule r.rules n worded.rules))
    (started m vars)
    (record { units = units_worded m.chunk m.units h.chunk h.units; vars = k; pieces = tt })) e

pub starting_keeps_words : StartingKeepsWords
starting_keeps_words rules worded =
    each_map IsWordedVariable IsWorded (λ variable. variable.v) (λ x l. l) rules.variables
    worded.variables
