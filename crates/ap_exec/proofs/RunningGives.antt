-- Sound rules give pieces of outputs as their bounds say: chunks, or units.
use Rattle.std.proofs.Common.{◌≡◌, ℕ, zero, suc, ◌==◌, nat_le, Bool, true, false, if◌then◌else◌, List, [], ◌∷◌, ◌++◌, length, map, refl, sym, ◌∙◌, subst, Option, Some, None, Ok, Err}
use Rattle.std.specs.Prelude.{slice_get}
use Rattle.ap_symbol.specs.declared.symbol.Symbol.{Symbol}
use Rattle.ap_rules.specs.Faults.{reach_to, rule_reach}
use Rattle.ap_rules.specs.Plain.{values_of, PlainPiece, blank, unit, units, chunk, value_chunk, PlainStatement, PlainStatements, PlainWhens, choose, assign, append, out, modify_case, call_macro, no_statements, then_statement, no_whens, then_when, statements_of, PlainMacro, PlainRule, PlainRules}
use Rattle.ap_rules.specs.Soundness.{Opt, Each, Bounds, IsSoundPiece, IsSoundStatement, AreSoundStatements, AreSoundWhens, bounds_in, npar_in, AreSoundMacros, IsSoundRule, have_chunks}
use Rattle.ap_rules.specs.declared.statement.Place.{Place}
use Rattle.ap_rules.specs.declared.statement.Place.TheVariants as place
use Rattle.ap_stream.specs.declared.TheConstants.{SPAN_MAX}
use Rattle.ap_exec.specs.declared.template.Atom.TheVariants.{Unit as The_unit}
use Rattle.ap_exec.specs.declared.template.Piece.{Piece}
use Rattle.ap_exec.specs.declared.template.Piece.TheVariants.{Atom as The_atom, Chunk}
use Rattle.ap_exec.specs.Acting.{Outcome, outcome, body_of, definitions_of, action_in, action_of, positions_in, started}
use Rattle.ap_exec.specs.Conditions.{holds}
use Rattle.ap_exec.specs.Pieces.{unit_of, units_of, compound, blank_atom, chunk_pieces_of, tags_of, name_of, contents_of, piece_of, pieces_size, added}
use Rattle.ap_exec.specs.Results.{Ran, ◌>>=◌, seen, OutputTooLong}
use Rattle.ap_exec.specs.Running.{Definitions, RunState, sight_of, with_var, with_place, recased_at, placed, outs, places_of, either_of, Calls, run, run_all, run_choice, body_in, body_at, macros_below}
use Rattle.ap_exec.specs.RunningLaws.{IsOfOutput, SoundRulesGive}
use Rattle.ap_exec.specs.Units.{Sight}
use Rattle.ap_exec.specs.Values.{value_of, appended}
use Rattle.ap_exec.proofs.Worded.{each_get, each_append, Then, then_next, then_any}

-- what holds of the pieces alone stays where a place is set
place_leaves : (P : List Piece → Type 0) (w : Definitions) (positions : List (Option ℕ)) (p : Place)
    (value : List Symbol) (s : RunState) → P s.pieces → P (with_place w positions p value s).pieces
place_leaves P w positions (place.Clip c) value s h = h
place_leaves P w positions (place.Var v) value s h = h

in_row : (b : Bounds) (ss : List PlainStatement) → Each (IsSoundStatement b) ss →
    AreSoundStatements b (statements_of ss)
in_row b [] h = tt
in_row b (s ∷ ss) h = (h.0, in_row b ss h.1)

module _ (chunks : Bool) where
  -- the pieces so far are of such an output
  abbrev AreOf : RunState → Type 0
  AreOf s = Each (IsOfOutput chunks) s.pieces

  -- statements that are sound where outputs are so
  abbrev IsBody : PlainStatements → Type 0
  IsBody body = (b : Bounds) × (b.chunks ≡ chunks) × AreSoundStatements b body

  blank_is : (pos : Option ℕ) → IsOfOutput chunks (The_atom (blank_atom pos))
  blank_is None = tt
  blank_is (Some pos) = tt

  piece_is : (b : Bounds) → b.chunks ≡ chunks → (sight : Sight) (p : PlainPiece) →
      IsSoundPiece b p → Then (IsOfOutput chunks) (piece_of sight p)
  piece_is b e sight (blank pos) h = blank_is pos
  piece_is b e sight (unit vs) h =
      then_any (IsOfOutput chunks) (unit_of sight vs) (λ word. Ok (The_atom (The_unit word)))
      (λ word. sym e ∙ h.0)
  piece_is b e sight (units us) h =
      then_any (IsOfOutput chunks) (units_of sight us)
      (λ words. Ok (The_atom (The_unit (compound words)))) (λ words. sym e ∙ h.0)
  piece_is b e sight (chunk c) h =
      then_any (IsOfOutput chunks) (tags_of sight c.tags)
      (λ tags. chunk_pieces_of sight c.pieces >>= λ atoms. Ok
      (Chunk (name_of sight.vars c ++ tags) atoms))
      (λ tags. then_any (IsOfOutput chunks) (chunk_pieces_of sight c.pieces)
      (λ atoms. Ok (Chunk (name_of sight.vars c ++ tags) atoms)) (λ atoms. sym e ∙ h.0))
  piece_is b e sight (value_chunk vs) h =
      then_any (IsOfOutput chunks) (unit_of sight vs)
      (λ name. Ok (Chunk name (contents_of sight vs))) (λ name. sym e ∙ h.0)

  placed_by : (v : Bool) (p : Piece) (s : RunState) → AreOf s → IsOfOutput chunks p
      → Then AreOf ((if v then Ok (s.pieces ++ p ∷ []) else Err OutputTooLong)
      >>= λ pieces. Ok (record s { pieces = pieces }))
  placed_by true p s h k = each_append (IsOfOutput chunks) s.pieces (p ∷ []) h (k, tt)
  placed_by false p s h k = tt

  placed_is : (p : Piece) (s : RunState) → AreOf s → IsOfOutput chunks p → Then AreOf (placed p s)
  unfolding added
  placed_is p s h k = placed_by (nat_le (pieces_size (s.pieces ++ p ∷ [])) SPAN_MAX) p s h k

  outs_are : (b : Bounds) → b.chunks ≡ chunks → (w : Definitions) (positions : List (Option ℕ))
      (ps : List PlainPiece) → Each (IsSoundPiece b) ps → (s : RunState) → AreOf s →
      Then AreOf (outs w positions ps s)
  outs_are b e w positions [] h s k = k
  outs_are b e w positions (p ∷ ps) h s k =
      then_next (IsOfOutput chunks) AreOf (piece_of (sight_of w positions s) p)
      (λ x. placed x s >>= outs w positions ps) (piece_is b e (sight_of w positions s) p h.0)
      (λ x l. then_next AreOf AreOf (placed x s) (outs w positions ps) (placed_is x s k l)
      (outs_are b e w positions ps h.1))

  either : (v : Bool) (first second : Ran RunState) → Then AreOf first → Then AreOf second →
      Then AreOf (either_of v first second)
  either true first second h k = h
  either false first second h k = k

  chosen : (v : Bool) (first second : Ran RunState) → Then AreOf first → Then AreOf second →
      Then AreOf (if v then first else second)
  chosen true first second h k = h
  chosen false first second h k = k

  abbrev CallsGive : Calls → Type 0
  CallsGive calls = (k : ℕ) (positions : List (Option ℕ)) (s : RunState) → AreOf s →
      Then AreOf (calls k positions s)

  module _ (w : Definitions) (calls : Calls) (c : CallsGive calls) (b : Bounds) (e : b.chunks ≡
      chunks)
      (positions : List (Option ℕ)) where
    mutual
      run_gives : (x : PlainStatement) → IsSoundStatement b x → (s : RunState) → AreOf s →
          Then AreOf (run w calls positions x s)
      run_gives (choose whens otherwise) h s k =
          choice_gives whens h.1 (run_all w calls positions otherwise) (all_give otherwise h.2) s k
      run_gives (assign p v) h s k =
          then_any AreOf (value_of (sight_of w positions s) v) (λ x. Ok (with_place w positions p x
          s))
          (λ x. place_leaves (Each (IsOfOutput chunks)) w positions p x s k)
      run_gives (append n vs) h s k =
          then_any AreOf (appended (sight_of w positions s) n (values_of vs))
          (λ x. Ok (with_var n x s)) (λ x. k)
      run_gives (out ps) h s k = outs_are b e w positions ps h s k
      run_gives (modify_case p v) h s k =
          then_any AreOf (value_of (sight_of w positions s) v)
          (λ x. Ok (with_place w positions p (recased_at (sight_of w positions s) p x) s))
          (λ x. place_leaves (Each (IsOfOutput chunks)) w positions p
          (recased_at (sight_of w positions s) p x) s k)
      run_gives (call_macro n params) h s k = c n (places_of positions params) s k

      all_give : (xs : PlainStatements) → AreSoundStatements b xs → (s : RunState) → AreOf s →
          Then AreOf (run_all w calls positions xs s)
      all_give no_statements h s k = k
      all_give (then_statement x more) h s k =
          then_next AreOf AreOf (run w calls positions x s) (run_all w calls positions more)
          (run_gives x h.0 s k) (all_give more h.1)

      choice_gives : (ws : PlainWhens) → AreSoundWhens b ws → (last : RunState → Ran RunState) →
          ((s : RunState) → AreOf s → Then AreOf (last s)) → (s : RunState) → AreOf s →
          Then AreOf (run_choice w calls positions ws last s)
      choice_gives no_whens h last l s k = l s k
      choice_gives (then_when test statements more) h last l s k =
          then_any AreOf (holds (sight_of w positions s) test)
          (λ v. either_of v (run_all w calls positions statements s)
          (run_choice w calls positions more last s))
          (λ v. either v (run_all w calls positions statements s)
          (run_choice w calls positions more last s) (all_give statements h.1 s k)
          (choice_gives more h.2 last l s k))

  -- no statements at all are sound
  abbrev any_bounds : PlainRules → Bounds
  any_bounds r = record (bounds_in r [] (reach_to r.form 0)) { chunks = chunks }

  body_is : PlainRules → (o : Option PlainStatements) → Opt IsBody o → IsBody (body_in o)
  body_is r None h = (any_bounds r, refl, tt)
  body_is r (Some body) h = h

  body_gives : (w : Definitions) (calls : Calls) → CallsGive calls → (positions : List (Option ℕ))
      (body : PlainStatements) → IsBody body → (s : RunState) → AreOf s →
      Then AreOf (run_all w calls positions body s)
  body_gives w calls c positions body h s k = all_give w calls c h.0 h.1 positions body h.2 s k

  macros_gives : PlainRules → (w : Definitions) → Each IsBody w.bodies → (macros : ℕ) →
      CallsGive (macros_below w macros)
  macros_gives r w h zero n positions s k = k
  macros_gives r w h (suc m) n positions s k =
      chosen (n == m) (run_all w (macros_below w m) positions (body_at w m) s) (macros_below w m n
      positions s)
      (body_gives w (macros_below w m) (macros_gives r w h m) positions (body_at w m)
      (body_is r (slice_get w.bodies m) (each_get IsBody w.bodies m h)) s k)
      (macros_gives r w h m n positions s k)

  ends : (r : Ran RunState) (o : Outcome) → Then AreOf r → seen outcome r ≡ Ok o →
      Each (IsOfOutput chunks) o.pieces
  ends (Ok t) o h e =
      let same : outcome t ≡ o = cc in
      subst (λ (x : Outcome). Each (IsOfOutput chunks) x.pieces) same h
  ends (Err x) o h e = cc

macros_are : (r : PlainRules) (npars : List ℕ) (ms : List PlainMacro) →
    AreSoundMacros r npars ms → Each (IsBody (have_chunks r.form r.default)) (map body_of ms)
macros_are r npars [] h = tt
macros_are r npars (m ∷ ms) h =
    let b = bounds_in r npars (reach_to r.form m.npar) in (
      (b, refl, in_row b m.statements h.1),
      macros_are r (npars ++ m.npar ∷ []) ms h.2,
    )

action_is : (r : PlainRules) (o : Option PlainRule) → Opt (IsSoundRule r) o →
    IsBody (have_chunks r.form r.default) (action_in o)
action_is r None h = (any_bounds (have_chunks r.form r.default) r, refl, tt)
action_is r (Some rule) h =
    let b = bounds_in r (map npar_in r.macros) (rule_reach r.form (length rule.pattern)) in
    (b, refl, in_row b rule.action h.action)

pub sound_rules_give : SoundRulesGive
sound_rules_give r n m vars o sound e =
    let chunks = have_chunks r.form r.default in
    let w = definitions_of r in
    let calls = macros_gives chunks r w (macros_are r [] r.macros sound.macros)
    (length r.macros) in
    ends chunks (run_all w (macros_below w (length r.macros)) (positions_in m.chunk (length
    m.units))
    (action_of r n) (started m vars)) o
    (body_gives chunks w (macros_below w (length r.macros)) calls
    (positions_in m.chunk (length m.units)) (action_of r n)
    (action_is r (slice_get r.rules n) (each_get (IsSoundRule r) r.rules n sound.rules))
    (started m vars) tt) e
