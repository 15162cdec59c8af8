-- Statements add pieces to the output behind those that stand there, and an output that is within
-- its limit stays so.
use Rattle.std.proofs.Common.{◌≡◌, ℕ, zero, suc, ◌+◌, ◌-◌, ◌==◌, ◌<◌, ◌≤◌, nat_le, Bool, true, false, if◌then◌else◌, List, [], ◌∷◌, ◌++◌, refl, ap, sym, ◌∙◌, append_assoc, append-nil, length, subst, arith, rules, Some, None, Ok, Err}
use Rattle.std.specs.Prelude.{◌↔◌}
use Rattle.std.proofs.lemmas.Bool.Decides.{nat_tests}
use Rattle.ap_symbol.specs.declared.symbol.Symbol.{Symbol}
use Rattle.ap_stream.specs.declared.TheConstants.{SPAN_MAX}
use Rattle.ap_rules.specs.Plain.{PlainPiece, values_of, PlainStatement, PlainStatements, PlainWhens, choose, assign, append, out, modify_case, call_macro, no_statements, then_statement, no_whens, then_when}
use Rattle.ap_rules.specs.declared.statement.Place.{Place}
use Rattle.ap_rules.specs.declared.statement.Place.TheVariants as place
use Rattle.ap_exec.specs.declared.template.Piece.{Piece}
use Rattle.ap_exec.specs.Acting.{Outcome, outcome, definitions_of, action_of, positions_in, started}
use Rattle.ap_exec.specs.Conditions.{holds}
use Rattle.ap_exec.specs.Pieces.{piece_of, piece_size, pieces_size, added}
use Rattle.ap_exec.specs.Results.{Ran, ◌>>=◌, seen, OutputTooLong}
use Rattle.ap_exec.specs.Running.{Definitions, RunState, sight_of, with_var, with_place, recased_at, placed, outs, places_of, either_of, Calls, run, run_all, run_choice, body_at, macros_below}
use Rattle.ap_exec.specs.SizeLaws.{PiecesAreAdded, LimitIsBySizes, OutputsAreWithin}
use Rattle.ap_exec.specs.Units.{Positions}
use Rattle.ap_exec.specs.Values.{value_of, appended}

-- these pieces stand behind those, and are within the limit where those are
pub record Behind (ps qs : List Piece) : Type 0 where
  pub more : List Piece
  pub is : qs ≡ ps ++ more
  pub within : pieces_size ps ≤ SPAN_MAX → pieces_size qs ≤ SPAN_MAX

-- where a run gives a state, its pieces do
abbrev Adds : List Piece → Ran RunState → Type 0
Adds n (Ok t) = Behind n t.pieces
Adds n (Err e) = Unit {0}

after : {A : Type 0} (n : List Piece) (r : Ran A) (f : A → Ran RunState) →
    ((x : A) → Adds n (f x)) → Adds n (r >>= f)
after n (Ok x) f h = h x
after n (Err e) f h = tt

next : (n : List Piece) (r : Ran RunState) (f : RunState → Ran RunState) → Adds n r →
    ((t : RunState) → Behind n t.pieces → Adds n (f t)) → Adds n (r >>= f)
next n (Ok t) f was h = h t was
next n (Err e) f was h = tt

chosen : (n : List Piece) (b : Bool) (first second : Ran RunState) → Adds n first →
    Adds n second → Adds n (if b then first else second)
chosen n true first second a b = a
chosen n false first second a b = b

either : (n : List Piece) (b : Bool) (first second : Ran RunState) → Adds n first → Adds n second →
    Adds n (either_of b first second)
either n true first second a b = a
either n false first second a b = b

pub size_more : (ps : List Piece) (p : Piece) → pieces_size (ps ++ p ∷ [])
    ≡ pieces_size ps + piece_size p
size_more [] p = omega arith
size_more (q ∷ ps) p = ap (λ (n : ℕ). piece_size q + n) (size_more ps p) ∙ (omega arith)

le_of : (m n : ℕ) → nat_le m n ≡ true → m ≤ n
le_of m n h = search rules

placed_by : (b : Bool) (n : List Piece) (p : Piece) (s : RunState) → Behind n s.pieces →
    nat_le (pieces_size (s.pieces ++ p ∷ [])) SPAN_MAX ≡ b
    → Adds n ((if b then Ok (s.pieces ++ p ∷ []) else Err OutputTooLong)
    >>= λ pieces. Ok (record s { pieces = pieces }))
placed_by true n p s e h = record {
  more = e.more ++ p ∷ [];
  is = ap (λ (qs : List Piece). qs ++ p ∷ []) e.is ∙ append_assoc n e.more (p ∷ []);
  within = λ _. le_of (pieces_size (s.pieces ++ p ∷ [])) SPAN_MAX h;
}
placed_by false n p s e h = tt

placed_adds : (n : List Piece) (p : Piece) (s : RunState) → Behind n s.pieces →
    Adds n (placed p s)
unfolding added
placed_adds n p s e =
    placed_by (nat_le (pieces_size (s.pieces ++ p ∷ [])) SPAN_MAX) n p s e refl

outs_adds : (w : Definitions) (positions : Positions) (ps : List PlainPiece)
    (n : List Piece) (s : RunState) → Behind n s.pieces → Adds n (outs w positions ps s)
outs_adds w positions [] n s e = e
outs_adds w positions (p ∷ ps) n s e =
    after n (piece_of (sight_of w positions s) p) (λ x. placed x s >>= outs w positions ps)
    (λ x. next n (placed x s) (outs w positions ps) (placed_adds n x s e)
    (λ t was. outs_adds w positions ps n t was))

place_adds : (w : Definitions) (positions : Positions) (p : Place) (x : List Symbol)
    (n : List Piece) (s : RunState) → Behind n s.pieces →
    Behind n (with_place w positions p x s).pieces
place_adds w positions (place.Clip c) x n s e = e
place_adds w positions (place.Var v) x n s e = e

-- what macros do adds pieces
abbrev CallsAdd : Calls → Type 0
CallsAdd calls = (k : ℕ) (positions : Positions) (n : List Piece) (s : RunState) →
    Behind n s.pieces →
    Adds n (calls k positions s)

mutual
  run_adds : (w : Definitions) (calls : Calls) → CallsAdd calls →
      (positions : Positions) (x : PlainStatement) (n : List Piece) (s : RunState) →
      Behind n s.pieces →
      Adds n (run w calls positions x s)
  run_adds w calls c positions (choose whens otherwise) n s e =
      choice_adds w calls c positions whens (run_all w calls positions otherwise) n
      (λ t was. all_adds w calls c positions otherwise n t was) s e
  run_adds w calls c positions (assign p v) n s e =
      after n (value_of (sight_of w positions s) v) (λ x. Ok (with_place w positions p x s))
      (λ x. place_adds w positions p x n s e)
  run_adds w calls c positions (append v vs) n s e =
      after n (appended (sight_of w positions s) v (values_of vs)) (λ x. Ok (with_var v x s)) (λ x.
      e)
  run_adds w calls c positions (out ps) n s e = outs_adds w positions ps n s e
  run_adds w calls c positions (modify_case p v) n s e =
      after n (value_of (sight_of w positions s) v)
      (λ x. Ok (with_place w positions p (recased_at (sight_of w positions s) p x) s))
      (λ x. place_adds w positions p (recased_at (sight_of w positions s) p x) n s e)
  run_adds w calls c positions (call_macro k params) n s e = c k (places_of positions params) n s e

  all_adds : (w : Definitions) (calls : Calls) → CallsAdd calls →
      (positions : Positions) (xs : PlainStatements) (n : List Piece) (s : RunState) →
      Behind n s.pieces →
      Adds n (run_all w calls positions xs s)
  all_adds w calls c positions no_statements n s e = e
  all_adds w calls c positions (then_statement x more) n s e =
      next n (run w calls positions x s) (run_all w calls positions more) (run_adds w calls c
      positions x n s e)
      (λ t was. all_adds w calls c positions more n t was)

  choice_adds : (w : Definitions) (calls : Calls) → CallsAdd calls →
      (positions : Positions) (ws : PlainWhens) (last : RunState → Ran RunState) (n : List Piece) →
      ((t : RunState) → Behind n t.pieces → Adds n (last t)) → (s : RunState) →
      Behind n s.pieces →
      Adds n (run_choice w calls positions ws last s)
  choice_adds w calls c positions no_whens last n l s e = l s e
  choice_adds w calls c positions (then_when test statements more) last n l s e =
      after n (holds (sight_of w positions s) test)
      (λ b. either_of b (run_all w calls positions statements s)
      (run_choice w calls positions more last s))
      (λ b. either n b (run_all w calls positions statements s) (run_choice w calls positions more
      last s)
      (all_adds w calls c positions statements n s e)
      (choice_adds w calls c positions more last n l s e))

macros_adds : (w : Definitions) (macros : ℕ) → CallsAdd (macros_below w macros)
macros_adds w zero k positions n s e = e
macros_adds w (suc m) k positions n s e =
    chosen n (k == m) (run_all w (macros_below w m) positions (body_at w m) s) (macros_below w m k
    positions s)
    (all_adds w (macros_below w m) (macros_adds w m) positions (body_at w m) n s e)
    (macros_adds w m k positions n s e)

of_adds : (n : List Piece) (r : Ran RunState) (t : RunState) → Adds n r → r ≡ Ok t →
    Behind n t.pieces
of_adds n (Ok u) t h e =
    let same : u ≡ t = cc in subst (λ (x : RunState). Behind n x.pieces) same h
of_adds n (Err x) t h e = cc

none_behind : (ps : List Piece) → Behind ps ps
none_behind ps = record { more = []; is = sym (append-nil ps); within = λ h. h }

whole_adds : (w : Definitions) (macros : ℕ) (positions : Positions) (body : PlainStatements)
    (s t : RunState) → run_all w (macros_below w macros) positions body s ≡ Ok t →
    Behind s.pieces t.pieces
whole_adds w macros positions body s t e =
    of_adds s.pieces (run_all w (macros_below w macros) positions body s) t
    (all_adds w (macros_below w macros) (macros_adds w macros) positions body s.pieces s
    (none_behind s.pieces)) e

pub pieces_are_added : PiecesAreAdded
pieces_are_added w macros positions body s t e =
    let adds = whole_adds w macros positions body s t e in (adds.more, adds.is)

given : (r : Ran RunState) (o : Outcome) → seen outcome r ≡ Ok o →
    (t : RunState) × ((r ≡ Ok t) × (o ≡ outcome t))
given (Ok t) o e = (t, (refl, let same : outcome t ≡ o = cc in sym same))
given (Err x) o e = cc

pub outputs_are_within : OutputsAreWithin
outputs_are_within r n m vars o e =
    let w = definitions_of r in
    let begin = started m vars in
    let g = given (run_all w (macros_below w (length r.macros))
    (positions_in m.chunk (length m.units)) (action_of r n) begin) o e in
    let adds = whole_adds w (length r.macros) (positions_in m.chunk (length m.units))
    (action_of r n) begin g.0 g.1.0 in
    let within : pieces_size g.0.pieces ≤ SPAN_MAX = adds.within (omega arith) in
    omega (arith, within, ap (λ (x : Outcome). pieces_size x.pieces) g.1.1)

-- a piece is too long by the sizes of the pieces with it
past_of : (m n : ℕ) → nat_le m n ≡ false → n < m
past_of m n h = grind (arith, nat_tests)

no_error : (t : RunState) → ◌≡◌ {A = Ran RunState} (Ok t) (Err OutputTooLong) → ⊥
no_error t e = cc

limit_by : (b : Bool) (n : ℕ) (ps : List Piece) (s : RunState) → nat_le n SPAN_MAX ≡ b →
    (◌≡◌ {A = Ran RunState} ((if b then Ok ps else Err OutputTooLong)
    >>= λ pieces. Ok (record s { pieces = pieces })) (Err OutputTooLong)) ↔ (SPAN_MAX < n)
limit_by true n ps s h = (
  λ k. absurd (no_error _ k),
  λ lt. absurd (omega (arith, le_of n SPAN_MAX h, lt)),
)
limit_by false n ps s h = (λ k. past_of n SPAN_MAX h, λ lt. refl)

pub limit_is_by_sizes : LimitIsBySizes
unfolding added
limit_is_by_sizes s p = limit_by (nat_le (pieces_size (s.pieces ++ p ∷ [])) SPAN_MAX)
    (pieces_size (s.pieces ++ p ∷ [])) (s.pieces ++ p ∷ []) s refl

-- a piece fits an output by the bytes that may still come
same_test : (a b m n : ℕ) → (a ≤ b → m ≤ n) → (m ≤ n → a ≤ b) → nat_le a b ≡ nat_le m n
same_test a b m n to back = grind (arith, nat_tests)

pub fits_is : (room : ℕ) (ps : List Piece) (p : Piece) → room + pieces_size ps ≡ SPAN_MAX →
    nat_le (pieces_size (ps ++ p ∷ [])) SPAN_MAX ≡ nat_le (piece_size p) room
fits_is room ps p h =
    let more = size_more ps p in
    same_test (pieces_size (ps ++ p ∷ [])) SPAN_MAX (piece_size p) room
    (λ le. omega (arith, h, more, le)) (λ le. omega (arith, h, more, le))

-- and those that may still come behind it
pub room_left : (room left : ℕ) (ps qs : List Piece) (p : Piece) → room + pieces_size ps ≡ SPAN_MAX
    → (if nat_le (piece_size p) room then Some (room - piece_size p) else None) ≡ Some left →
    qs ≡ ps ++ p ∷ [] → left + pieces_size qs ≡ SPAN_MAX
room_left room left ps qs p was less new =
    let l = by (nat_le (piece_size p) room) refl less in
    omega (arith, was, size_more ps p, ap pieces_size new, l.0, l.1)
  where
    by : (b : Bool) → nat_le (piece_size p) room ≡ b →
        (if b then Some (room - piece_size p) else None) ≡ Some left →
        (left ≡ room - piece_size p) × (piece_size p ≤ room)
    by true e h = (
      let same : room - piece_size p ≡ left = cc in sym same,
      le_of (piece_size p) room e,
    )
    by false e h = absurd (cc)
