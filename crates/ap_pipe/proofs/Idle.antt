-- Laws of stages that wait for more to come in.
use Rattle.std.proofs.Common.{arith, ap, ◌∙◌, sym, inl, inr, ◌≡◌, ℕ, zero, suc, ◌<◌, List, [], ◌∷◌, map, length, Bool, true, false, cond, eqb, refl, get_or, slice_set}
use Rattle.std.proofs.lemmas.Bool.Decides.{nat_tests}
use Rattle.ap_stream.specs.Piped.{Piped}
use Rattle.ap_stream.specs.Told.{Ending, Clean, cut_told}
use Rattle.ap_stream.specs.declared.stage.Stage.{Ghosts}
use Rattle.ap_pipe.specs.declared.station.State.{State}
use Rattle.ap_pipe.specs.declared.station.State.TheVariants.{Open, Over, Faulty}
use Rattle.ap_pipe.specs.declared.station.Station.{Station}
use Rattle.ap_pipe.specs.Row.{is_stopped, joined, row_rest, meaning}
use Rattle.ap_pipe.specs.Ranking.{numbers}
use Rattle.ap_pipe.specs.Bytes.{bytes_in}
use Rattle.ap_pipe.specs.Idle.{idle, all_idle, held_in, CanGoOn, Waits, AllWait, Answered}

-- the three tests of `idle`
test_parts : (a b c d : Bool) → cond (cond a false b) (cond c d false) false ≡ true →
    (a ≡ false) × (b ≡ true) × (c ≡ true) × (d ≡ true)
test_parts true b c d h = cc
test_parts false true true true h = (refl, refl, refl, refl)
test_parts false true true false h = cc
test_parts false true false d h = cc
test_parts false false c d h = cc

both : (a b : Bool) → cond a b false ≡ true → (a ≡ true) × (b ≡ true)
both true true h = (refl, refl)
both true false h = cc
both false b h = cc

is_false : (b : Bool) → (b ≡ true → ⊥) → b ≡ false
is_false true h = absurd (h refl)
is_false false h = refl

nil_is : (xs : List ℕ) → eqb (length xs) 0 ≡ true → xs ≡ []
nil_is [] h = refl
nil_is (x ∷ xs) h = absurd (grind (arith, nat_tests))

open_is : (state : State) → is_stopped state ≡ false → state ≡ Open
open_is Open h = refl
open_is Over h = cc
open_is (Faulty f) h = cc

module _ {S : Type 0} (stage : Ghosts S) where
  pub idle_waits : (s : Station S) → idle stage s ≡ true → Waits stage s
  idle_waits s h = let t = test_parts (is_stopped s.state) _ _ _ h in record {
    goes = open_is s.state t.0;
    pending = nil_is _ t.1;
    input = nil_is _ t.2;
    output = nil_is _ t.3;
  }

  pub waits_idle : (s : Station S) → Waits stage s → idle stage s ≡ true
  waits_idle s h = rw (h.goes, h.pending, h.input, h.output) refl

  pub all_waits : (ss : List (Station S)) → all_idle stage ss ≡ true → AllWait stage ss
  all_waits [] h = tt
  all_waits (s ∷ ss) h = let b = both _ _ h in (idle_waits s b.0, all_waits ss b.1)

  pub wait_idle : (ss : List (Station S)) → AllWait stage ss → all_idle stage ss ≡ true
  wait_idle [] h = refl
  wait_idle (s ∷ ss) h = rw (waits_idle s h.0) (wait_idle ss h.1)

  moves : (ss : List (Station S)) → CanGoOn stage ss → AllWait stage ss → ⊥
  moves [] h k = absurd h
  moves (s ∷ ss) (inl h) k = absurd (omega (arith, h, ap length k.0.pending))
  moves (s ∷ ss) (inr (inl h)) k = absurd (omega (arith, h, ap length k.0.input))
  moves (s ∷ ss) (inr (inr (inl h))) k = absurd (omega (arith, h, ap length k.0.output))
  moves (s ∷ ss) (inr (inr (inr (inl h)))) k = let e = k.0.goes in cc (sym h ∙ ap is_stopped e)
  moves (s ∷ ss) (inr (inr (inr (inr h)))) k = moves ss h k.1

  -- a row in which something goes on doesn't wait
  pub goes_on : (ss : List (Station S)) → CanGoOn stage ss → all_idle stage ss ≡ false
  goes_on ss h = is_false (all_idle stage ss) (λ e. moves ss h (all_waits ss e))

  -- a row into which bytes came doesn't wait
  pub fed_goes : (ss : List (Station S)) (d : Station S) → 0 < length ss →
      0 < length (get_or ss 0 d).input.bytes → all_idle stage ss ≡ false
  fed_goes [] d some h = absurd (omega arith)
  fed_goes (s ∷ ss) d some h = goes_on (s ∷ ss) (inr (inl h))

  bytes_held : (ss : List (Station S)) → AllWait stage ss → bytes_in stage ss ≡ held_in stage ss
  bytes_held [] h = refl
  bytes_held (s ∷ ss) h = omega (
    arith,
    ap length h.0.pending,
    ap length h.0.input,
    ap length h.0.output,
    bytes_held ss h.1,
  )

  alone : (n : ℕ) (ss : List (Station S)) (x : List ℕ) (e : Ending) → AllWait stage ss →
      row_rest stage n ss x e ≡ meaning n (map (λ s. stage.rest s.stage) ss) x e
  alone n [] x e h = refl
  alone n (s ∷ ss) x e h =
      rw (h.0.input, h.0.output)
      (ap (joined n (cut_told e (stage.rest s.stage x e)).fault)
      (alone (suc n) ss (cut_told e (stage.rest s.stage x e)).text Clean h.1))

  answered : (ss : List (Station S)) → all_idle stage ss ≡ true → Answered stage ss
  answered ss h =
      let w = all_waits ss h in
      record { each = w; bytes = bytes_held ss w; to_come = λ n x e. alone n ss x e w }

  -- a row into which more bytes came had answered
  pub answered_by : (ss : List (Station S)) (taken taken' : ℕ) →
      (all_idle stage ss ≡ false → taken' ≡ taken) → taken < taken' → Answered stage ss
  answered_by ss taken taken' still more = by (all_idle stage ss) refl
    where
      by : (b : Bool) → all_idle stage ss ≡ b → Answered stage ss
      by true e = answered ss e
      by false e = absurd (omega (arith, still e, more))

  -- a give that gave nothing left the stage and its pipes as they were
  pub idle_same : (s s' : Station S) →
      numbers stage s' ≡ numbers stage s → s'.state ≡ s.state → s'.input ≡ s.input →
      idle stage s' ≡ idle stage s
  idle_same s s' o st i =
      let p : length (stage.pending s'.stage) ≡ length (stage.pending s.stage) =
      ap (λ ns. get_or ns 3 0) o in
      let q : length s'.output.bytes ≡ length s.output.bytes = ap (λ ns. get_or ns 4 0) o in
      rw (st, i, p, q) refl

  pub idle_set : (ss : List (Station S)) (k : ℕ) (d s' : Station S) →
      idle stage s' ≡ idle stage (get_or ss k d) → all_idle stage (slice_set ss k s')
      ≡ all_idle stage ss
  idle_set [] k d s' e = refl
  idle_set (s ∷ ss) zero d s' e = ap (λ b. cond b (all_idle stage ss) false) e
  idle_set (s ∷ ss) (suc k) d s' e =
      ap (λ b. cond (idle stage s) b false) (idle_set ss k d s' e)

  -- only the bytes of a pipe count
  pub idle_input : (s : Station S) (input : Piped) → input.bytes ≡ s.input.bytes →
      idle stage (record s { input = input }) ≡ idle stage s
  idle_input s input e = rw e refl
