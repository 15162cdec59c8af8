-- A variable that holds a value stays as it is where it is set to it.
use Rattle.std.proofs.Common.{◌≡◌, ℕ, zero, suc, List, [], ◌∷◌, refl, ap, sym, ◌∙◌, true, false, set, Ok}
use Rattle.std.specs.List.{slice_get}
use Rattle.ap_symbol.specs.declared.symbol.Symbol.{Symbol}
use Rattle.ap_rules.specs.Plain.{PlainValue, assign}
use Rattle.ap_rules.specs.declared.statement.Place.{Place}
use Rattle.ap_exec.specs.Comparing.{same_words}
use Rattle.ap_exec.specs.Results.{◌>>=◌}
use Rattle.ap_exec.specs.Running.{Definitions, RunState, Calls, run, sight_of, with_place, with_var}
use Rattle.ap_exec.specs.Setting.{IsHeld}
use Rattle.ap_exec.specs.Units.{Sight, var_at}
use Rattle.ap_exec.specs.Values.{value_of}
use Rattle.ap_exec.proofs.WordLaws.{same_to}

set_itself : (vars : List (List Symbol)) (n : ℕ) → set vars n (var_at (slice_get vars n)) ≡ vars
set_itself [] n = refl
set_itself (word ∷ vars) zero = refl
set_itself (word ∷ vars) (suc n) = ap (λ (z : List (List Symbol)). word ∷ z) (set_itself vars n)

pub held_words : (sight : Sight) (n : ℕ) (value : PlainValue) (word held : List Symbol) →
    value_of sight value ≡ Ok word → held ≡ var_at (slice_get sight.vars n) →
    same_words false word held ≡ true →
    value_of sight value ≡ Ok (var_at (slice_get sight.vars n))
held_words sight n value word held gives is same =
    gives ∙ ap (λ (z : List Symbol). Ok z) (same_to false word held same ∙ is)

pub held_stays : (w : Definitions) (calls : Calls) (positions : List _) (p : Place) (v : PlainValue)
    (s : RunState) →
    IsHeld (sight_of w positions s) p v → run w calls positions (assign p v) s ≡ Ok s
held_stays w calls positions p v s h =
    rw (h.is, h.gives) (ap (λ (vars : List (List Symbol)). Ok (record s { vars = vars }))
    (set_itself s.vars h.var.n))
