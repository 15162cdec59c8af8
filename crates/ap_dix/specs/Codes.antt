-- Expressions can be told apart: each is kept as the list of steps that build it. Such a code holds
-- the proof that the steps give the expression back.
use Rattle.std.specs.Prelude.{◌≡◌, ◌⊎◌, ℕ, zero, suc, List, [], ◌∷◌, refl}
use Rattle.std.specs.Coded.{Coded, code_by, coded×, coded⊎, coded_ℕ, coded_list}
use mathlib.Core.Logic.{inl, inr}
use Rattle.ap_symbol.specs.contracts.symbol.Symbol as symbols
use Rattle.ap_symbol.specs.declared.symbol.Symbol.{Symbol}
use Rattle.ap_symbol.specs.declared.symbol.Symbol.TheVariants.{Blank}
use Rattle.ap_dix.specs.Forms.{Form, Forms, one, class, sequence, either, star, plus, opt, no_forms, then_form}
use Rattle.ap_dix.specs.declared.expr.Range.{Range}

-- a step: a symbol, a class, or what is done with what was built last
pub data Op : Type 0 where
  symbol : Symbol → Op
  ranges : List Range → Op
  nothing : Op
  before : Op
  all : Op
  some : Op
  any_number : Op
  at_least_once : Op
  at_most_once : Op

abbrev mutual
  pub steps : Form → List Op → List Op
  steps (one s) ops = symbol s ∷ ops
  steps (class rs) ops = ranges rs ∷ ops
  steps (sequence fs) ops = steps_all fs (all ∷ ops)
  steps (either fs) ops = steps_all fs (some ∷ ops)
  steps (star f) ops = steps f (any_number ∷ ops)
  steps (plus f) ops = steps f (at_least_once ∷ ops)
  steps (opt f) ops = steps f (at_most_once ∷ ops)

  pub steps_all : Forms → List Op → List Op
  steps_all no_forms ops = nothing ∷ ops
  steps_all (then_form f fs) ops = steps_all fs (steps f (before ∷ ops))

abbrev pub alone : Form → Forms
alone f = then_form f no_forms

abbrev pub first_or : Forms → Form
first_or no_forms = one Blank
first_or (then_form f fs) = f

abbrev pub with_first : (Form → Form) → List Forms → List Forms
with_first make [] = []
with_first make (fs ∷ below) = alone (make (first_or fs)) ∷ below

abbrev pub with_all : (Forms → Form) → List Forms → List Forms
with_all make [] = []
with_all make (fs ∷ below) = alone (make fs) ∷ below

abbrev pub with_before : List Forms → List Forms
with_before [] = []
with_before (f ∷ []) = []
with_before (f ∷ fs ∷ below) = then_form (first_or f) fs ∷ below

abbrev pub built : List Op → List Forms → List Forms
built [] stack = stack
built (symbol s ∷ ops) stack = built ops (alone (one s) ∷ stack)
built (ranges rs ∷ ops) stack = built ops (alone (class rs) ∷ stack)
built (nothing ∷ ops) stack = built ops (no_forms ∷ stack)
built (before ∷ ops) stack = built ops (with_before stack)
built (all ∷ ops) stack = built ops (with_all sequence stack)
built (some ∷ ops) stack = built ops (with_all either stack)
built (any_number ∷ ops) stack = built ops (with_first star stack)
built (at_least_once ∷ ops) stack = built ops (with_first plus stack)
built (at_most_once ∷ ops) stack = built ops (with_first opt stack)

mutual
  pub built-steps : (f : Form) (ops : List Op) (stack : List Forms) → built (steps f ops) stack
      ≡ built ops (alone f ∷ stack)
  built-steps (one s) ops stack = refl
  built-steps (class rs) ops stack = refl
  built-steps (sequence fs) ops stack = built-steps_all fs (all ∷ ops) stack
  built-steps (either fs) ops stack = built-steps_all fs (some ∷ ops) stack
  built-steps (star f) ops stack = built-steps f (any_number ∷ ops) stack
  built-steps (plus f) ops stack = built-steps f (at_least_once ∷ ops) stack
  built-steps (opt f) ops stack = built-steps f (at_most_once ∷ ops) stack

  pub built-steps_all : (fs : Forms) (ops : List Op) (stack : List Forms) →
      built (steps_all fs ops) stack ≡ built ops (fs ∷ stack)
  built-steps_all no_forms ops stack = refl
  built-steps_all (then_form f fs) ops stack =
      rw (built-steps_all fs (steps f (before ∷ ops)) stack)
      (built-steps f (before ∷ ops) (fs ∷ stack))

abbrev pub top_of : List Forms → Form
top_of [] = one Blank
top_of (fs ∷ below) = first_or fs

abbrev pub form_of : List Op → Form
form_of ops = top_of (built ops [])

abbrev pub steps_of : Form → List Op
steps_of f = steps f []

pub form_of-steps : (f : Form) → form_of (steps_of f) ≡ f
form_of-steps f = rw (built-steps f [] []) refl

-- a step by its number
abbrev pub split : Op → Symbol ⊎ (List Range ⊎ ℕ)
split (symbol s) = inl s
split (ranges rs) = inr (inl rs)
split nothing = inr (inr 0)
split before = inr (inr 1)
split all = inr (inr 2)
split some = inr (inr 3)
split any_number = inr (inr 4)
split at_least_once = inr (inr 5)
split at_most_once = inr (inr 6)

abbrev pub numbered : ℕ → Op
numbered zero = nothing
numbered (suc zero) = before
numbered (suc (suc zero)) = all
numbered (suc (suc (suc zero))) = some
numbered (suc (suc (suc (suc zero)))) = any_number
numbered (suc (suc (suc (suc (suc zero))))) = at_least_once
numbered (suc (suc (suc (suc (suc (suc n)))))) = at_most_once

abbrev pub joined : Symbol ⊎ (List Range ⊎ ℕ) → Op
joined (inl s) = symbol s
joined (inr (inl rs)) = ranges rs
joined (inr (inr n)) = numbered n

pub joined-split : (op : Op) → joined (split op) ≡ op
joined-split (symbol s) = refl
joined-split (ranges rs) = refl
joined-split nothing = refl
joined-split before = refl
joined-split all = refl
joined-split some = refl
joined-split any_number = refl
joined-split at_least_once = refl
joined-split at_most_once = refl

abbrev pub range_code : Coded Range
range_code = code_by (ℕ × ℕ) (coded× coded_ℕ coded_ℕ) (λ r. (r.first, r.last))
    (λ p. record { first = p.0; last = p.1 }) (λ _. refl)

abbrev pub op_code : Coded Op
op_code = code_by (Symbol ⊎ (List Range ⊎ ℕ))
    (coded⊎ symbols.the_row.coded (coded⊎ (coded_list range_code) coded_ℕ)) split
    joined joined-split

abbrev pub form_code : Coded Form
form_code = code_by (List Op) (coded_list op_code) steps_of form_of form_of-steps
