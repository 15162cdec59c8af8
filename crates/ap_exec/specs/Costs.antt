-- Of the inside: no public contract stands on this file.
-- How many steps there may be to run, for the proof that a run ends: each call counts with all that
-- it calls.
use Rattle.std.specs.Prelude.{ℕ, zero, suc, ◌+◌, ◌==◌, if◌then◌else◌}
use Rattle.ap_rules.specs.Plain.{PlainStatement, PlainStatements, PlainWhens, choose, assign, append, out, modify_case, call_macro, no_statements, then_statement, no_whens, then_when}
use Rattle.ap_exec.specs.Running.{Definitions, body_at}

abbrev mutual
  pub cost_one : (ℕ → ℕ) → PlainStatement → ℕ
  cost_one calls (choose whens otherwise) = cost_whens calls whens + cost_all calls otherwise + 2
  cost_one calls (assign p v) = 1
  cost_one calls (append n vs) = 1
  cost_one calls (out pieces) = 1
  cost_one calls (modify_case p v) = 1
  cost_one calls (call_macro n params) = calls n + 2

  pub cost_all : (ℕ → ℕ) → PlainStatements → ℕ
  cost_all calls no_statements = 0
  cost_all calls (then_statement x more) = cost_one calls x + cost_all calls more

  pub cost_whens : (ℕ → ℕ) → PlainWhens → ℕ
  cost_whens calls no_whens = 0
  cost_whens calls (then_when test statements more) =
      cost_all calls statements + cost_whens calls more

-- of a macro, where only the first so many may be called
abbrev pub macro_cost : Definitions → ℕ → ℕ → ℕ
macro_cost w zero k = 0
macro_cost w (suc n) k = if k == n then cost_all (macro_cost w n) (body_at w n)
    else macro_cost w n k
