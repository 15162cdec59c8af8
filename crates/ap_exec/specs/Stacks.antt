-- Of the inside: no public contract stands on this file.
-- What a stack of frames stands for: the innermost frame is run first, and then those below it.
use Rattle.std.specs.Prelude.{◌≡◌, ℕ, ◌+◌, ◌-◌, ◌≤◌, List, [], ◌∷◌, length, take, drop, Result, Ok, Err}
use Rattle.ap_rules.specs.Plain.{PlainStatement, PlainStatements, statements_of}
use Rattle.ap_rules.specs.Views.{plain_statements}
use Rattle.ap_rules.specs.declared.statement.Statement.{Statement}
use Rattle.ap_exec.specs.Costs.{cost_all, macro_cost}
use Rattle.ap_exec.specs.Results.{Ran, ◌>>=◌, Fails}
use Rattle.ap_exec.specs.Running.{Definitions, RunState, run, run_all, macros_below}
use Rattle.ap_exec.specs.Units.{Positions}
use Rattle.ap_exec.specs.declared.refusal.ExecRefusal.{ExecRefusal}
use Rattle.ap_exec.specs.declared.stack.Frame.{Frame}
use Rattle.ap_exec.specs.declared.stack.Scope.{Scope}
use Rattle.ap_exec.specs.declared.stack.Stack.{Stack}

-- the part of a list from one place up to another
abbrev pub between : ℕ → ℕ → Positions → Positions
between from to positions = take (to - from) (drop from positions)

-- which unit stands at each position of a body
abbrev pub positions_within : Positions → Scope → Positions
positions_within positions scope = between scope.from scope.to positions

abbrev pub body_of : List Statement → PlainStatements
body_of statements = statements_of (plain_statements statements)

abbrev pub run_rest : Definitions → Positions → Scope → List Statement → RunState → Ran RunState
run_rest w positions scope rest s =
    run_all w (macros_below w scope.visible) (positions_within positions scope) (body_of rest) s

-- the last frame is run first
abbrev pub unwound : Definitions → Positions → List Frame → RunState → Ran RunState
unwound w positions [] s = Ok s
unwound w positions (f ∷ frames) s =
    unwound w positions frames s >>= run_rest w positions f.scope f.rest.now

-- all that is left to run
abbrev pub left : Definitions → Stack → RunState → Ran RunState
left w stack s = unwound w stack.positions.items stack.frames.items s

-- these statements are run, and then what the stack holds
abbrev pub rest_first : Definitions → Stack → Scope → List Statement → RunState → Ran RunState
rest_first w stack scope rest s = run_rest w stack.positions.items scope rest s >>= left w stack

-- this statement is run, and then what the stack holds
abbrev pub one_first : Definitions → Stack → Scope → PlainStatement → RunState → Ran RunState
one_first w stack scope x s =
    run w (macros_below w scope.visible) (positions_within stack.positions.items scope) x s
    >>= left w stack

-- what comes after is what was to come, or nothing comes
abbrev pub Leads : {Y : Type 0} → Result Y ExecRefusal → Ran RunState → Ran RunState → Type 0
Leads (Ok y) before after = after ≡ before
Leads (Err e) before after = Fails e before

-- the positions of each frame end where those of the next one begin, or are the same
abbrev pub AreNested : ℕ → List Frame → ℕ → Type 0
AreNested low [] high = low ≤ high
AreNested low (f ∷ frames) high = (low ≤ f.scope.to) × (f.scope.from ≤ f.scope.to)
    × AreNested f.scope.to frames high

pub record IsScope (scope : Scope) (positions : Positions) : Type 0 where
  pub order : scope.from ≤ scope.to
  pub within : scope.to ≤ length positions

-- the frames stand below such a scope
pub record StandsOn (stack : Stack) (scope : Scope) : Type 0 where
  pub is_scope : IsScope scope stack.positions.items
  pub below : AreNested 0 stack.frames.items scope.to

abbrev pub IsNested : Stack → Type 0
IsNested stack = AreNested 0 stack.frames.items (length stack.positions.items)

abbrev pub rest_cost : Definitions → Scope → List Statement → ℕ
rest_cost w scope rest = cost_all (macro_cost w scope.visible) (body_of rest)

abbrev pub frames_cost : Definitions → List Frame → ℕ
frames_cost w [] = 0
frames_cost w (f ∷ frames) = rest_cost w f.scope f.rest.now + 1 + frames_cost w frames

abbrev pub stack_cost : Definitions → Stack → ℕ
stack_cost w stack = frames_cost w stack.frames.items
