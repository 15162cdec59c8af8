-- The work of transfer, interchunk and postchunk: what is seen of it, and what is still to come of
-- it.
use Rattle.std.specs.Prelude.{◌≡◌, ℕ, Bool, true, List, [], ◌++◌, slice_index_or, Result, Ok, Err}
use Rattle.ap_stream.specs.Told.{Told}
use Rattle.ap_stream.specs.declared.item.Read.{Read}
use Rattle.ap_rules.specs.declared.rules.Rules.{Rules}
use Rattle.ap_exec.specs.declared.refusal.ExecRefusal.{ExecRefusal}
use Rattle.ap_exec.specs.declared.refusal.ExecRefusal.TheVariants.{ValueTooLong, OutputTooLong, Memory}
use Rattle.ap_stream.specs.declared.fault.LimitKind.TheVariants as limit
use Rattle.ap_chunk.specs.Carrying.{Held, Step, Gives, Stops}
use Rattle.ap_chunk.specs.Stages.{chunked, chunk_step}
use Rattle.ap_chunk.specs.declared.writing.Written.{Written}
use Rattle.ap_chunk.specs.declared.writing.Written.TheVariants as code

-- its rules, what the variables hold, the items that it holds, and whether they are the last
pub record Working : Type 0 where
  pub rules : Rules
  pub vars : Held
  pub items : List Read
  pub finished : Bool

-- what is still to come of it where these items still come
abbrev pub chunk_work : Working → List Read → Told
chunk_work h xs = chunked h.rules h.vars (h.items ++ xs)

-- a step of the code as the definition has it, with what it leaves in the variables
abbrev pub meant : Written → Held → Step
meant (code.Gives count text) vars = Gives count text vars
meant (code.Stops kind) vars = Stops kind

-- what a rule gives for so many items is their step, with what is left in the variables; want of
-- memory tells nothing
abbrev pub Gave : Result (List ℕ) ExecRefusal → Held → ℕ → Step → Type 0
Gave (Ok text) vars n step = step ≡ Gives n text vars
Gave (Err ValueTooLong) vars n step = step ≡ Stops limit.ValueTooLong
Gave (Err OutputTooLong) vars n step = step ≡ Stops limit.OutputTooLong
Gave (Err Memory) vars n step = Unit {0}

-- a step that a rule refuses
abbrev pub IsRefused : ExecRefusal → Written → Type 0
IsRefused refusal made = (vars held : Held) (n : ℕ) (step : Step) → Gave (Err refusal) held n step →
    meant made vars ≡ step

-- it is the first step of the work, whatever items follow, and leaves this in the variables
abbrev pub IsFirstStep : Working → Held → Written → Type 0
IsFirstStep h vars made = (xs : List Read) → (h.finished ≡ true → xs ≡ []) →
    chunk_step h.rules h.vars (h.items ++ xs) ≡ meant made vars

-- the place of the first item
pub record IsFirstPlace (reads : List Read) (place : ℕ) : Type 0 where
  pub first : Read
  pub is : first ≡ slice_index_or reads 0 first
  pub place_is : place ≡ first.place
