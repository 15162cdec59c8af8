-- How a stream went through a row of stages, and its status.
use Rattle.std.specs.Prelude.{◌≡◌, ℕ, ◌⊎◌, List, [], ◌∷◌, ◌++◌}
use Rattle.ap_stream.specs.Told.{Ending}
use Rattle.ap_stream.specs.declared.fault.MalformedKind.{MalformedKind}
use Rattle.ap_stream.specs.declared.fault.MalformedKind.TheVariants.{NotUtf8, Stray, Unfinished, BadTag, EmptyWord}
use Rattle.ap_stream.specs.declared.fault.LimitKind.{LimitKind}
use Rattle.ap_stream.specs.declared.fault.LimitKind.TheVariants.{ItemTooLong, SpanTooLong, UnitTooLong, ValueTooLong, OutputTooLong, FileTooLong, InputTooLong}
use Rattle.ap_stream.specs.declared.fault.StreamFault.{StreamFault}
use Rattle.ap_stream.specs.declared.fault.StreamFault.TheVariants as fault
use Rattle.ap_pipe.specs.declared.TheConstants.{INPUT_MAX}
use Rattle.ap_pipe.specs.declared.any_stage.AnyStage.{AnyStage}
use Rattle.ap_pipe.specs.Any.{any_rest}
use Rattle.ap_pipe.specs.declared.round.Intake.{Intake}
use Rattle.ap_pipe.specs.declared.round.Outcome.{Outcome}
use Rattle.ap_pipe.specs.declared.round.Outcome.TheVariants as outcome
use Rattle.ap_pipe.specs.Standing.{Standing}
use Rattle.ap_pipe.specs.Row.{RowTold, meaning}
use Rattle.ap_pipe.specs.Round.{MayCome}
use Rattle.ap_pipe.specs.Answers.{outcome_of}
use Rattle.ap_pipe.specs.Flow.{Flows as RowFlows}
use Rattle.ap_command.specs.declared.status.Status.{Status}
use Rattle.ap_command.specs.declared.status.Status.TheVariants.{Done, ReadFault, WriteFault, Malformed, Limit, Memory}
use Rattle.ap_command.specs.Rows.{Stage, Meaning, IsMeaning, AreMeanings, AreJoined, KeepsAs, LinksAs, EachKeepsSuperblanks, EachLinks, stage_reads, stage_writes}

-- the kinds of malformed items by their numbers
abbrev pub malformed_number : MalformedKind → ℕ
malformed_number NotUtf8 = 1
malformed_number Stray = 2
malformed_number Unfinished = 3
malformed_number BadTag = 4
malformed_number EmptyWord = 5

-- the limits by their numbers
abbrev pub limit_number : LimitKind → ℕ
limit_number ItemTooLong = 1
limit_number SpanTooLong = 2
limit_number UnitTooLong = 3
limit_number ValueTooLong = 4
limit_number OutputTooLong = 5
limit_number FileTooLong = 6
limit_number InputTooLong = 7

-- the status of a fault of a stage
abbrev pub status_at : ℕ → StreamFault → Status
status_at stage (fault.Malformed kind place) = Malformed stage (malformed_number kind) place
status_at stage (fault.Limit kind place) = Limit stage (limit_number kind) place
status_at stage fault.Memory = Memory

-- the status of a pipeline's outcome
abbrev pub status_of_outcome : Outcome → Status
status_of_outcome outcome.Done = Done
status_of_outcome outcome.ReadFault = ReadFault
status_of_outcome outcome.WriteFault = WriteFault
status_of_outcome outcome.InputTooLong = Limit 0 7 INPUT_MAX
status_of_outcome (outcome.Fault stage fault) = status_at stage fault

-- The status of what a row gives for an input: that of the fault of the last stage that has one, or
-- where none has that of how the input ended.
abbrev pub row_status : RowTold → Intake → Status
row_status told intake = status_of_outcome (outcome_of intake told.fault)

-- This holds of what a row gives for the input, whatever may still come in.
abbrev pub Always : (List ℕ → Ending → RowTold) → List ℕ → Intake → (RowTold → Type 0) → Type 0
Always row input intake P = (x : List ℕ) (e : Ending) → MayCome intake x e → P (row (input ++ x) e)

-- The stream went through the row of these stages, from the source to the sink.
pub record Flows (stages : List Stage) (source_old source_new sink_old sink_new : Standing)
    (status : Status) : Type 0 where
  pub meanings : List Meaning
  pub mean : AreMeanings stages meanings
  pub joined : AreJoined stages
  pub keeps : EachKeepsSuperblanks stages meanings
  pub links : EachLinks stages meanings
  pub outcome : Outcome
  pub went : RowFlows (meaning 1 meanings) source_old source_new sink_old sink_new outcome
  pub status_is : status ≡ status_of_outcome outcome

-- memory ran out, and nothing was taken or written
pub record IsUnsent (source_old source_new sink_old sink_new : Standing)
    (status : Status) : Type 0 where
  pub memory : status ≡ Memory
  pub untaken : source_new ≡ source_old
  pub unwritten : sink_new ≡ sink_old

-- The stream went through the row, or memory ran out before.
abbrev pub FlowsOrStops : List Stage → Standing → Standing → Standing → Standing → Status → Type 0
FlowsOrStops stages source_old source_new sink_old sink_new status =
    Flows stages source_old source_new sink_old sink_new status
    ⊎ IsUnsent source_old source_new sink_old sink_new status

-- It is this stage of a row: what it gives is what the stage means, and that keeps superblanks, and
-- is read on by the stage behind it.
pub record IsStage (stage : Stage) (made : AnyStage) : Type 0 where
  pub mean : IsMeaning stage (any_rest made)
  pub keeps : KeepsAs (stage_reads stage) (stage_writes stage) (any_rest made)
  pub links : LinksAs (stage_reads stage) (stage_writes stage) (any_rest made)

-- they are these stages, one after another
abbrev pub AreStages : List Stage → List AnyStage → Type 0
AreStages [] [] = Unit {0}
AreStages [] (m ∷ ms) = ⊥
AreStages (s ∷ ss) [] = ⊥
AreStages (s ∷ ss) (m ∷ ms) = IsStage s m × AreStages ss ms

-- They are a row of these stages, each of which reads what the one before it writes.
pub record IsRow (stages : List Stage) (row : List AnyStage) : Type 0 where
  pub joined : AreJoined stages
  pub each : AreStages stages row
