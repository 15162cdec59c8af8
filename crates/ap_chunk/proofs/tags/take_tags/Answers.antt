use Rattle.std.proofs.Common.{◌≡◌, ◌≤◌, leb, List, length, sym, ◌∙◌, inl, inr}
use Rattle.std.proofs.lemmas.Bool.{cases_lt, le-leb, lt-leb}
use Rattle.ap_symbol.specs.declared.symbol.Symbol.{Symbol}
use Rattle.ap_chunk.specs.Tests.{take_tags}
use Rattle.ap_chunk.specs.Tried.{IsTried}
use Rattle.ap_chunk.specs.declared.tags.Trial.{Trial}
use Rattle.ap_chunk.proofs.Trying.{end_over, end_left}
use Rattle.ap_chunk.proofs.tags.take_tags.Goals as goal

over : (parts tags : List Symbol) (trial : Trial) → IsTried parts tags trial →
    length tags ≤ trial.tag → leb (length parts) trial.part ≡ take_tags parts tags
over parts tags trial tried h = elim (cases_lt trial.part (length parts)) [
  | inl k ↦ lt-leb (length parts) trial.part k ∙ sym (end_left parts tags trial tried h k)
  | inr k ↦ le-leb (length parts) trial.part k ∙ sym (end_over parts tags trial tried h k)
]

pub returns : goal.returns
returns c = over c.args.parts.now c.args.tags.now c.loop-trial.trial c.loop-trial.invariant
    c.loop-trial-test.false
