-- Of the inside: no public contract stands on this file.
-- What the states of the reading of an expression stand for.
use Rattle.std.specs.Prelude.{map, reverse}
use Rattle.std.specs.Option.{option_map}
use Rattle.ap_dix.specs.Machines.{Cut, Telling, Stage, Stack}
use Rattle.ap_dix.specs.Plain.{plain}
use Rattle.ap_dix.specs.declared.pieces.Cut.{Cut as HeldCut}
use Rattle.ap_dix.specs.declared.stages.Stage.{Stage as HeldStage}
use Rattle.ap_dix.specs.declared.stages.Stack.{Stack as HeldStack}
use Rattle.ap_dix.specs.declared.tokens.Telling.{Telling as HeldTelling}

abbrev pub cut_of : HeldCut → Cut
cut_of s = record { made = s.made.items; escaping = s.escaping }

abbrev pub telling_of : HeldTelling → Telling
telling_of s = record {
  made = s.made.items;
  class = option_map (λ ranges. ranges.items) s.class;
  member = s.member;
}

abbrev pub stage_of : HeldStage → Stage
stage_of s = record {
  choices = map plain s.choices.items;
  factors = map plain s.factors.items;
  last = option_map plain s.last;
}

abbrev pub stack_of : HeldStack → Stack
stack_of s = record { top = stage_of s.top; below = reverse (map stage_of s.below.items) }
