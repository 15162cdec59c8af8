-- Writing to a part of a unit.
use Rattle.std.specs.Prelude.{ℕ, ◌+◌, ◌-◌, Bool, true, false, List, ◌++◌, length, take, drop, if◌then◌else◌, nat_le, ◌==◌}
use Rattle.ap_symbol.specs.declared.symbol.Symbol.{Symbol}
use Rattle.ap_rules.specs.declared.attribute.AttrItem.{AttrItem}
use Rattle.ap_rules.specs.declared.rules.Form.{Form}
use Rattle.ap_rules.specs.declared.value.Clip.{Clip}
use Rattle.ap_rules.specs.declared.value.ClipPart.{ClipPart}
use Rattle.ap_rules.specs.declared.value.ClipPart.TheVariants.{Lem, Lemh, Lemq, Tags, Whole, Content, Attribute}
use Rattle.ap_rules.specs.declared.value.Side.{Side}
use Rattle.ap_rules.specs.declared.value.Side.TheVariants.{Source, Target}
use Rattle.ap_exec.specs.Parts.{Span, span_of, side_in, word_on}
use Rattle.ap_exec.specs.Units.{Shown}

-- the word with a value in place of a part
abbrev pub spliced : Span → List Symbol → List Symbol → List Symbol
spliced span value word = take span.start word ++ value ++ drop (span.start + span.count) word

-- an empty one of these parts isn't replaced, and a chunk's content never is
abbrev pub is_kept : ClipPart → ℕ → Bool
is_kept Lem count = false
is_kept Lemh count = false
is_kept Lemq count = count == 0
is_kept Tags count = count == 0
is_kept Whole count = false
is_kept Content count = true
is_kept (Attribute n) count = count == 0

-- Where the border stands after a part of the target became this long: it moves with its symbols
-- where the part lies wholly in the head, and stays where the part lies wholly in the queue; else
-- it stands at the end of the new part.
abbrev pub moved : Span → ℕ → ℕ → ℕ
moved span size border =
    if nat_le (span.start + span.count) border then border - span.count + size
    else if nat_le border span.start then border
    else span.start + size

abbrev pub replaced : Side → Span → List Symbol → Shown → Shown
replaced Source span value unit = record unit { source = spliced span value unit.source }
replaced Target span value unit =
    record unit {
      target = spliced span value unit.target;
      border =
          moved span (length value) unit.border;
    }

abbrev pub written_at : ClipPart → Side → Span → List Symbol → Shown → Shown
written_at part side span value unit = if is_kept part span.count then unit
    else replaced side span value unit

-- the unit with a value in place of the part that a clip names; its link is ignored
abbrev pub written : Form → List (List AttrItem) → Clip → List Symbol → Shown → Shown
written form attributes c value unit =
    written_at c.part (side_in form c.side)
    (span_of attributes c.part (word_on (side_in form c.side) c.queue unit)) value unit
