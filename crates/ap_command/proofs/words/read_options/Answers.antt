use Rattle.std.proofs.Common.{sym, ◌∙◌}
use Rattle.ap_command.specs.Words.{texts, options_of}
use Rattle.ap_command.proofs.Options.{case-read, mode-read}
use Rattle.ap_command.proofs.words.read_options.Goals.{then-eq+else-sensitive, else-eq+in-Some+else-is_some}
use Rattle.ap_command.proofs.words.read_options.Goals as goal

pub loop-option-preserved : goal.loop-option-preserved
loop-option-preserved c = elim c.if-eq.branch [
  | then-eq+else-sensitive w ↦
      case-read c.args.options.now c.loop-option.option-index c.option-item.result
      c.as_str.result.now c.loop-option.mode c.if-eq.mode c.loop-option.sensitive c.if-eq.sensitive
      (options_of (texts c.args.options.now))
      c.loop-option-test.true c.option-item.is c.as_str.ensures.value
      (sym c.eq.ensures ∙ w.if-eq.true) w.if-sensitive.false w.mode-is w.sensitive-is
      c.loop-option.invariant
  | else-eq+in-Some+else-is_some w ↦
      mode-read c.args.options.now c.loop-option.option-index c.option-item.result
      c.as_str.result.now w.as_str-else-eq.result.now c.loop-option.mode c.if-eq.mode
      w.in-Some.named c.loop-option.sensitive c.if-eq.sensitive
      (options_of (texts c.args.options.now))
      c.loop-option-test.true c.option-item.is c.as_str.ensures.value
      (sym c.eq.ensures ∙ w.if-eq.false) w.as_str-else-eq.ensures.value
      (sym w.mode_of.ensures ∙ w.in-Some.is) (sym w.is_some.ensures ∙ w.if-is_some.false)
      w.mode-is w.sensitive-is c.loop-option.invariant
]
