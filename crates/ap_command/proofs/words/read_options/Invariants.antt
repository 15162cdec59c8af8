use Rattle.std.proofs.Common.{◌≡◌, drop}
use Rattle.ap_command.specs.Words.{texts, options_of}
use Rattle.ap_command.proofs.Options.{chosen_behind}
use Rattle.ap_command.proofs.words.read_options.Given as goal

-- what is chosen is what the options that are left choose behind what was read
abbrev pub invariant-loop-option : goal.invariant-loop-option
invariant-loop-option l = chosen_behind l.mode l.sensitive (texts (drop l.option-index l.options))
    ≡ options_of (texts l.options)
