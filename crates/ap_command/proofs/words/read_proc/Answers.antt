use Rattle.std.proofs.Common.{sym, ◌∙◌}
use Rattle.ap_command.proofs.Options.{proc-refused}
use Rattle.ap_command.proofs.words.read_proc.Goals as goal

pub returns-in-Err-clause-command : goal.returns-in-Err-clause-command
returns-in-Err-clause-command c =
    proc-refused c.args.words.now c.in-Err.fault (sym c.in-Err.is ∙ c.read_options.ensures)
