use Rattle.std.specs.Prelude.{ℕ}
use Rattle.ap_command.specs.declared.status.Status.{Status}
use Rattle.ap_command.specs.declared.status.Status.TheVariants.{Done, Usage, FileFault, ReadFault, WriteFault, BadDictionary, BadRules, BadCompiled, Malformed, Limit, Memory}

-- the number with which the program ends
abbrev pub status_number : Status → ℕ
status_number Done = 0
status_number Usage = 1
status_number (FileFault file) = 2
status_number ReadFault = 3
status_number WriteFault = 4
status_number (BadDictionary file fault line) = 5
status_number (BadRules file fault line) = 6
status_number (BadCompiled file fault line) = 7
status_number (Malformed stage kind place) = 8
status_number (Limit stage kind place) = 9
status_number Memory = 10
