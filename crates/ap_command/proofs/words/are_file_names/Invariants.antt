use Rattle.std.proofs.Common.{◌≡◌, drop}
use Rattle.std.specs.List.{list_all}
use Rattle.ap_command.specs.Words.{texts, is_file_name_lem}
use Rattle.ap_command.proofs.words.are_file_names.Given as goal

-- whether all are names is whether those that are left are
abbrev pub invariant-loop-word : goal.invariant-loop-word
invariant-loop-word l = list_all is_file_name_lem (texts (drop l.word-index l.words))
    ≡ list_all is_file_name_lem (texts l.words)
