use Rattle.std.proofs.Common.{IfOk, ◌≡◌, ◌^◌, subst, sym}
use Rattle.ap_command.specs.Words.{files_of, AreWithin}
use Rattle.ap_command.proofs.Seven.{last-within}
use Rattle.ap_command.proofs.reading.files_of.Goals as goal

pub files_of_run-requires : goal.files_of_run-requires
files_of_run-requires c = last-within (2 ^ 64) c.in-Run.room c.in-Run.mono
    (subst (λ x. AreWithin (2 ^ 64) (files_of x)) c.in-Run.is c.requires)

pub returns-in-Run : goal.returns-in-Run
returns-in-Run c =
    subst (λ x. IfOk c.files_of_run.result (λ files. files.items ≡ files_of x)) (sym c.in-Run.is)
    (c.files_of_run.ensures c.in-Run.room)

pub files_of_run-requires-in-Text : goal.files_of_run-requires-in-Text
files_of_run-requires-in-Text c = last-within (2 ^ 64) c.in-Text.room c.in-Text.mono
    (subst (λ x. AreWithin (2 ^ 64) (files_of x)) c.in-Text.is c.requires)

pub returns-in-Text : goal.returns-in-Text
returns-in-Text c =
    subst (λ x. IfOk c.files_of_run-in-Text.result (λ files. files.items ≡ files_of x))
    (sym c.in-Text.is) (c.files_of_run-in-Text.ensures c.in-Text.room)
