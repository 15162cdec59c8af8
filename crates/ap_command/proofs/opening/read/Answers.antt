use Rattle.std.proofs.Common.{sym, subst, ◌∙◌}
use Rattle.ap_command.specs.Reading.{IsMadeOf, IsMakingRefusal}
use Rattle.ap_command.proofs.Opened.{keeps-plain, keeps-made, keeps-either, keeps-compiled, keeps-rules, keeps-chunking, keeps-pairs, refuses-made, refuses-either, refuses-compiled, refuses-rules, refuses-chunking, refuses-pairs}
use Rattle.ap_command.proofs.opening.read.Goals as goal

pub returns-in-Ok-clause-kept : goal.returns-in-Ok-clause-kept
returns-in-Ok-clause-kept c =
    keeps-plain _ _ c.in-Ok.dictionary c.in-Plain.is c.in-Ok.ensures.spelled c.in-Ok.ensures.sound

pub returns-in-Err-read_made-clause-refused : goal.returns-in-Err-read_made-clause-refused
returns-in-Err-read_made-clause-refused c =
    refuses-made _ _ c.in-Made.way _ c.in-Made.is c.in-Err-read_made.ensures.refused

pub returns-in-Ok-read_made-clause-kept : goal.returns-in-Ok-read_made-clause-kept
returns-in-Ok-read_made-clause-kept c =
    keeps-made _ _ c.in-Made.way c.in-Ok-read_made.compiled c.in-Made.is
    c.in-Ok-read_made.ensures.made

pub returns-in-Ok-read_told-clause-kept : goal.returns-in-Ok-read_told-clause-kept
returns-in-Ok-read_told-clause-kept c =
    keeps-compiled _ _ c.in-Either.way c.in-Ok-read_told.compiled c.in-Either.is
    (sym c.is_compiled_file.ensures ∙ c.if-is_compiled_file.true) c.in-Ok-read_told.ensures.spelled
    c.in-Ok-read_told.ensures.fits

pub returns-in-Err-read_told-clause-refused : goal.returns-in-Err-read_told-clause-refused
returns-in-Err-read_told-clause-refused c =
    refuses-compiled _ _ c.in-Either.way _ c.in-Either.is (sym c.is_compiled_file.ensures
    ∙ c.if-is_compiled_file.true) c.in-Err-read_told.ensures.refused

pub returns-in-Err-read_made-2-clause-refused : goal.returns-in-Err-read_made-2-clause-refused
returns-in-Err-read_made-2-clause-refused c =
    refuses-either _ _ c.in-Either.way _ c.in-Either.is (sym c.is_compiled_file.ensures
    ∙ c.if-is_compiled_file.false)
    (subst (λ w. IsMakingRefusal c.args.text.now w c.args.reading.place c.in-Err-read_made-2.status)
    c.made_way.ensures c.in-Err-read_made-2.ensures.refused)

pub returns-in-Ok-read_made-2-clause-kept : goal.returns-in-Ok-read_made-2-clause-kept
returns-in-Ok-read_made-2-clause-kept c =
    keeps-either _ _ c.in-Either.way c.in-Ok-read_made-2.compiled c.in-Either.is
    (sym c.is_compiled_file.ensures ∙ c.if-is_compiled_file.false)
    (subst (λ w. IsMadeOf c.args.text.now w c.in-Ok-read_made-2.compiled) c.made_way.ensures
    c.in-Ok-read_made-2.ensures.made)

pub returns-in-Err-read_ruled-clause-refused : goal.returns-in-Err-read_ruled-clause-refused
returns-in-Err-read_ruled-clause-refused c =
    refuses-rules _ _ c.in-Ruled.form _ c.in-Ruled.is c.in-Err-read_ruled.ensures.refused

pub returns-in-Ok-read_ruled-clause-kept : goal.returns-in-Ok-read_ruled-clause-kept
returns-in-Ok-read_ruled-clause-kept c =
    keeps-rules _ _ c.in-Ruled.form c.in-Ok-read_ruled.rules c.in-Ruled.is
    c.in-Ok-read_ruled.ensures.spelled c.in-Ok-read_ruled.ensures.formed
    c.in-Ok-read_ruled.ensures.sound
    c.in-Ok-read_ruled.ensures.worded

pub returns-in-Err-read_chunking-clause-refused : goal.returns-in-Err-read_chunking-clause-refused
returns-in-Err-read_chunking-clause-refused c =
    refuses-chunking _ _ _ c.in-Chunking.is c.in-Err-read_chunking.ensures.refused

pub returns-in-Ok-read_chunking-clause-kept : goal.returns-in-Ok-read_chunking-clause-kept
returns-in-Ok-read_chunking-clause-kept c =
    keeps-chunking _ _ c.in-Ok-read_chunking.rules c.in-Chunking.is
    c.in-Ok-read_chunking.ensures.spelled c.in-Ok-read_chunking.ensures.formed
    c.in-Ok-read_chunking.ensures.sound c.in-Ok-read_chunking.ensures.worded c.in-Ok-read_chunking.ensures.chunks

pub returns-in-Err-read_paired-clause-refused : goal.returns-in-Err-read_paired-clause-refused
returns-in-Err-read_paired-clause-refused c =
    refuses-pairs _ _ _ c.in-Paired.is c.in-Err-read_paired.ensures.refused

pub returns-in-Ok-read_paired-clause-kept : goal.returns-in-Ok-read_paired-clause-kept
returns-in-Ok-read_paired-clause-kept c =
    keeps-pairs _ _ c.in-Ok-read_paired.pairs c.in-Paired.is c.in-Ok-read_paired.ensures.spelled
