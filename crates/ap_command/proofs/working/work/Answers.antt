use Rattle.std.proofs.Common.{ap, sym, subst, refl}
use Rattle.ap_command.specs.declared.status.Status.TheVariants.{Done}
use Rattle.ap_command.specs.Answer.{bytes_of}
use Rattle.ap_command.specs.Messages.{IsTold}
use Rattle.ap_command.proofs.Workload.{work-ran, worked-so, work-pieces, unreported, built-in-told}
use Rattle.ap_command.proofs.working.work.Goals as goal

pub report-requires-clause-pieces : goal.report-requires-clause-pieces
report-requires-clause-pieces g c =
    work-pieces c.args.sentences _ c.written.result.now
    (work-ran c.args.sentences _ _ _ _ c.new-source.ensures.left c.new-source.ensures.faults
    c.new-kept.ensures.written c.new-kept.ensures.faults Done c.in-Done.ensures.answer)
    (sym (ap bytes_of c.written.ensures))

pub returns-in-Done-clause-worked : goal.returns-in-Done-clause-worked
returns-in-Done-clause-worked g c =
    worked-so c.args.sentences _ _ _ _ c.new-source.ensures.left c.new-source.ensures.faults
    c.new-kept.ensures.written c.new-kept.ensures.faults Done c.in-Done.ensures.answer _ _
    c.written.result.now c.report.result c.requires refl (sym (ap bytes_of c.written.ensures))
    c.report.ensures.listed

pub returns-clause-worked : goal.returns-clause-worked
returns-clause-worked g c =
    worked-so c.args.sentences _ _ _ _ c.new-source.ensures.left c.new-source.ensures.faults
    c.new-kept.ensures.written c.new-kept.ensures.faults c.translate_built_in.result
    c.translate_built_in.ensures.answer _ _ _ c.of_built_in.result c.requires refl refl
    (unreported c.args.sentences _ _ _ c.translate_built_in.result c.of_built_in.result
    c.in_default.not-Done refl c.of_built_in.ensures)

pub returns-clause-told : goal.returns-clause-told
returns-clause-told g c = λ words some.
    subst (λ s. IsTold s words) (sym c.of_built_in.ensures)
    (built-in-told c.translate_built_in.result words c.translate_built_in.ensures.told some)
