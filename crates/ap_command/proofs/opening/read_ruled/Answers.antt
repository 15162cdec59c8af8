use Rattle.std.proofs.Common.{sym, refl, inl, subst}
use Rattle.ap_rules.specs.Refusals.{IfFault}
use Rattle.ap_rules.specs.Spelling.{IsFirstFault}
use Rattle.ap_rules.specs.Views.{plain_rules}
use Rattle.ap_command.specs.Reading.{OfRules}
use Rattle.ap_command.proofs.Opened.{form-of}
use Rattle.ap_command.proofs.opening.read_ruled.Goals as goal

pub returns-in-Ok-clause-spelled : goal.returns-in-Ok-clause-spelled
returns-in-Ok-clause-spelled c =
    c.reads_what_the_grammar_spells.ensures.found c.args.form c.args.text.now
    (plain_rules c.in-Ok.rules) c.in-Ok.ensures.spells

pub returns-in-Ok-clause-formed : goal.returns-in-Ok-clause-formed
returns-in-Ok-clause-formed c =
    form-of c.args.form c.args.text.now (plain_rules c.in-Ok.rules) c.in-Ok.ensures.spells

pub returns-in-Err-Fault-clause-refused : goal.returns-in-Err-Fault-clause-refused
returns-in-Err-Fault-clause-refused c = inl (
  OfRules c.number.result c.in-Err-Fault.fault.line,
  record {
    fault = c.in-Err-Fault.fault;
    first = c.refuses_by_the_first_fault.ensures.found c.args.form c.args.text.now
        c.in-Err-Fault.fault (subst (λ e. IfFault e (IsFirstFault c.args.form c.args.text.now))
        c.in-Err-Fault.field-0-is c.in-Err-Fault.ensures.fault);
    number_is = sym c.number.ensures;
    line_is = refl;
  },
  refl,
)
