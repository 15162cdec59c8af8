use Rattle.std.proofs.Common.{sym, refl, inl, subst}
use Rattle.ap_dix.specs.Refusals.{IfFault}
use Rattle.ap_dix.specs.Spelling.{IsFirstFault}
use Rattle.ap_command.specs.Reading.{OfDictionary}
use Rattle.ap_command.proofs.opening.read_entries.Goals as goal

pub returns-in-Ok-clause-spelled : goal.returns-in-Ok-clause-spelled
returns-in-Ok-clause-spelled c =
    c.reads_what_the_grammar_spells.ensures.found c.args.text.now c.in-Ok.dictionary
    c.in-Ok.ensures.spells

pub returns-in-Err-Fault-clause-refused : goal.returns-in-Err-Fault-clause-refused
returns-in-Err-Fault-clause-refused c = inl (
  OfDictionary c.number.result c.in-Err-Fault.fault.line,
  record {
    fault = c.in-Err-Fault.fault;
    first = c.refuses_by_the_first_fault.ensures.found c.args.text.now c.in-Err-Fault.fault
        (subst (λ e. IfFault e (λ f. IsFirstFault c.args.text.now f)) c.in-Err-Fault.field-0-is
        c.in-Err-Fault.ensures.fault);
    number_is = sym c.number.ensures;
    line_is = refl;
  },
  refl,
)
