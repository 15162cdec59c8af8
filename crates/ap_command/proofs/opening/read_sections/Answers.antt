use Rattle.std.proofs.Common.{sym, refl, subst, inl}
use Rattle.ap_binary.specs.Refusals.{IfFault}
use Rattle.ap_binary.specs.Spelling.{IsFirstFault}
use Rattle.ap_command.specs.Reading.{OfCompiled}
use Rattle.ap_command.proofs.opening.read_sections.Goals as goal

pub returns-in-Ok-clause-spelled : goal.returns-in-Ok-clause-spelled
returns-in-Ok-clause-spelled c =
    (c.spells_texts.ensures c.args.text.now c.in-Ok.compiled).0 c.in-Ok.ensures.spells

pub returns-in-Err-Fault-clause-refused : goal.returns-in-Err-Fault-clause-refused
returns-in-Err-Fault-clause-refused c = inl (
  OfCompiled c.number.result c.in-Err-Fault.fault.line,
  record {
    fault = c.in-Err-Fault.fault;
    first = (c.first_fault_in_sentences.ensures c.args.text.now c.in-Err-Fault.fault).0
        (subst (λ e. IfFault e (λ f. IsFirstFault c.args.text.now f)) c.in-Err-Fault.field-0-is
        c.in-Err-Fault.ensures.fault);
    number_is = sym c.number.ensures;
    line_is = refl;
  },
  refl,
)
