use Rattle.std.proofs.Common.{ap, sym, ◌∙◌}
use Rattle.ap_markup.specs.Elements.{elements}
use Rattle.ap_rules.proofs.Read.{value_read, sound_read, fault_read, refused}
use Rattle.ap_rules.proofs.reading.read_rules.Goals as goal

pub returns-in-Ok : goal.returns-in-Ok
returns-in-Ok c =
    let form = c.args.form in
    let text = c.args.text.now in
    let same = ap (elements text) (sym c.table_of.ensures) in
    let value = value_read form text _ c.judged.result (same ∙ c.in-Ok.ensures)
    c.judged.ensures.value in
    record {
      spells = value;
      sound = sound_read form text c.judged.result value;
      fault = fault_read form text _ c.judged.result (same ∙ c.in-Ok.ensures)
          c.judged.ensures.fault;
    }

pub returns-in-Err-Fault : goal.returns-in-Err-Fault
returns-in-Err-Fault c =
    let form = c.args.form in
    let text = c.args.text.now in
    let same = ap (elements text) (sym c.table_of.ensures) in
    record {
      spells = tt;
      sound = tt;
      fault = refused form text c.in-Err-Fault.fault c.mark_of.result c.refusal.result
          (same ∙ rw c.in-Err-Fault.field-0-is at c.in-Err-Fault.ensures)
          (rw c.in-Err-Fault.field-0-is at c.mark_of.ensures) c.refusal.ensures;
    }
