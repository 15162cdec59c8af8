use Rattle.ap_dix.proofs.Read.{value_read, sound_read, fault_read, refused}
use Rattle.ap_dix.proofs.reading.read_dictionary.Goals as goal

pub returns-in-Ok : goal.returns-in-Ok
returns-in-Ok c = record {
  spells = value_read c.args.text.now _ c.judged.result c.in-Ok.ensures c.judged.ensures.value;
  sound = sound_read c.args.text.now _ c.judged.result c.in-Ok.ensures c.judged.ensures.value;
  fault = fault_read c.args.text.now _ c.judged.result c.in-Ok.ensures c.judged.ensures.fault;
}

pub returns-in-Err-Fault : goal.returns-in-Err-Fault
returns-in-Err-Fault c = record {
  spells = tt;
  sound = tt;
  fault = refused c.args.text.now c.in-Err-Fault.fault c.mark_of.result c.refusal.result
      (rw c.in-Err-Fault.field-0-is at c.in-Err-Fault.ensures)
      (rw c.in-Err-Fault.field-0-is at c.mark_of.ensures) c.refusal.ensures;
}
