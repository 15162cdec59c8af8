use Rattle.ap_command.proofs.OneReading.{Laws}
use Rattle.ap_command.proofs.WorkOutcomes.{work-one}
use Rattle.ap_command.proofs.laws.one_work_outcome.Goals as goal

pub returns : goal.returns
returns c =
    let laws : Laws = record {
      one = c.one_reading.ensures.one;
      one_fault = c.one_reading.ensures.one_fault;
      no_fault = c.one_reading.ensures.no_fault;
    } in
    λ sentences input ending a b p q. work-one laws c.one_meaning.ensures sentences a b p q
