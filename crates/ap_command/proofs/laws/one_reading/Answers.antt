use Rattle.ap_command.proofs.OneReading.{Dictionaries, RuleFiles, CompiledFiles, one-content, one-flaw, no-flaw}
use Rattle.ap_command.proofs.laws.one_reading.Goals as goal

pub returns-clause-one : goal.returns-clause-one
returns-clause-one c =
    let dix : Dictionaries = record {
      one = c.one_dictionary.ensures.one;
      one_fault = c.one_dictionary.ensures.one_fault;
      no_fault = c.one_dictionary.ensures.no_fault;
    } in
    let rules : RuleFiles = record {
      one = c.one_rule_file.ensures.one;
      one_fault = c.one_rule_file.ensures.one_fault;
      no_fault = c.one_rule_file.ensures.no_fault;
    } in
    let compiled : CompiledFiles = record {
      one = c.one_compiled_file.ensures.one;
      one_fault = c.one_compiled_file.ensures.one_fault;
      no_fault = c.one_compiled_file.ensures.no_fault;
    } in
    one-content dix rules compiled

pub returns-clause-one_fault : goal.returns-clause-one_fault
returns-clause-one_fault c =
    let dix : Dictionaries = record {
      one = c.one_dictionary.ensures.one;
      one_fault = c.one_dictionary.ensures.one_fault;
      no_fault = c.one_dictionary.ensures.no_fault;
    } in
    let rules : RuleFiles = record {
      one = c.one_rule_file.ensures.one;
      one_fault = c.one_rule_file.ensures.one_fault;
      no_fault = c.one_rule_file.ensures.no_fault;
    } in
    let compiled : CompiledFiles = record {
      one = c.one_compiled_file.ensures.one;
      one_fault = c.one_compiled_file.ensures.one_fault;
      no_fault = c.one_compiled_file.ensures.no_fault;
    } in
    one-flaw dix rules compiled

pub returns-clause-no_fault : goal.returns-clause-no_fault
returns-clause-no_fault c =
    let dix : Dictionaries = record {
      one = c.one_dictionary.ensures.one;
      one_fault = c.one_dictionary.ensures.one_fault;
      no_fault = c.one_dictionary.ensures.no_fault;
    } in
    let rules : RuleFiles = record {
      one = c.one_rule_file.ensures.one;
      one_fault = c.one_rule_file.ensures.one_fault;
      no_fault = c.one_rule_file.ensures.no_fault;
    } in
    let compiled : CompiledFiles = record {
      one = c.one_compiled_file.ensures.one;
      one_fault = c.one_compiled_file.ensures.one_fault;
      no_fault = c.one_compiled_file.ensures.no_fault;
    } in
    no-flaw dix rules compiled
