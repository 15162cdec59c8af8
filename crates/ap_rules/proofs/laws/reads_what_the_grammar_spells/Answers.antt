use Rattle.ap_rules.proofs.RuleLaws.{rules_found, rules_read}
use Rattle.ap_rules.proofs.laws.reads_what_the_grammar_spells.Goals as goal

pub returns-clause-found : goal.returns-clause-found
returns-clause-found c = rules_found

pub returns-clause-read : goal.returns-clause-read
returns-clause-read c = rules_read
