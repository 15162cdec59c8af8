use Rattle.ap_rules.proofs.RuleLaws.{refused_found, refused_read}
use Rattle.ap_rules.proofs.laws.refuses_by_the_first_fault.Goals as goal

pub returns-clause-found : goal.returns-clause-found
returns-clause-found c = refused_found

pub returns-clause-read : goal.returns-clause-read
returns-clause-read c = refused_read
