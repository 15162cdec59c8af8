use Rattle.ap_exec.proofs.TextSizes.{texts_are_counted}
use Rattle.ap_exec.proofs.SizeLaws.{pieces_are_added, limit_is_by_sizes, outputs_are_within}
use Rattle.ap_exec.proofs.size_laws.pieces_are_counted.Goals as goal

pub returns-clause-added : goal.returns-clause-added
returns-clause-added c = pieces_are_added

pub returns-clause-limit : goal.returns-clause-limit
returns-clause-limit c = limit_is_by_sizes

pub returns-clause-within : goal.returns-clause-within
returns-clause-within c = outputs_are_within

pub returns-clause-texts : goal.returns-clause-texts
returns-clause-texts c = texts_are_counted
