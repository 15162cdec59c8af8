use Rattle.ap_exec.proofs.Borders.{other_side_stays}
use Rattle.ap_exec.proofs.PartsRead.{head_is_read, queue_is_read, tags_are_read, attribute_is_read}
use Rattle.ap_exec.proofs.Rereading.{whole_is_read, lemma_is_read}
use Rattle.ap_exec.proofs.Splices.{written_is_read}
use Rattle.ap_exec.proofs.word_laws.written_parts_are_read.Goals as goal

pub returns-clause-whole : goal.returns-clause-whole
returns-clause-whole c = whole_is_read

pub returns-clause-lemma : goal.returns-clause-lemma
returns-clause-lemma c = lemma_is_read

pub returns-clause-head : goal.returns-clause-head
returns-clause-head c = head_is_read

pub returns-clause-queue : goal.returns-clause-queue
returns-clause-queue c = queue_is_read

pub returns-clause-tags : goal.returns-clause-tags
returns-clause-tags c = tags_are_read

pub returns-clause-attribute : goal.returns-clause-attribute
returns-clause-attribute c = attribute_is_read

pub returns-clause-stretch : goal.returns-clause-stretch
returns-clause-stretch c = written_is_read

pub returns-clause-other_side : goal.returns-clause-other_side
returns-clause-other_side c = other_side_stays
