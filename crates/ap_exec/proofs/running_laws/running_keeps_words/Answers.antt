use Rattle.ap_exec.proofs.RunningKeeps.{running_keeps_words, starting_keeps_words}
use Rattle.ap_exec.proofs.running_laws.running_keeps_words.Goals as goal

pub returns-clause-keeps : goal.returns-clause-keeps
returns-clause-keeps c = running_keeps_words

pub returns-clause-start : goal.returns-clause-start
returns-clause-start c = starting_keeps_words
