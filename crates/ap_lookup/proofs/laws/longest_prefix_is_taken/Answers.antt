use Rattle.ap_lookup.proofs.Prefixes as laws
use Rattle.ap_lookup.proofs.laws.longest_prefix_is_taken.Goals as goal

pub returns-clause-longest : goal.returns-clause-longest
returns-clause-longest c = λ lexicon sensitive word n. laws.longest lexicon word sensitive n

pub returns-clause-none : goal.returns-clause-none
returns-clause-none c = λ lexicon sensitive word. laws.none lexicon word sensitive

pub returns-clause-no_head : goal.returns-clause-no_head
returns-clause-no_head c = λ lexicon sensitive word. laws.no_head lexicon word sensitive

pub returns-clause-order : goal.returns-clause-order
returns-clause-order c = λ lexicon sensitive word. laws.order lexicon word sensitive
