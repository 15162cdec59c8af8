use Rattle.ap_command.proofs.laws.one_rule_file.Goals as goal

pub returns-clause-one : goal.returns-clause-one
returns-clause-one c = λ form text a b p q. c.spells_one.ensures form text a b
    (c.reads_what_the_grammar_spells.ensures.read form text a p)
    (c.reads_what_the_grammar_spells.ensures.read form text b q)

pub returns-clause-one_fault : goal.returns-clause-one_fault
returns-clause-one_fault c = λ form text e f p q. c.has_one_fault.ensures form text e f
    (c.refuses_by_the_first_fault.ensures.read form text e p)
    (c.refuses_by_the_first_fault.ensures.read form text f q)

pub returns-clause-no_fault : goal.returns-clause-no_fault
returns-clause-no_fault c = λ form text a f p q. c.spells_without_fault.ensures form text a f
    (c.reads_what_the_grammar_spells.ensures.read form text a p)
    (c.refuses_by_the_first_fault.ensures.read form text f q)
