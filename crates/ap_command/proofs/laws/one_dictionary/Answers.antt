use Rattle.ap_command.proofs.laws.one_dictionary.Goals as goal

pub returns-clause-one : goal.returns-clause-one
returns-clause-one c = λ text a b p q. c.spells_one.ensures text a b
    (c.reads_what_the_grammar_spells.ensures.read text a p)
    (c.reads_what_the_grammar_spells.ensures.read text b q)

pub returns-clause-one_fault : goal.returns-clause-one_fault
returns-clause-one_fault c = λ text e f p q. c.has_one_fault.ensures text e f
    (c.refuses_by_the_first_fault.ensures.read text e p)
    (c.refuses_by_the_first_fault.ensures.read text f q)

pub returns-clause-no_fault : goal.returns-clause-no_fault
returns-clause-no_fault c = λ text a f p q. c.spells_without_fault.ensures text a f
    (c.reads_what_the_grammar_spells.ensures.read text a p)
    (c.refuses_by_the_first_fault.ensures.read text f q)
