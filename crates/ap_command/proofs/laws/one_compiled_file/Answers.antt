use Rattle.ap_command.proofs.laws.one_compiled_file.Goals as goal

pub returns-clause-one : goal.returns-clause-one
returns-clause-one c = λ text a b p q. c.spells_one.ensures text a b
    ((c.spells_texts.ensures text a).1 p) ((c.spells_texts.ensures text b).1 q)

pub returns-clause-one_fault : goal.returns-clause-one_fault
returns-clause-one_fault c = λ text e f p q. c.has_one_fault.ensures text e f
    ((c.first_fault_in_sentences.ensures text e).1 p)
    ((c.first_fault_in_sentences.ensures text f).1 q)

pub returns-clause-no_fault : goal.returns-clause-no_fault
returns-clause-no_fault c = λ text a f p q. c.spells_without_fault.ensures text a f
    ((c.spells_texts.ensures text a).1 p) ((c.first_fault_in_sentences.ensures text f).1 q)
