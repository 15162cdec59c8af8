use Rattle.ap_live.proofs.lexicon_laws.compiled_has_a_lexicon.Goals as goal

pub returns : goal.returns
returns c = λ sensitive. c.compiled_have_lexicons.ensures.exact c.args.compiled.now sensitive
    c.alphabet.ensures.sound c.sides_are_proper.ensures
