use Rattle.ap_lookup.proofs.translator.translate_within_kept.Goals as goal

pub returns-clause-kept : goal.returns-clause-kept
returns-clause-kept c = c.cut.ensures c.args.compiled.now c.args.sensitive
    c.in_ok-made.ensures.kept.0 c.in_ok-made.ensures.kept.1
