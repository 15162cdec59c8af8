use Rattle.ap_compound.proofs.rows.row_of.Goals as goal

pub returns-clause-lives : goal.returns-clause-lives
returns-clause-lives c = c.cut.ensures c.args.compiled.now c.args.sensitive c.args.symbols.now
    c.in_ok-lefts.ensures.lives
