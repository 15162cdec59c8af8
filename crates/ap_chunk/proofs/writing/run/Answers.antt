use Rattle.ap_chunk.specs.Matches.{matched_of}
use Rattle.ap_chunk.proofs.writing.run.Goals as goal

pub returns : goal.returns
returns c =
    c.act_lent.ensures.gives (matched_of c.args.rules.now.form c.args.reads.now)
    c.in_ok-units.ensures (c.has_chunk-chunk.ensures c.args.reads.now)
