use Rattle.ap_chunk.proofs.Indexing.{added}
use Rattle.ap_chunk.proofs.patterns.add_rule.Goals as goal

pub returns : goal.returns
returns c =
    added c.args.into.now.items c.lengthen.new.into.items c.args.category c.args.rule
    c.index_mut.result.now c.push.new.self c.in_ok-lengthen.ensures.same
    c.in_ok-lengthen.ensures.within
    c.index_mut.ensures.value c.in_ok-push.ensures.items
