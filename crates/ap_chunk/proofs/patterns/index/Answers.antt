use Rattle.std.proofs.Common.{◌==◌, ◌&&◌, ◌||◌, ◌∙◌, ap}
use Rattle.ap_chunk.specs.Patterns.{lists, list_at, has, begins_with}
use Rattle.ap_chunk.proofs.Indexing.{index_more}
use Rattle.ap_chunk.proofs.patterns.index.Goals as goal

pub loop-rule-preserved : goal.loop-rule-preserved
loop-rule-preserved c =
    index_more c.args.patterns.now c.loop-rule.rule c.index-patterns-rule.result
    (lists c.loop-rule.made.items) (lists c.index_rule.new.into.items) c.loop-rule-test.true
    c.index-patterns-rule.is c.loop-rule.invariant
    (λ k r. c.in_ok-index_rule.ensures k r
    ∙ ap (λ l. has (list_at (lists c.loop-rule.made.items) k) r
    || (begins_with k l && (c.loop-rule.rule == r))) c.as_slice.ensures.value)
