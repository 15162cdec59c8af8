use Rattle.std.proofs.Common.{◌∙◌}
use Rattle.ap_chunk.proofs.Indexing.{lengthened}
use Rattle.ap_chunk.proofs.patterns.lengthen.Goals as goal

pub room-preserved : goal.room-preserved
room-preserved c = λ n. lengthened c.room.into.items c.push.new.self.items c.new.result n
    c.in_ok-push.ensures.items c.new.ensures.items ∙ c.room.invariant n
