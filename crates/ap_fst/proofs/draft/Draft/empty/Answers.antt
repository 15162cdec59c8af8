use Rattle.std.proofs.Common.{None}
use Rattle.ap_fst.proofs.Laws.{single_law}
use Rattle.ap_fst.proofs.draft.Draft.empty.Goals as goal

pub returns : goal.returns
returns c = single_law (None) c.new-moves.result.items c.push.new.self.items
    c.new-moves.ensures.items c.in_ok-push.ensures.items
