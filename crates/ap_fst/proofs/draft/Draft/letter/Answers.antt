use Rattle.std.proofs.Common.{Some}
use Rattle.ap_fst.proofs.Laws.{single_law}
use Rattle.ap_fst.proofs.draft.Draft.letter.Goals as goal

pub returns : goal.returns
returns c = single_law (Some c.args.label) c.new-moves.result.items c.push.new.self.items
    c.new-moves.ensures.items c.in_ok-push.ensures.items
