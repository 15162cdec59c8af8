use Rattle.std.proofs.Common.{sym, rules}
use Rattle.ap_fst.proofs.Removals.{loud_one}
use Rattle.ap_fst.proofs.removal.add_loud.Goals as goal

pub returns : goal.returns
returns c = loud_one c.args.moves.now c.args.at c.in-Some.next.now c.args.arcs.now.items
    c.push.new.self.items (sym c.in-Some.ensures) (search rules) c.in_ok-push.ensures.items
