use Rattle.std.proofs.Common.{arith}
use Rattle.ap_fst.proofs.MarkLaws.{marked_as, listed_as}
use Rattle.ap_fst.proofs.graph.StateSet.contains.Goals as goal

pub returns-then-state-len : goal.returns-then-state-len
returns-then-state-len c =
    marked_as c.self.inside.marks.items c.self.inside.further.keys c.self.inside.states.items
    c.args.self.now c.args.state c.index.result.now c.self.invariant c.self.view_is (omega arith)
    c.index.ensures

pub returns : goal.returns
returns c = listed_as c.self.inside.marks.items c.self.inside.further.keys
    c.self.inside.states.items c.args.self.now c.args.state c.contains.result c.self.invariant
    c.self.view_is (omega arith) c.contains.ensures
