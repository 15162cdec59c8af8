use Rattle.std.proofs.Common.{arith, rules}
use Rattle.ap_fst.proofs.MarkLaws.{known_below}
use Rattle.ap_fst.proofs.graph.StateSet.bound.Goals as goal

pub returns-then-is_empty : goal.returns-then-is_empty
returns-then-is_empty c = λ s i. let lt =
    known_below c.self.inside.marks.items c.self.inside.further.keys c.self.inside.states.items
    c.args.self.now c.self.invariant c.self.view_is (c.is_empty.ensures.0 (search rules)) s i
    in omega arith
