use Rattle.std.proofs.Common.{arith}
use Rattle.ap_fst.proofs.MarkLaws.{known_marked, known_further, grows_push}
use Rattle.ap_fst.proofs.graph.StateSet.add.Goals as goal

pub invariant_of-self-then-state-len : goal.invariant_of-self-then-state-len
invariant_of-self-then-state-len c =
    known_marked c.self.inside.marks.items c.self.inside.further.keys c.self.inside.states.items
    c.push.new.self.items c.args.state c.self.invariant (omega arith) c.in_ok-push.ensures.items

pub returns-then-state-len : goal.returns-then-state-len
returns-then-state-len c =
    grows_push c.args.self.now c.self.inside.states.items c.push.new.self.items c.args.state
    c.self.view_is c.in_ok-push.ensures.items

pub invariant_of-self-in_default : goal.invariant_of-self-in_default
invariant_of-self-in_default c =
    known_further c.self.inside.marks.items c.self.inside.further.keys c.insert.new.self.keys
    c.self.inside.states.items c.push.new.self.items c.args.state c.self.invariant (omega arith)
    c.in_default.ensures.keys c.in_ok-push.ensures.items

pub returns : goal.returns
returns c = grows_push c.args.self.now c.self.inside.states.items c.push.new.self.items c.args.state
    c.self.view_is c.in_ok-push.ensures.items
