use Rattle.std.proofs.Common.{refl}
use Rattle.ap_chunk.proofs.Walks.{gap_on, gap_end}
use Rattle.ap_chunk.proofs.search.Walk.step_blank.Goals as goal

pub returns-then-self-clause-on : goal.returns-then-self-clause-on
returns-then-self-clause-on c = λ e parts is next. gap_on parts c.args.self.now _ refl is
    c.if-self.true next

pub returns-clause-ends : goal.returns-clause-ends
returns-clause-ends c = λ e parts is next. gap_end parts c.args.self.now is.walked c.if-self.false
    next
