use Rattle.std.proofs.Common.{◌∙◌, ◌<◌, sym, subst, List, length}
use Rattle.ap_stream.specs.declared.item.Read.{Read}
use Rattle.ap_chunk.specs.Searching.{IsFront}
use Rattle.ap_chunk.specs.Working.{Working}
use Rattle.ap_chunk.proofs.Fronts.{front_in}
use Rattle.ap_chunk.proofs.Firsts.{settled}
use Rattle.ap_chunk.proofs.chunk_work.ChunkWork.next.Goals as goal

pub returns-in_ok-made-in-Some-clause-step : goal.returns-in_ok-made-in-Some-clause-step
returns-in_ok-made-in-Some-clause-step c =
    let some = subst (λ (h : Working). 0 < length h.items) (sym c.self.view_is) c.requires in
    let front = c.in-Some.front in
    let found = front_in c.self.inside.finished c.self.inside.rules c.as_slice-reads.result.now
    c.in_ok-look.field-0 front c.in-Some.is c.in_ok-look.ensures.found in
    let is =
    subst (λ (reads : List Read). IsFront c.self.inside.finished c.self.inside.rules reads
    front) c.as_slice-reads.ensures found in
    rw (← c.self.view_is)
    (λ xs last. settled c.self.inside.finished c.self.inside.rules c.self.inside.vars
    c.self.inside.items front is some xs last ∙ sym c.in_ok-made-in-Some.ensures)
