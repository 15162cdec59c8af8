use Rattle.std.proofs.Common.{ap, subst, sym}
use Rattle.ap_stream.specs.Reading.{IsRead}
use Rattle.ap_chunk.specs.Stages.{dialect_of}
use Rattle.ap_chunk.specs.Working.{Working}
use Rattle.ap_chunk.proofs.Growing.{held_on}
use Rattle.ap_chunk.proofs.Turns.{bytes_on}
use Rattle.ap_chunk.proofs.chunk_work.ChunkWorkHandler.push.Goals as goal

pub returns-clause-held : goal.returns-clause-held
returns-clause-held c = bytes_on c.push.result c.self.inside.items c.args.self.now.items
    c.push.new.self c.args.read (ap (λ (h : Working). h.items) c.self.view_is) c.push.ensures.ok

pub invariant_of-self : goal.invariant_of-self
invariant_of-self c =
    let is = subst (λ (h : Working). IsRead (dialect_of h.rules.form) c.args.read)
    (sym c.self.view_is) c.requires.is_read in
    let all = held_on c.push.result (IsRead (dialect_of c.self.inside.rules.form))
    c.self.inside.rules c.self.inside.items c.push.new.self c.args.read c.self.inside.search
    c.self.invariant.0 is c.self.invariant.1.0 c.push.ensures.ok c.push.ensures.err in
    (all.0, (all.1, c.self.invariant.1.1))
