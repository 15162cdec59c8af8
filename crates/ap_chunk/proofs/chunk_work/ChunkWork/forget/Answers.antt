use Rattle.std.proofs.Common.{sym, subst, List}
use Rattle.std.specs.List.{AllByRecursion}
use Rattle.ap_stream.specs.Reading.{IsRead}
use Rattle.ap_stream.specs.declared.item.Read.{Read}
use Rattle.ap_stream.proofs.StepLaws.{all_left}
use Rattle.ap_chunk.specs.Stages.{dialect_of}
use Rattle.ap_chunk.proofs.chunk_work.ChunkWork.forget.Goals as goal

pub invariant_of-self : goal.invariant_of-self
invariant_of-self c = (
  subst (λ (items : List Read). AllByRecursion (IsRead (dialect_of c.self.inside.rules.form)) items)
      (sym c.forget.ensures)
      (all_left (IsRead (dialect_of c.self.inside.rules.form)) c.self.inside.items c.args.count
      c.self.invariant.0),
  (
    c.restart.ensures c.self.inside.rules c.self.inside.items c.forget.new.self
        c.self.invariant.1.0,
    c.self.invariant.1.1,
  ),
)
