use Rattle.std.proofs.Common.{inl, nat_eq}
use Rattle.indexmap.specs.IndexMap.{get}
use Rattle.ap_fst.proofs.Removals.{row_kept}
use Rattle.ap_fst.proofs.removal.keep_row.Goals as goal

pub returns-then-is_empty : goal.returns-then-is_empty
returns-then-is_empty c = λ s r at. inl at

pub returns : goal.returns
returns c = row_kept c.args.state c.args.row (get nat_eq c.args.rows.now)
    (get nat_eq c.insert.new.self) c.in_ok-insert.ensures.updates.0
