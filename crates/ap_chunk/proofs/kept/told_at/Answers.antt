use Rattle.std.proofs.Common.{◌≡◌, arith, sym, ◌∙◌}
use Rattle.std.proofs.lemmas.Slice.Eq.{bytes_eq-Decides}
use Rattle.ap_chunk.proofs.Keepings.{told_there}
use Rattle.ap_chunk.proofs.kept.told_at.Goals as goal

pub returns-then-is_same : goal.returns-then-is_same
returns-then-is_same c = λ given all.
    let same : c.as_slice.result.now ≡ c.args.key.now =
    (bytes_eq-Decides c.as_slice.result.now c.args.key.now).0
    (sym c.is_same.ensures ∙ c.if-is_same.true) in
    told_there given c.args.rows.now c.args.at c.index-rows-at.result c.args.key.now
    c.as_slice-then-is_same.result.now (omega (arith, c.if-at-rows.false))
    c.index-rows-at.is (sym c.as_slice.ensures.value ∙ same) c.as_slice-then-is_same.ensures.value all
