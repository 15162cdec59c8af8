use Rattle.std.proofs.Common.{◌≡◌, refl, true, false}
use Rattle.ap_compile.proofs.Silences.{no_empty_more, first_at}
use Rattle.ap_compile.proofs.empties.first_empty_entry.Goals as goal

pub returns-then-is_entry_empty : goal.returns-then-is_entry_empty
returns-then-is_entry_empty c =
    λ d are. first_at d c.args.direction c.args.entries.now c.entry-item.result c.entry-item.result
    c.loop-entry.entry-index c.entry-item.result.line c.loop-entry-test.true c.entry-item.is refl
    (c.loop-entry.invariant d are) ((c.is_entry_empty.ensures d are).0 c.if-is_entry_empty.true)

pub loop-entry-preserved : goal.loop-entry-preserved
loop-entry-preserved c =
    λ d are. no_empty_more d c.args.direction c.args.entries.now c.entry-item.result
    c.entry-item.result c.loop-entry.entry-index c.loop-entry-test.true c.entry-item.is
    (c.loop-entry.invariant d are) (λ e. let t : c.is_entry_empty.result ≡ true =
    (c.is_entry_empty.ensures d are).1 e in let f : c.is_entry_empty.result ≡ false =
    c.if-is_entry_empty.false in cc)
