use Rattle.std.proofs.Common.{◌≡◌, ◌+◌, sym, subst, drop}
use Rattle.ap_expand.specs.Uses.{shared_uses, entries_uses}
use Rattle.ap_expand.specs.declared.uses.Uses.{Uses}
use Rattle.ap_expand.proofs.Using.{entries-on, entries-done}
use Rattle.ap_expand.proofs.uses.entries_uses.Goals as goal

pub loop-entry-preserved : goal.loop-entry-preserved
loop-entry-preserved c =
    subst (λ (u : Uses). shared_uses u (entries_uses c.args.uses.now
    (drop (c.loop-entry.entry-index + 1) c.args.entries.now))
    ≡ entries_uses c.args.uses.now c.args.entries.now) (sym c.with_entry-made.ensures)
    (entries-on c.args.uses.now c.args.entries.now c.loop-entry.entry-index c.entry-item.result
    c.loop-entry.made c.loop-entry-test.true c.entry-item.is c.loop-entry.invariant)

pub returns : goal.returns
returns c = entries-done c.args.uses.now c.args.entries.now c.loop-entry.entry-index
    c.loop-entry.made c.loop-entry-test.false c.loop-entry.invariant
