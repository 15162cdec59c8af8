use Rattle.std.proofs.Common.{◌≡◌, drop}
use Rattle.ap_expand.specs.Uses.{shared_uses, entries_uses}
use Rattle.ap_expand.proofs.uses.entries_uses.Given as goal

abbrev pub invariant-loop-entry : goal.invariant-loop-entry
invariant-loop-entry l = shared_uses l.made (entries_uses l.uses (drop l.entry-index l.entries))
    ≡ entries_uses l.uses l.entries
