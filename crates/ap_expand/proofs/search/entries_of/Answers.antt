use Rattle.std.proofs.Common.{◌∙◌, sym}
use Rattle.ap_expand.proofs.Paradigms.{entries_at-index, entries_at-past}
use Rattle.ap_expand.proofs.search.entries_of.Goals as goal

pub returns-then-number-pardefs : goal.returns-then-number-pardefs
returns-then-number-pardefs c =
    c.as_slice.ensures ∙ sym
    (entries_at-index c.args.pardefs.now c.args.number c.index-pardefs-number.result
    c.if-number-pardefs.true c.index-pardefs-number.is)

pub returns-else-number-pardefs : goal.returns-else-number-pardefs
returns-else-number-pardefs c =
    sym (entries_at-past c.args.pardefs.now c.args.number c.if-number-pardefs.false)
