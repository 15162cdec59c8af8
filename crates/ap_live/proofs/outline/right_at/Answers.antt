use Rattle.std.proofs.Common.{◌∙◌, List, ap, slice_get, sym}
use Rattle.ap_live.specs.declared.outline.Entry.{Entry}
use Rattle.ap_live.proofs.outline.right_at.Goals as goal

pub returns-in-Some : goal.returns-in-Some
returns-in-Some c = λ edges e is at. (is.entries c.args.place e c.in-Some.entry at
    (ap (λ (z : List Entry). slice_get z c.args.place) (sym c.as_slice.ensures.value)
    ∙ sym c.entry_at.ensures ∙ c.in-Some.is)).right_is
