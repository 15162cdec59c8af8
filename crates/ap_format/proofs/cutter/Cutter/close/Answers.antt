use Rattle.std.proofs.Common.{◌∙◌, ap, ◌+◌, List, ℕ, length}
use Rattle.ap_stream.specs.Reading.{counted}
use Rattle.ap_format.proofs.Moving.{closes_run}
use Rattle.ap_format.proofs.cutter.Cutter.close.Goals as goal

pub returns-clause-closes : goal.returns-clause-closes
returns-clause-closes c =
    rw (← c.self.view_is)
    (closes_run _ _ _ _ (rw (← c.self.view_is) at c.requires.white)
    (rw (← c.self.view_is) at c.requires.some) (rw (← c.self.view_is) at c.requires.short)
    c.clear.ensures.items
    (c.place_after-self-inside.ensures
    ∙ ap (λ (s : List ℕ). counted (c.self.inside.place + length s)) c.as_slice-2.ensures.value)
    (rw c.as_slice.ensures.value at c.in_ok-write_run.ensures))
