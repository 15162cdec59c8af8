-- Of the inside: no public contract stands on this file.
use Rattle.std.specs.Prelude.{ℕ, ◌+◌, ◌^◌, ◌<◌, ◌==◌, List, if◌then◌else◌}
use Rattle.ap_fst.specs.Lists.{IsIn}
use Rattle.ap_fst.specs.declared.draft.Move.{Move}
use Rattle.ap_fst.specs.declared.draft.Place.{Place}

abbrev pub placed : Place → ℕ → ℕ
placed p k = if k == p.start then p.start_at else (if k == p.end then p.end_at else k + p.by)

abbrev pub moved : Place → Move → Move
moved p m = record { from = placed p m.from; label = m.label; to = placed p m.to }

-- the states fit when so much is added
abbrev pub Shifts : List Move → ℕ → Type 0
Shifts moves by = (m : Move) → IsIn m moves → (m.from + by < 2 ^ 64) × (m.to + by < 2 ^ 64)
