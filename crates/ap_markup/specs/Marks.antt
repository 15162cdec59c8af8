-- The mark of a fault, whose kind has a number.
use Rattle.std.specs.Prelude.{ℕ}
use Rattle.ap_markup.specs.declared.marks.Mark.{Mark}

-- its place and its number
abbrev pub mark_order : {K : Type 0} → (K → ℕ) → Mark K → ℕ × ℕ
mark_order number m = (m.place, number m.kind)
