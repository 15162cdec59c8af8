use Rattle.std.proofs.Common.{◌≡◌, ◌∙◌, sym, refl, Some}
use Rattle.ap_markup.specs.Pieces.{valued_at}
use Rattle.ap_markup.specs.References.{resolved_past}
use Rattle.ap_markup.proofs.Resolved.{unchanged}
use Rattle.ap_markup.proofs.pieces.valued.Goals as goal

pub returns-clause-gives : goal.returns-clause-gives
unfolding valued_at
returns-clause-gives c =
    let value = c.in_ok-name.value.now in
    let same : resolved_past 0 value ≡ Some value =
    unchanged value (sym c.contains.ensures.value ∙ c.if-contains.false) in
    rw (
      ← c.after_spaces.ensures.value,
      c.in_ok-name.ensures.gives,
      same,
      c.in_ok-name-2.ensures,
      c.in_ok-value-3.ensures,
    ) refl
