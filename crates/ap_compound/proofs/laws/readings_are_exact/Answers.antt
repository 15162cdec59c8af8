use Rattle.ap_compound.proofs.Exactly.{readings_sorted, readings_exact}
use Rattle.ap_compound.proofs.laws.readings_are_exact.Goals as goal

pub returns : goal.returns
returns c = λ p sensitive surface compiled. (
  readings_sorted c.one_rendering.ensures p sensitive compiled surface,
  readings_exact c.one_rendering.ensures p sensitive compiled surface,
)
