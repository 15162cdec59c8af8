-- The word that a lent word stands for.
use Rattle.std.specs.Prelude.{◌≡◌, ◌<◌, List, length}
use Rattle.ap_symbol.specs.Kinds.{first_word}
use Rattle.ap_symbol.specs.Rendering.{rendering}
use Rattle.ap_symbol.specs.declared.symbol.Symbol.{Symbol}
use Rattle.ap_exec.specs.declared.lent_template.Wording.{Wording}
use Rattle.ap_exec.specs.declared.lent_template.Wording.TheVariants.{Made, Lent, First}

abbrev pub wording_in : Wording → List Symbol
wording_in (Made word) = word
wording_in (Lent word) = word.now
wording_in (First unit bytes) = first_word unit.now

-- the bytes of a unit's first word are its rendering, and there are some
abbrev pub IsWording : Wording → Type 0
IsWording (Made word) = Unit {0}
IsWording (Lent word) = Unit {0}
IsWording (First unit bytes) = (bytes.now ≡ rendering (first_word unit.now)) × (0 < length bytes.now)
