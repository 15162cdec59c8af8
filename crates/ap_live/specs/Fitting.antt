use Rattle.std.specs.Prelude.{Bool, true, false, ◌&&◌, List, [], ◌∷◌, Option, Some, None}
use Rattle.ap_symbol.specs.Fitting.{fits_lem}
use Rattle.ap_symbol.specs.declared.symbol.Symbol.{Symbol}
use Rattle.ap_fst.specs.declared.label.Edge.{Edge}
use Rattle.ap_live.specs.declared.picking.Pick.{Pick}
use Rattle.ap_live.specs.declared.picking.Pick.TheVariants.{Silent, Fitting}

-- an input: a symbol, and whether case counts at this step
pub record Input : Type 0 where
  pub symbol : Symbol
  pub sensitive : Bool

-- symbols fit inputs where they are as many and fit one by one, each under the flag of its own step
abbrev pub fits_inputs : List Symbol → List Input → Bool
fits_inputs [] [] = true
fits_inputs (x ∷ symbols) (input ∷ inputs) = fits_lem input.sensitive x input.symbol
    && fits_inputs symbols inputs
fits_inputs _ _ = false

-- the left side has a symbol, and it fits
abbrev pub fits_side : Input → Option Symbol → Bool
fits_side input None = false
fits_side input (Some x) = fits_lem input.sensitive x input.symbol

abbrev pub is_empty_side : Option Symbol → Bool
is_empty_side None = true
is_empty_side (Some x) = false

-- which edges are picked: those with an empty left side, or those that fit an input
abbrev pub picks : Option Input → Edge → Bool
picks None e = is_empty_side e.label.left
picks (Some input) e = fits_side input e.label.left

abbrev pub pick_of : Pick → Option Input
pick_of Silent = None
pick_of (Fitting input sensitive) = Some (record { symbol = input.now; sensitive = sensitive })
