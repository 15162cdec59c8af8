-- Of the inside: no public contract stands on this file.
-- The paths from the start to a state, gone back from there, and what edges write.
use Rattle.std.specs.Prelude.{◌≡◌, ℕ, List, [], ◌∷◌, ◌++◌, Option, Some, None, slice_get}
use Rattle.std.specs.List.{flat_map}
use Rattle.std.specs.Option.{option_to_list}
use Rattle.ap_symbol.specs.declared.symbol.Symbol.{Symbol}
use Rattle.ap_fst.specs.Lists.{IsIn}
use Rattle.ap_fst.specs.Machines.{Machine}
use Rattle.ap_fst.specs.declared.label.Edge.{Edge}
use Rattle.ap_live.specs.Fitting.{Input}
use Rattle.ap_live.specs.Spreads.{Picked}

-- From the start these inputs lead to a state, with this output, last symbol first.
pub data Head (edges : List Edge) : List Input → ℕ → List Symbol → Type 0 where
  begin : {seen : List Input} {s : ℕ} {back : List Symbol} → seen ≡ [] → s ≡ 0 → back ≡ [] →
      Head edges seen s back
  silent : {seen : List Input} {s : ℕ} {back : List Symbol} (f j : ℕ) (rest : List Symbol)
      (p : Picked edges None f s j) → back ≡ option_to_list p.edge.label.right ++ rest →
      Head edges seen f rest → Head edges seen s back
  taken : {seen : List Input} {s : ℕ} {back : List Symbol} (before : List Input) (input : Input)
      (f j : ℕ) (rest : List Symbol) (p : Picked edges (Some input) f s j) →
      seen ≡ before ++ input ∷ [] → back ≡ option_to_list p.edge.label.right ++ rest →
      Head edges before f rest → Head edges seen s back

-- A path of these inputs from the start ends at a final state, with this output, last symbol first.
pub record HasEnd (m : Machine) (seen : List Input) (whole : List Symbol) : Type 0 where
  pub end : ℕ
  pub final : IsIn end m.finals
  pub head : Head m.edges seen end whole

-- what the edge writes, if there is one
abbrev pub written_by : Option Edge → List Symbol
written_by None = []
written_by (Some e) = option_to_list e.label.right

-- what the edges at these places write
abbrev pub written : List Edge → List ℕ → List Symbol
written edges places = flat_map (λ j. written_by (slice_get edges j)) places
