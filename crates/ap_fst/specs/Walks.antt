use Rattle.std.specs.Prelude.{◌≡◌, ℕ, List, [], ◌∷◌, Some, slice_get}
use Rattle.ap_fst.specs.Lists.{IsIn}
use Rattle.ap_fst.specs.Machines.{Machine}
use Rattle.ap_fst.specs.declared.label.Label.{Label}
use Rattle.ap_fst.specs.declared.label.Edge.{Edge}

-- Over these edges, from a state, with these labels, to a state. An edge is named by its place.
pub data Walk (edges : List Edge) : ℕ → List Label → ℕ → Type 0 where
  ends : {s t : ℕ} → s ≡ t → Walk edges s [] t
  goes : {s t : ℕ} {labels whole : List Label} (j : ℕ) (e : Edge) → slice_get edges j ≡ Some e →
      s ≡ e.from → whole ≡ e.label ∷ labels → Walk edges e.to labels t → Walk edges s whole t

-- The transducer accepts these labels: they lead from the start to a final state.
pub record AcceptsLabels (m : Machine) (labels : List Label) : Type 0 where
  pub last : ℕ
  pub final : IsIn last m.finals
  pub walk : Walk m.edges 0 labels last
