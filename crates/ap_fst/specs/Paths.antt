use Rattle.std.specs.Prelude.{◌≡◌, ◌⊎◌, ℕ, List, [], ◌++◌}
use Rattle.std.specs.Option.{option_to_list}
use Rattle.ap_fst.specs.Lists.{IsIn}
use Rattle.ap_fst.specs.Sketches.{Sketch}
use Rattle.ap_fst.specs.declared.draft.Move.{Move}
use Rattle.ap_fst.specs.declared.label.Label.{Label}

-- Over these moves, from a state, with these labels, to a state.
pub data Path (moves : List Move) : ℕ → List Label → ℕ → Type 0 where
  here : {s t : ℕ} → s ≡ t → Path moves s [] t
  on : {s t : ℕ} {labels whole : List Label} (m : Move) → IsIn m moves → s ≡ m.from →
      whole ≡ option_to_list m.label ++ labels → Path moves m.to labels t → Path moves s whole t

abbrev pub Accepts : Sketch → List Label → Type 0
Accepts s labels = Path s.moves s.start labels s.finish

pub record IsJoined (a b : Sketch) (labels : List Label) : Type 0 where
  pub front : List Label
  pub back : List Label
  pub whole : labels ≡ front ++ back
  pub first : Accepts a front
  pub second : Accepts b back

abbrev pub IsEither : Sketch → Sketch → List Label → Type 0
IsEither a b labels = Accepts a labels ⊎ Accepts b labels

-- any number of strings of a draft, one after another
pub data Repeats (a : Sketch) : List Label → Type 0 where
  done : Repeats a []
  more : {whole : List Label} (front back : List Label) → whole ≡ front ++ back → Accepts a front →
      Repeats a back → Repeats a whole

-- the empty string, or one of a draft
abbrev pub IsOptional : Sketch → List Label → Type 0
IsOptional a labels = (labels ≡ []) ⊎ Accepts a labels

-- at least one string of a draft, one after another
pub record IsMoreThanNone (a : Sketch) (labels : List Label) : Type 0 where
  pub front : List Label
  pub back : List Label
  pub whole : labels ≡ front ++ back
  pub first : Accepts a front
  pub repeats : Repeats a back
