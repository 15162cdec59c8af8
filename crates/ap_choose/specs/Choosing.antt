-- Of the inside: no public contract stands on this file.
-- How a choice is found: backwards over the units, which of their readings can go on to the end,
-- and then forwards, the
-- first that may follow.
use Rattle.std.specs.Prelude.{Bool, true, not, List, [], ◌∷◌, map, ℕ, Option, Some, None}
use Rattle.std.specs.List.{filter, find, list_any}
use Rattle.std.specs.Option.{option_map}
use Rattle.ap_choose.specs.declared.chance.Chance.{Chance}

abbrev pub picked_by : {A : Type 0} → Option A → (A → Option (List A)) → Option (List A)
picked_by None more = None
picked_by (Some one) more = option_map (λ row. one ∷ row) (more one)

module _ {A : Type 0} (bars : A → A → Bool) where
  -- one of these may follow
  abbrev pub may_go : A → List A → Bool
  may_go one next = list_any (λ other. not (bars one other)) next

  -- at the last unit any reading can go on, and else one that a reading of the next unit may follow
  abbrev pub goes_on : List (List A) → A → Bool
  goes_on [] one = true
  goes_on (next ∷ units) one = may_go one next

  -- of each unit the readings that can go on to the end
  abbrev pub viable : List (List A) → List (List A)
  viable [] = []
  viable (unit ∷ units) = filter (goes_on (viable units)) unit ∷ viable units

  -- the first that may follow
  abbrev pub fitting : A → List A → Option A
  fitting before unit = find (λ one. not (bars before one)) unit

  -- the first that may follow, of each unit in turn
  abbrev pub picked : A → List (List A) → Option (List A)
  picked before [] = Some []
  picked before (unit ∷ units) = picked_by (fitting before unit) (λ one. picked one units)

abbrev pub places : List Chance → List ℕ
places row = map (λ chance. chance.place) row
