-- The walk backwards over the units, and what the walk forwards finds.
use Rattle.std.specs.Prelude.{◌≡◌, ℕ, suc, ◌-◌, ◌<◌, ◌≤◌, Bool, true, List, [], ◌∷◌, length, reverse, get_or, Option, Some, None, refl}
use Rattle.std.specs.List.{filter}
use Rattle.std.specs.Option.{option_map}
use Rattle.std.proofs.Common.{arith, ap, sym, ◌∙◌}
use Rattle.std.proofs.lemmas.List.{length-reverse, get_or-reverse}
use Rattle.ap_choose.specs.declared.chance.Chance.{Chance}
use Rattle.ap_choose.specs.Chances.{bars_chances}
use Rattle.ap_choose.specs.Choice.{firsts, allowed_choice}
use Rattle.ap_choose.specs.Choosing.{may_go, goes_on, viable, picked, places}
use Rattle.ap_choose.specs.Numbering.{Numbered}
use Rattle.ap_choose.proofs.Choices.{some_or, allowed_best, picked_best}

filter_all : {X : Type 0} (xs : List X) → filter (λ _. true) xs ≡ xs
filter_all [] = refl
filter_all {X} (x ∷ xs) = ap (λ (q : List X). x ∷ q) (filter_all xs)

module _ {A : Type 0} (bars : A → A → Bool) where
  -- at the last unit
  pub last_unit : (unit : List A) (units behind : List (List A)) → behind ≡ reverse units →
      length behind < 1 → unit ≡ filter (goes_on bars units) unit
  last_unit unit [] behind e lt = sym (filter_all unit)
  last_unit unit (next ∷ units) behind e lt = absurd (let l = ap length e in let r =
      length-reverse (next ∷ units) in omega (arith, l, r, lt))

  -- and before it
  pub next_unit : (unit next : List A) (units behind : List (List A)) → behind ≡ reverse units →
      1 ≤ length behind → next ≡ get_or behind (length behind - 1) next →
      filter (λ one. may_go bars one next) unit ≡ filter (goes_on bars units) unit
  next_unit unit next [] behind e le is = absurd (let l = ap length e in omega (arith, l, le))
  next_unit unit next (first ∷ units) behind e le is =
      let long : length behind ≡ suc (length units) = ap length e
      ∙ length-reverse (first ∷ units) in
      let at : length behind - 1 ≡ length units = omega (arith, long) in
      let zero : length (first ∷ units) - 1 - length units ≡ 0 = omega arith in
      let found : next ≡ first =
      is ∙ ap (λ (q : List (List A)). get_or q (length behind - 1) next) e
      ∙ ap (λ (n : ℕ). get_or (reverse (first ∷ units)) n next) at
      ∙ get_or-reverse (first ∷ units) (length units) next (omega arith)
      ∙ ap (λ (n : ℕ). get_or (first ∷ units) n next) zero in
      ap (λ (q : List A). filter (λ one. may_go bars one q) unit) found

module _ (numbers : Numbered) where
  abbrev start : Chance
  start = record { place = 0; tag = None }

  chosen : (units : List (List Chance)) → allowed_choice (bars_chances numbers) units
      ≡ some_or (firsts units) (picked (bars_chances numbers) start
      (viable (bars_chances numbers) units))
  chosen units = allowed_best (bars_chances numbers) start (λ one. refl) units
      ∙ ap (some_or (firsts units)) (sym (picked_best (bars_chances numbers) start units))

  found_by : (o : Option (List Chance)) (other : List Chance) (found : List ℕ) →
      option_map places o ≡ Some found → found ≡ places (some_or other o)
  found_by None other found e = absurd (cc)
  found_by (Some row) other found e = sym (let same : places row ≡ found = cc in same)

  none_by : (o : Option (List Chance)) (other : List Chance) → option_map places o ≡ None →
      places other ≡ places (some_or other o)
  none_by None other e = refl
  none_by (Some row) other e = absurd (cc)

  module _ (units kept : List (List Chance)) (k : kept ≡ viable (bars_chances numbers) units)
      (made : Option (List ℕ))
      (m : made ≡ option_map places (picked (bars_chances numbers) (record {
        place = 0;
        tag =
            None;
      }) kept)) where
    made_is : option_map places (picked (bars_chances numbers) start
        (viable (bars_chances numbers) units)) ≡ made
    made_is = ap (λ (q : List (List Chance)). option_map places
        (picked (bars_chances numbers) start q)) (sym k) ∙ sym m

    pub chosen_some : (found : List ℕ) → made ≡ Some found →
        found ≡ places (allowed_choice (bars_chances numbers) units)
    chosen_some found e = found_by (picked (bars_chances numbers) start
        (viable (bars_chances numbers) units)) (firsts units) found (made_is ∙ e)
        ∙ ap places (sym (chosen units))

    pub chosen_none : made ≡ None → places (firsts units)
        ≡ places (allowed_choice (bars_chances numbers) units)
    chosen_none e = none_by (picked (bars_chances numbers) start
        (viable (bars_chances numbers) units)) (firsts units) (made_is ∙ e)
        ∙ ap places (sym (chosen units))
