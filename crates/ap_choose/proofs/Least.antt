-- The first allowed choice is the least by the places of its readings.
use Rattle.std.specs.Prelude.{◌≡◌, ℕ, suc, ◌≤◌, Bool, true, false, not, ◌&&◌, cond, List, [], ◌∷◌, Option, Some, None, refl}
use Rattle.std.specs.Option.{option_map}
use Rattle.std.proofs.Common.{arith, ap, sym, subst, ◌∙◌, inl, inr}
use Rattle.std.proofs.lemmas.Bool.{and_parts}
use Rattle.ap_symbol.specs.declared.symbol.Symbol.{Symbol}
use Rattle.ap_choose.specs.Choice.{Reading, numbered, firsts, is_allowed, bars}
use Rattle.ap_choose.specs.Laws.{IsOneOf, IsChoice, IsNoLater, IsLeast, LeastIsChosen, units_of}
use Rattle.ap_choose.specs.declared.forbidden.Pair.{Pair}
use Rattle.ap_choose.proofs.Choices.{or_option, some_or, best, best_next, attempt, tried, allowed_best}

-- the places of these readings rise, from this one on
abbrev Rises : ℕ → List Reading → Type 0
Rises from [] = Unit {0}
Rises from (one ∷ unit) = (from ≤ one.place) × Rises (suc one.place) unit

abbrev EachRises : List (List Reading) → Type 0
EachRises [] = Unit {0}
EachRises (unit ∷ units) = Rises 0 unit × EachRises units

numbered_rises : (place : ℕ) (words : List (List Symbol)) → Rises place (numbered place words)
numbered_rises place [] = tt
numbered_rises place (word ∷ words) = (omega arith, numbered_rises (suc place) words)

units_rise : (words : List (List (List Symbol))) → EachRises (units_of words)
units_rise [] = tt
units_rise (unit ∷ words) = (numbered_rises 0 unit, units_rise words)

rises_lower : (m n : ℕ) (unit : List Reading) → m ≤ n → Rises n unit → Rises m unit
rises_lower m n [] le h = tt
rises_lower m n (one ∷ unit) le h = let a = h.0 in (omega (arith, le, a), h.1)

above : (from : ℕ) (unit : List Reading) (r : Reading) → Rises from unit → IsOneOf r unit →
    from ≤ r.place
above from [] r h is = absurd is
above from (one ∷ unit) r h (inl e) = let a = h.0 in let p = ap (λ (q : Reading). q.place) e in
    omega (arith, a, p)
above from (one ∷ unit) r h (inr more) =
    above from unit r (rises_lower from (suc one.place) unit (let a = h.0 in omega (arith, a)) h.1)
    more

module _ (pairs : List Pair) where
  abbrev may : Reading → List Reading → Bool
  may before row = is_allowed (bars pairs) (before ∷ row)

  -- a row that is found: it is a choice, may stand behind, and no other such row is before it
  record Found (before : Reading) (units : List (List Reading)) (row : List Reading) : Type 0 where
    choice : IsChoice units row
    fits : may before row ≡ true
    least : (other : List Reading) → IsChoice units other → may before other ≡ true →
        IsNoLater row other

  abbrev Finds : Reading → List (List Reading) → Option (List Reading) → Type 0
  Finds before units None = (other : List Reading) → IsChoice units other →
      may before other ≡ true → ⊥
  Finds before units (Some row) = Found before units row

  module _ (before : Reading) (units : List (List Reading)) (more : Reading → Option (List Reading))
      (finds : (one : Reading) → Finds one units (more one)) where
    -- what begins with one reading
    data Tries (one : Reading) : Option (List Reading) → Type 0 where
      fails : {o : Option (List Reading)} → o ≡ None → ((row : List Reading) → IsChoice units row →
          may before (one ∷ row) ≡ true → ⊥) → Tries one o
      gives : {o : Option (List Reading)} (row : List Reading) → o ≡ Some (one ∷ row) →
          bars pairs before one ≡ false → Found one units row → Tries one o

    barred_no : (one : Reading) (row : List Reading) → bars pairs before one ≡ true →
        may before (one ∷ row) ≡ true → ⊥
    barred_no one row e m = let n : may before (one ∷ row) ≡ false =
        ap (λ (b : Bool). not b && may one row) e in absurd (cc)

    goes_behind : (one : Reading) (row : List Reading) → may before (one ∷ row) ≡ true →
        may one row ≡ true
    goes_behind one row m = (and_parts (not (bars pairs before one)) (may one row) m).1

    tries_by : (one : Reading) (b : Bool) → bars pairs before one ≡ b →
        (o : Option (List Reading)) → Finds one units o →
        Tries one (cond b None (option_map (λ row. one ∷ row) o))
    tries_by one true e o f = fails refl (λ row c m. barred_no one row e m)
    tries_by one false e None f = fails refl (λ row c m. f row c (goes_behind one row m))
    tries_by one false e (Some row) f = gives row refl e f

    tries : (one : Reading) → Tries one (attempt (bars pairs) before more one)
    tries one = tries_by one (bars pairs before one) refl (more one) (finds one)

    later : (from : ℕ) (one : Reading) (row other : List Reading) (unit : List Reading)
        (r : Reading) → Rises (suc one.place) unit → IsOneOf r unit →
        IsNoLater (one ∷ row) (r ∷ other)
    later from one row other unit r rises is = inl (let a = above (suc one.place) unit r rises is in
        omega (arith, a))

    same_no : (one r : Reading) (row other : List Reading) → r ≡ one → IsNoLater row other →
        IsNoLater (one ∷ row) (r ∷ other)
    same_no one r row other e h = inr (sym (ap (λ (q : Reading). q.place) e), h)

    first_finds : (one : Reading) (unit : List Reading) (row : List Reading) →
        Rises (suc one.place) unit → bars pairs before one ≡ false → Found one units row →
        Found before ((one ∷ unit) ∷ units) (one ∷ row)
    first_finds one unit row rises free found = record {
      choice = (inl refl, found.choice);
      fits = ap (λ (b : Bool). not b && may one row) free ∙ found.fits;
      least = all;
    }
      where
        all : (other : List Reading) → IsChoice ((one ∷ unit) ∷ units) other →
            may before other ≡ true → IsNoLater (one ∷ row) other
        all [] c m = absurd c
        all (r ∷ other) c m = by c.0
          where
            by : IsOneOf r (one ∷ unit) → IsNoLater (one ∷ row) (r ∷ other)
            by (inl e) = same_no one r row other e
                (found.least other c.1 (goes_behind one other
                (subst (λ (q : Reading). may before (q ∷ other) ≡ true) e m)))
            by (inr is) = later 0 one row other unit r rises is

    rest_finds : (one : Reading) (unit : List Reading) (o : Option (List Reading)) →
        ((row : List Reading) → IsChoice units row → may before (one ∷ row) ≡ true → ⊥) →
        Finds before (unit ∷ units) o → Finds before ((one ∷ unit) ∷ units) o
    rest_finds one unit None never f = all
      where
        all : (other : List Reading) → IsChoice ((one ∷ unit) ∷ units) other →
            may before other ≡ true → ⊥
        all [] c m = absurd c
        all (r ∷ other) c m = by c.0
          where
            by : IsOneOf r (one ∷ unit) → ⊥
            by (inl e) = never other c.1 (subst (λ (q : Reading). may before (q ∷ other) ≡ true) e
                m)
            by (inr is) = f (r ∷ other) (is, c.1) m
    rest_finds one unit (Some row) never f = record {
      choice = wider row f.choice;
      fits = f.fits;
      least = all;
    }
      where
        wider : (row : List Reading) → IsChoice (unit ∷ units) row →
            IsChoice ((one ∷ unit) ∷ units) row
        wider [] c = absurd c
        wider (r ∷ row) c = (inr c.0, c.1)

        all : (other : List Reading) → IsChoice ((one ∷ unit) ∷ units) other →
            may before other ≡ true → IsNoLater row other
        all [] c m = absurd c
        all (r ∷ other) c m = by c.0
          where
            by : IsOneOf r (one ∷ unit) → IsNoLater row (r ∷ other)
            by (inl e) = absurd (never other c.1 (subst (λ (q : Reading). may before (q ∷ other)
                ≡ true) e m))
            by (inr is) = f.least (r ∷ other) (is, c.1) m

    one_by : (one : Reading) (unit : List Reading) (o rest : Option (List Reading)) →
        Rises (suc one.place) unit → Tries one o → Finds before (unit ∷ units) rest →
        Finds before ((one ∷ unit) ∷ units) (or_option o rest)
    one_by one unit o rest rises (fails e never) f =
        subst (λ (q : Option (List Reading)). Finds before ((one ∷ unit) ∷ units)
        (or_option q rest)) (sym e) (rest_finds one unit rest never f)
    one_by one unit o rest rises (gives row e free found) f =
        subst (λ (q : Option (List Reading)). Finds before ((one ∷ unit) ∷ units)
        (or_option q rest)) (sym e) (first_finds one unit row rises free found)

    none_finds : (other : List Reading) → IsChoice ([] ∷ units) other → may before other ≡ true → ⊥
    none_finds [] c m = absurd c
    none_finds (r ∷ other) c m = absurd c.0

    tried_finds : (from : ℕ) (unit : List Reading) → Rises from unit →
        Finds before (unit ∷ units) (tried (bars pairs) before unit more)
    tried_finds from [] rises = none_finds
    tried_finds from (one ∷ unit) rises = one_by one unit (attempt (bars pairs) before more one)
        (tried (bars pairs) before unit more) rises.1 (tries one)
        (tried_finds (suc one.place) unit rises.1)

  best_finds : (before : Reading) (units : List (List Reading)) → EachRises units →
      Finds before units (best (bars pairs) before units)
  best_finds before [] rises = record { choice = tt; fits = refl; least = all }
    where
      all : (other : List Reading) → IsChoice [] other → may before other ≡ true →
          IsNoLater [] other
      all [] c m = tt
      all (r ∷ other) c m = absurd c
  best_finds before (unit ∷ units) rises =
      subst (λ (o : Option (List Reading)). Finds before (unit ∷ units) o)
      (sym (best_next (bars pairs) before unit units))
      (tried_finds before units (λ one. best (bars pairs) one units)
      (λ one. best_finds one units rises.1) 0 unit rises.0)

  start_may : (row : List Reading) → is_allowed (bars pairs) row ≡ true →
      may (record { place = 0; tag = None }) row ≡ true
  start_may [] e = refl
  start_may (one ∷ row) e = e

  may_start : (row : List Reading) → may (record { place = 0; tag = None }) row ≡ true →
      is_allowed (bars pairs) row ≡ true
  may_start [] e = refl
  may_start (one ∷ row) e = e

  least_by : (units : List (List Reading)) (o : Option (List Reading)) →
      Finds (record { place = 0; tag = None }) units o →
      IsLeast pairs units (some_or (firsts units) o)
  least_by units None f = inr ((λ other c m. f other c (start_may other m)), refl)
  least_by units (Some row) f = inl (
    f.choice,
    may_start row f.fits,
    λ other c m. f.least other c (start_may other m),
  )

pub least_chosen : LeastIsChosen
least_chosen pairs words =
    let units : List (List Reading) = units_of words in
    let before : Reading = record { place = 0; tag = None } in
    subst (IsLeast pairs units) (sym (allowed_best (bars pairs) before (λ one. refl) units))
    (least_by pairs units (best (bars pairs) before units)
    (best_finds pairs before units (units_rise words)))
