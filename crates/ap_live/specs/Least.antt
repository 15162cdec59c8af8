-- The least of the words that inputs give, found from the ends of ways of which the least alone are
-- gone back from.
use Rattle.std.specs.Prelude.{◌≡◌, ◌≢◌, true, List, ◌++◌, map, reverse}
use Rattle.std.specs.declared.cmp.Ordering.TheVariants.{Greater}
use Rattle.ap_symbol.specs.Recasing.{carry_lem}
use Rattle.ap_symbol.specs.Rendering.{word_cmp}
use Rattle.ap_symbol.specs.declared.recasing.Case.{Case}
use Rattle.ap_symbol.specs.declared.symbol.Symbol.{Symbol}
use Rattle.ap_fst.specs.Lists.{IsIn}
use Rattle.ap_fst.specs.Machines.{Machine}
use Rattle.ap_fst.specs.declared.label.Edge.{Edge}
use Rattle.ap_live.specs.Fitting.{Input}
use Rattle.ap_live.specs.Outputs.{IsOutput}
use Rattle.ap_live.specs.Rows.{Reach}
use Rattle.ap_live.specs.Tails.{BackFrom, BackMany, BaseTail, Tail}
use Rattle.ap_live.specs.declared.arrivals.Arrival.{Arrival}
use Rattle.ap_live.specs.declared.items.Item.{Item}

-- The first word doesn't stand behind the second, once the case is carried to both.
pub record IsNoLater (case : Case) (a b : List Symbol) : Type 0 where
  pub order : word_cmp (carry_lem case a) (carry_lem case b) ≢ Greater

-- The same of two ends of words, last symbols first, whatever stands before both.
pub record EndsNoLater (case : Case) (a b : List Symbol) : Type 0 where
  pub order : (front : List Symbol) → word_cmp (carry_lem case (front ++ reverse a))
      (carry_lem case (front ++ reverse b)) ≢ Greater

-- One of the items has this item's state, and its end is no later.
pub record IsMatched (case : Case) (items : List Item) (x : Item) : Type 0 where
  pub item : Item
  pub listed : IsIn item items
  pub same : item.state ≡ x.state
  pub ends : EndsNoLater case item.back x.back

-- items of these, which match each of them
pub record Thins (case : Case) (items kept : List Item) : Type 0 where
  pub sound : (x : Item) → IsIn x kept → IsIn x items
  pub least : (x : Item) → IsIn x items → IsMatched case kept x

-- items that these links lead back to, which match these and all that is behind them by a link
pub record ClosesLeast (edges : List Edge) (links : List Arrival) (case : Case)
    (base items : List Item) : Type 0 where
  pub sound : (x : Item) → IsIn x items → BackMany edges links base x
  pub given_in : (x : Item) → IsIn x base → IsMatched case items x
  pub closed : (x : Item) → BackFrom edges true links items x → IsMatched case items x

-- what leads on to a final state, and matches all that can be reached here and does
pub record AreLeast (m : Machine) (case : Case) (seen later : List Input)
    (items : List Item) : Type 0 where
  pub sound : (x : Item) → IsIn x items → Tail m later x.state x.back
  pub least : (x : Item) → Reach m.edges seen x.state → Tail m later x.state x.back
      → IsMatched case items x

-- the same of what doesn't begin with an empty left side
pub record AreLeastBase (m : Machine) (case : Case) (seen later : List Input)
    (items : List Item) : Type 0 where
  pub sound : (x : Item) → IsIn x items → Tail m later x.state x.back
  pub least : (x : Item) → Reach m.edges seen x.state → BaseTail m later x.state x.back
      → IsMatched case items x

-- One of the words is no later than this one.
pub record IsMet (case : Case) (words : List (List Symbol)) (w : List Symbol) : Type 0 where
  pub word : List Symbol
  pub listed : IsIn word words
  pub earlier : IsNoLater case word w

-- outputs of the inputs, one of which is no later than any
pub record HoldLeast (m : Machine) (case : Case) (seen : List Input)
    (words : List (List Symbol)) : Type 0 where
  pub sound : (w : List Symbol) → IsIn w words → IsOutput m seen w
  pub least : (w : List Symbol) → IsOutput m seen w → IsMet case words w

-- Some of these words are held, one of which is no later than any of them.
pub record HoldsLeast (case : Case) (words some : List (List Symbol)) : Type 0 where
  pub sound : (w : List Symbol) → IsIn w some → IsIn w words
  pub least : (w : List Symbol) → IsIn w words → IsMet case some w

-- Some of these words are added, each with the case, one of which is no later than any of them.
pub record AddsLeast (case : Case) (words old new : List (List Symbol)) : Type 0 where
  pub some : List (List Symbol)
  pub holds : HoldsLeast case words some
  pub added : new ≡ old ++ map (carry_lem case) some

-- one of the words stands before this one, or is it
pub record IsAtOrBefore (words : List (List Symbol)) (w : List Symbol) : Type 0 where
  pub word : List Symbol
  pub listed : IsIn word words
  pub order : word_cmp word w ≢ Greater

-- some of these words, of which one stands before each or is it
pub record HoldsFirst (words some : List (List Symbol)) : Type 0 where
  pub sound : (w : List Symbol) → IsIn w some → IsIn w words
  pub first : (w : List Symbol) → IsIn w words → IsAtOrBefore some w
