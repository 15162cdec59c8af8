-- Of the inside: no public contract stands on this file.
-- A transducer whose states are pairs: of a state of an analyser, and of what is known of the right
-- word so far.
use Rattle.std.specs.Prelude.{◌≡◌, ℕ, ◌<◌, ◌≤◌, ◌↔◌, List, [], ◌∷◌, ◌++◌, Some, slice_get, length}
use Rattle.std.specs.Option.{option_to_list}
use Rattle.std.specs.Ordering.{nat_cmp}
use Rattle.ap_symbol.specs.declared.symbol.Symbol.{Symbol}
use Rattle.ap_fst.specs.Lists.{IsIn, Ascends}
use Rattle.ap_fst.specs.Machines.{Machine}
use Rattle.ap_fst.specs.declared.label.Edge.{Edge}
use Rattle.ap_det.specs.Subsets.{start_cmp}
use Rattle.ap_trim.specs.Numbers.{Keeps}
use Rattle.ap_trim.specs.Stepping.{BeginsWith, IsGoodSight}
use Rattle.ap_trim.specs.Watching.{Sight, sight_of, Sees}
use Rattle.ap_trim.specs.declared.pairs.Pair.{Pair}
use Rattle.ap_trim.specs.declared.watch.Watch.{Watch}

-- a watch that stands for something
pub record HasSight (sets : List (List ℕ)) (watch : Watch) : Type 0 where
  pub sight : Sight
  pub at : sight_of sets watch ≡ Some sight

-- behind this side the second watch says of the word what the first one says before it
pub record GoesOn (b : Machine) (sets : List (List ℕ)) (before after : Watch) (side : List Symbol) :
    Type 0 where
  pub old : Sight
  pub old_at : sight_of sets before ≡ Some old
  pub new : Sight
  pub new_at : sight_of sets after ≡ Some new
  pub sees : (word : List Symbol) → Sees b old word → Sees b new (word ++ side)

-- the pair with a number has a state and a watch on which a watch goes on
pub record IsTarget (b : Machine) (sets : List (List ℕ)) (pairs : List Pair) (watch : Watch)
    (exit e : Edge) : Type 0 where
  pub label_is : e.label ≡ exit.label
  pub target : Pair
  pub target_at : slice_get pairs e.to ≡ Some target
  pub state_is : target.state ≡ exit.to
  pub goes : GoesOn b sets watch target.watch (option_to_list exit.label.right)

-- edges from a pair's number, one for each of these edges from its state
abbrev pub Follow : Machine → List (List ℕ) → List Pair → Watch → ℕ → List Edge → List Edge → Type 0
Follow b sets pairs watch number [] [] = Unit {0}
Follow b sets pairs watch number (exit ∷ exits) (e ∷ outs) =
    ((e.from ≡ number) × IsTarget b sets pairs watch exit e) ×
    Follow b sets pairs watch number exits outs
Follow b sets pairs watch number _ _ = ⊥

-- these were added
pub record AddsOuts (b : Machine) (watch : Watch) (number : ℕ) (exits : List Edge)
    (old_sets sets : List (List ℕ)) (old_pairs pairs : List Pair) (old new : List Edge) : Type
    0 where
  pub outs : List Edge
  pub grown : new ≡ old ++ outs
  pub follow : Follow b sets pairs watch number exits outs
  pub keeps_sets : Keeps old_sets sets
  pub keeps_pairs : Keeps old_pairs pairs
  pub sights : (i : ℕ) (pair : Pair) → length old_pairs ≤ i → slice_get pairs i ≡ Some pair →
      HasSight sets pair.watch

-- an edge of the product, which comes of an edge of the analyser
pub record IsPairEdge (m b : Machine) (sets : List (List ℕ)) (pairs : List Pair) (e : Edge) : Type
    0 where
  pub pair : Pair
  pub pair_at : slice_get pairs e.from ≡ Some pair
  pub exit : Edge
  pub listed : IsIn exit m.edges
  pub from_is : exit.from ≡ pair.state
  pub target : IsTarget b sets pairs pair.watch exit e

-- an edge from the number comes of this edge of the analyser
pub record LeavesTo (b : Machine) (sets : List (List ℕ)) (pairs : List Pair) (watch : Watch)
    (edges : List Edge) (number : ℕ) (exit : Edge) : Type 0 where
  pub edge : Edge
  pub listed : IsIn edge edges
  pub from_is : edge.from ≡ number
  pub target : IsTarget b sets pairs watch exit edge

-- a pair of the start and a watch that is true of the empty word
pub record IsFirst (b : Machine) (sets : List (List ℕ)) (pairs : List Pair) : Type 0 where
  pub pair : Pair
  pub pair_at : slice_get pairs 0 ≡ Some pair
  pub state_is : pair.state ≡ 0
  pub begins : BeginsWith b sets pair.watch

-- the pair has a final state and a watch on which the word is kept
pub record IsGoodPair (m b : Machine) (sets : List (List ℕ)) (pair : Pair) : Type 0 where
  pub final : IsIn pair.state m.finals
  pub good : IsGoodSight b sets pair.watch

-- the number goes last where its pair is so, and else nothing changes
pub data AddsFinal (m b : Machine) (sets : List (List ℕ)) (pair : Pair) (number : ℕ)
    (old new : List ℕ) : Type 0 where
  added : IsGoodPair m b sets pair → new ≡ old ++ number ∷ [] →
      AddsFinal m b sets pair number old new
  same : (IsGoodPair m b sets pair → ⊥) → new ≡ old → AddsFinal m b sets pair number old new

-- the pair with this number, below the bound, is so
pub record IsFinalPair (m b : Machine) (bound : ℕ) (sets : List (List ℕ)) (pairs : List Pair)
    (number : ℕ) : Type 0 where
  pub below : number < bound
  pub pair : Pair
  pub pair_at : slice_get pairs number ≡ Some pair
  pub good : IsGoodPair m b sets pair

-- Pairs have numbers, the first has the start, and of the first so many all edges are made.
pub record AreProduct (m b : Machine) (bound : ℕ) (sets : List (List ℕ)) (pairs : List Pair)
    (edges : List Edge) (finals : List ℕ) : Type 0 where
  pub first : IsFirst b sets pairs
  pub sights : (i : ℕ) (pair : Pair) → slice_get pairs i ≡ Some pair → HasSight sets pair.watch
  pub sound : (e : Edge) → IsIn e edges → IsPairEdge m b sets pairs e
  pub below : (e : Edge) → IsIn e edges → e.from < bound
  pub all : (i : ℕ) (pair : Pair) (exit : Edge) → i < bound → slice_get pairs i ≡ Some pair →
      IsIn exit m.edges → exit.from ≡ pair.state → LeavesTo b sets pairs pair.watch edges i exit
  pub ascend : Ascends start_cmp edges
  pub final : (i : ℕ) → IsIn i finals ↔ IsFinalPair m b bound sets pairs i
  pub finals_ascend : Ascends nat_cmp finals
