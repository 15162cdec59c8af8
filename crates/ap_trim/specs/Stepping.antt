-- Of the inside: no public contract stands on this file.
-- What a step from a watch to the next one says.
use Rattle.std.specs.Prelude.{◌≡◌, ℕ, ◌≤◌, true, false, List, [], ◌∷◌, ◌++◌, Some, length, slice_get}
use Rattle.ap_symbol.specs.declared.symbol.Symbol.{Symbol}
use Rattle.ap_fst.specs.Machines.{Machine}
use Rattle.ap_trim.specs.Numbers.{Keeps}
use Rattle.ap_trim.specs.Reading.{AreRead}
use Rattle.ap_trim.specs.Trimming.{holds_joint}
use Rattle.ap_trim.specs.Watching.{Sight, sight_of, Sees, IsGood, TakesFront, has_tag}
use Rattle.ap_trim.specs.declared.watch.Watch.{Watch}

-- a watch that is true of the empty word
pub record BeginsWith (m : Machine) (sets : List (List ℕ)) (watch : Watch) : Type 0 where
  pub sight : Sight
  pub at : sight_of sets watch ≡ Some sight
  pub sees : Sees m sight []

-- the sets with these numbers have the states that read a word, and those that read it with the
-- symbol behind it
pub record StepsTo (m : Machine) (symbol : Symbol) (old_sets sets : List (List ℕ))
    (number next : ℕ) : Type 0 where
  pub old : List ℕ
  pub old_at : slice_get old_sets number ≡ Some old
  pub new : List ℕ
  pub new_at : slice_get sets next ≡ Some new
  pub reads : (word : List Symbol) → AreRead m word old → AreRead m (word ++ symbol ∷ []) new
  pub keeps : Keeps old_sets sets

-- the word has no front of at most so many symbols that is taken
abbrev pub HasNoFront : Machine → List Symbol → ℕ → Type 0
HasNoFront m word bound = (n : ℕ) → n ≤ bound → TakesFront m word n → ⊥

-- the watch is true of a word with the symbol behind it, where that has a tag and no joint and no
-- shorter front is taken
pub record GoesBehind (m : Machine) (symbol : Symbol) (sets : List (List ℕ)) (number : ℕ)
    (watch : Watch) : Type 0 where
  pub set : List ℕ
  pub set_at : slice_get sets number ≡ Some set
  pub new : Sight
  pub new_at : sight_of sets watch ≡ Some new
  pub sees : (word : List Symbol) → AreRead m word set → has_tag (word ++ symbol ∷ []) ≡ true →
      holds_joint (word ++ symbol ∷ []) ≡ false → HasNoFront m (word ++ symbol ∷ []) (length word) →
      Sees m new (word ++ symbol ∷ [])

-- a word of which the watch is true is kept if it ends here
pub record IsGoodSight (m : Machine) (sets : List (List ℕ)) (watch : Watch) : Type 0 where
  pub sight : Sight
  pub at : sight_of sets watch ≡ Some sight
  pub good : IsGood m sight
