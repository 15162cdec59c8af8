-- Of the inside: no public contract stands on this file.
-- What is known of a right word so far, as far as it decides whether the word is kept.
use Rattle.std.specs.Prelude.{◌≡◌, ◌⊎◌, ℕ, ◌≤◌, true, false, Bool, List, ◌++◌, Option, Some, option_map, slice_get, length, take}
use Rattle.std.specs.List.{list_any}
use Rattle.ap_symbol.specs.Kinds.{is_tag}
use Rattle.ap_symbol.specs.declared.symbol.Symbol.{Symbol}
use Rattle.ap_fst.specs.Machines.{Machine}
use Rattle.ap_det.specs.Subsets.{HoldsFinal}
use Rattle.ap_lookup.specs.Translation.{lemma_length}
use Rattle.ap_trim.specs.Reading.{AreRead, ReadsWhole}
use Rattle.ap_trim.specs.Trimming.{holds_joint}
use Rattle.ap_trim.specs.declared.watch.Watch.{Watch}
use Rattle.ap_trim.specs.declared.watch.Watch.TheVariants as watch

-- the first n symbols hold the whole lemma, and the transducer reads them
pub record TakesFront (m : Machine) (word : List Symbol) (n : ℕ) : Type 0 where
  pub lemma : lemma_length word ≤ n
  pub whole : ReadsWhole m (take n word)

-- some front of the word is so
pub record IsTaken (m : Machine) (word : List Symbol) : Type 0 where
  pub count : ℕ
  pub within : count ≤ length word
  pub front : TakesFront m word count

-- the word is kept
abbrev pub IsKeptBy : Machine → List Symbol → Type 0
IsKeptBy m word = (holds_joint word ≡ true) ⊎ IsTaken m word

abbrev pub has_tag : List Symbol → Bool
has_tag word = list_any is_tag word

-- what a watch stands for: the word is kept however it goes on, or the states that read it, before
-- or behind its first tag
pub data Sight : Type 0 where
  kept : Sight
  lemma : List ℕ → Sight
  tags : List ℕ → Sight

abbrev pub sight_of : List (List ℕ) → Watch → Option Sight
sight_of sets watch.Kept = Some kept
sight_of sets (watch.Lemma n) = option_map lemma (slice_get sets n)
sight_of sets (watch.Tags n) = option_map tags (slice_get sets n)

-- all of it is the lemma, and it has no joint
pub record IsLemma (m : Machine) (set : List ℕ) (word : List Symbol) : Type 0 where
  pub untagged : has_tag word ≡ false
  pub unjoined : holds_joint word ≡ false
  pub read : AreRead m word set

-- it has a tag and no joint, and no front of it is taken
pub record IsTagged (m : Machine) (set : List ℕ) (word : List Symbol) : Type 0 where
  pub tagged : has_tag word ≡ true
  pub unjoined : holds_joint word ≡ false
  pub read : AreRead m word set
  pub untaken : IsTaken m word → ⊥

-- the sight is true of the word
abbrev pub Sees : Machine → Sight → List Symbol → Type 0
Sees m kept word = (more : List Symbol) → IsKeptBy m (word ++ more)
Sees m (lemma set) word = IsLemma m set word
Sees m (tags set) word = IsTagged m set word

-- the word is kept if it ends here
abbrev pub IsGood : Machine → Sight → Type 0
IsGood m kept = Unit {0}
IsGood m (lemma set) = HoldsFinal m set
IsGood m (tags set) = ⊥
