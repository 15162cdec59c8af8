-- What a walk over the items at the front knows, and what it has found where it ends.
use Rattle.std.specs.Prelude.{◌≡◌, ℕ, suc, ◌+◌, ◌≤◌, Bool, true, false, List, [], ◌∷◌, ◌++◌, length, drop, Option, Some, None}
use Rattle.ap_stream.specs.declared.item.Read.{Read}
use Rattle.ap_rules.specs.declared.rules.Rules.{Rules}
use Rattle.ap_chunk.specs.Choice.{unit_of, IsChosen}
use Rattle.ap_chunk.specs.Going.{chosen_of}
use Rattle.ap_chunk.specs.Live.{Stands, SomeLive}
use Rattle.ap_chunk.specs.Parts.{Part, unit, gap, wall, parts_of, units_in, taken_by, together}
use Rattle.ap_chunk.specs.Patterns.{patterns_of}
use Rattle.ap_chunk.specs.declared.choice.Choice.{Choice}
use Rattle.ap_chunk.specs.declared.parts.Kind.{Kind}
use Rattle.ap_chunk.specs.declared.parts.Kind.TheVariants as kind
use Rattle.ap_chunk.specs.declared.search.Walk.{Walk}
use Rattle.ap_chunk.specs.declared.search.Search.{Search}
use Rattle.ap_chunk.specs.declared.search.Front.{Front}
use Rattle.ap_chunk.specs.Stages.{span, choice}

-- what the code found of an item, and the row of a unit
abbrev pub IsKind : Kind → List Bool → Part → Type 0
IsKind kind.Unit row part = part ≡ unit (unit_of row)
IsKind kind.Blank row part = part ≡ gap
IsKind kind.Other row part = part ≡ wall

-- such a part stands there
abbrev pub IsNext : List Part → ℕ → Part → Type 0
IsNext parts seen part = drop seen parts ≡ part ∷ drop (seen + 1) parts

-- the items that a rule's units take, whatever follows
abbrev pub IsTaken : Option Choice → ℕ → List Part → Type 0
IsTaken None taken parts = Unit {0}
IsTaken (Some c) taken parts = (xs : List Part) → taken_by c.size (parts ++ xs) ≡ taken

-- The items that were looked at hold these units and are seen together; whatever follows, what the
-- definitions give from the
-- front on is what they give from there on.
pub record IsWalk (parts : List Part) (walk : Walk) : Type 0 where
  pub units : List (ℕ → Bool)
  pub stands : Stands walk.choosing units
  pub few : length units ≤ walk.seen
  pub within : walk.seen ≤ length parts
  pub best_is : IsChosen walk.choosing.patterns units walk.best
  pub units_on : (xs : List Part) → units_in false (parts ++ xs) ≡ units ++ units_in walk.after
      (drop walk.seen parts ++ xs)
  pub span_on : (xs : List Part) → together walk.choosing.patterns [] false (parts ++ xs)
      ≡ walk.seen + together walk.choosing.patterns units walk.after (drop walk.seen parts ++ xs)
  pub taken_on : (n : ℕ) (xs : List Part) → taken_by (length units + suc n) (parts ++ xs)
      ≡ walk.seen + taken_by (suc n) (drop walk.seen parts ++ xs)
  pub taken_is : IsTaken walk.best walk.taken parts
  pub taken_within : walk.taken ≤ walk.seen

-- and some rule is live
pub record IsLiveWalk (parts : List Part) (walk : Walk) : Type 0 where
  pub walked : IsWalk parts walk
  pub live : SomeLive walk.choosing.patterns walked.units

-- what the definitions give is what was found, whatever follows, or where nothing does
pub record IsEnd (last : Bool) (parts : List Part) (walk : Walk) : Type 0 where
  pub within : walk.seen ≤ length parts
  pub chosen_is : (xs : List Part) → (last ≡ true → xs ≡ []) →
      chosen_of walk.choosing.patterns (units_in false (parts ++ xs)) ≡ walk.best
  pub span_is : (xs : List Part) → (last ≡ true → xs ≡ []) →
      together walk.choosing.patterns [] false (parts ++ xs) ≡ walk.seen
  pub taken_is : IsTaken walk.best walk.taken parts
  pub taken_within : walk.taken ≤ walk.seen

-- a search for these rules at the front of these items
pub record IsKnown (rules : Rules) (reads : List Read) (search : Search) : Type 0 where
  pub patterns : search.walk.choosing.patterns ≡ patterns_of rules
  pub walk : search.lost ≡ false → IsWalk (parts_of rules reads) search.walk

-- what stands at the front of the items is what the definitions say, whatever follows, or where
-- nothing does
pub record IsFront (last : Bool) (rules : Rules) (reads : List Read) (front : Front) : Type 0 where
  pub within : front.span ≤ length reads
  pub chosen_is : (xs : List Read) → (last ≡ true → xs ≡ []) → choice rules (reads ++ xs)
      ≡ front.choice
  pub span_is : (xs : List Read) → (last ≡ true → xs ≡ []) → span rules (reads ++ xs) ≡ front.span
  pub taken_is : IsTaken front.choice front.taken (parts_of rules reads)
  pub taken_within : front.taken ≤ front.span
