-- Walks that go on in vain: what an earlier one met tells where a later one ends.
use Rattle.std.specs.Prelude.{◌≡◌, ◌⊎◌, ℕ, ◌+◌, ◌<◌, ◌≤◌, Bool, true, false, List, ◌++◌, length}
use Rattle.ap_symbol.specs.declared.symbol.Symbol.{Symbol}
use Rattle.ap_fst.specs.Sections.{Parts}
use Rattle.ap_stream.specs.declared.item.Read.{Read}
use Rattle.ap_live.specs.Lexicon.{Lexicon, lexicon_of}
use Rattle.ap_live.specs.Walks.{IsWalked}
use Rattle.ap_live.specs.declared.walked.Walked.{Walked}
use Rattle.ap_analysis.specs.Endings.{IsOpen}
use Rattle.ap_analysis.specs.Licence.{surface, is_licensed}
use Rattle.ap_analysis.specs.Searching.{IsEnd}
use Rattle.ap_analysis.specs.declared.search.Ended.{Ended}
use Rattle.ap_analysis.specs.declared.search.Walk.{Walk}
use Rattle.ap_analysis.specs.declared.search.Walk.TheVariants.{All, Ends, Meets}

-- A walk ends at this length, and no length from the other one up to it is licensed.
pub record IsVain (lexicon : Lexicon) (reads : List Read) (from end : ℕ) : Type 0 where
  pub ends : IsEnd lexicon reads end
  pub none : (n : ℕ) → from ≤ n → n ≤ end → is_licensed lexicon reads n ≡ false

-- Further items don't change where the walk ends, or none follow.
abbrev pub IsClosed : List Read → Bool → ℕ → Type 0
IsClosed reads finished end = (end < length reads) ⊎ (finished ≡ true)

-- A walk that began so many items in front of those that are held had seen these symbols, at the
-- place, and went on from there by so many items to its end, in vain.
pub record WentInVain (lexicon : Lexicon) (reads : List Read) (finished : Bool) (place ahead : ℕ)
    (seen : List Symbol) : Type 0 where
  pub gone : List Read
  pub whole : List Read
  pub whole_is : whole ≡ gone ++ reads
  pub at : ℕ
  pub at_is : at ≡ length gone + place
  pub seen_is : seen ≡ surface whole at
  pub vain : IsVain lexicon whole at (at + ahead)
  pub closed : IsClosed reads finished (place + ahead)

-- each note is of such a walk
abbrev pub AreVain : Parts → Bool → List Read → Bool → Walked → Type 0
AreVain p sensitive reads finished walked =
    IsWalked p sensitive (WentInVain (lexicon_of p sensitive) reads finished) walked

-- how a walk over the items went, which stands there
abbrev pub IsWalk : Lexicon → List Read → Bool → ℕ → Walk → Type 0
IsWalk lexicon reads finished looked All = IsEnd lexicon reads looked × (looked ≡ length reads)
IsWalk lexicon reads finished looked Ends = IsEnd lexicon reads looked × (looked < length reads)
IsWalk lexicon reads finished looked (Meets ahead) =
    IsVain lexicon reads looked (looked + ahead) × IsClosed reads finished (looked + ahead)

-- The walk ends there, and behind where it stands no length is licensed.
pub record IsEnded (lexicon : Lexicon) (reads : List Read) (finished : Bool) (looked : ℕ)
    (ended : Ended) : Type 0 where
  pub ends : IsEnd lexicon reads ended.viable
  pub least : looked ≤ ended.viable
  pub none : (n : ℕ) → looked < n → n ≤ ended.viable → is_licensed lexicon reads n ≡ false
  pub closed : IsClosed reads finished ended.viable
  pub ending_is : ended.any_ending ≡ true → IsOpen lexicon reads ended.viable
