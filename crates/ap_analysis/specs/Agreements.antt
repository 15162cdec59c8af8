-- How far the items behind some are like those in front of them.
use Rattle.std.specs.Prelude.{◌≡◌, ℕ, ◌-◌, ◌≤◌, List, length, take, drop}
use Rattle.ap_stream.specs.declared.item.Read.{Read}
use Rattle.ap_analysis.specs.Kept.{marks}
use Rattle.ap_analysis.specs.declared.agreement.Agreement.{Agreement}

-- The items behind the first of these begin with as many as that, which have the marks of as many
-- in front.
pub record AreLikeFront (reads : List Read) (by count : ℕ) : Type 0 where
  pub within : count ≤ length reads - by
  pub same : take count (marks (drop by reads)) ≡ take count (marks reads)

abbrev pub IsAgreement : List Read → Agreement → Type 0
IsAgreement reads agreement = AreLikeFront reads agreement.by agreement.count
