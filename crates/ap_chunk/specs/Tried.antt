-- Of the inside: no public contract stands on this file.
-- Tags with stars, tried from the left: how far a trial is.
use Rattle.std.specs.Prelude.{◌≡◌, ℕ, ◌+◌, ◌-◌, ◌*◌, ◌≤◌, Bool, true, false, ◌||◌, List, length, drop, Option, Some, None, cond}
use Rattle.ap_symbol.specs.declared.symbol.Symbol.{Symbol}
use Rattle.ap_symbol.specs.declared.symbol.Symbol.TheVariants.{Star}
use Rattle.ap_symbol.specs.Fitting.{fits_lem}
use Rattle.ap_chunk.specs.declared.tags.Meeting.{Meeting}
use Rattle.ap_chunk.specs.declared.tags.Meeting.TheVariants as meeting
use Rattle.ap_chunk.specs.declared.tags.LastStar.{LastStar}
use Rattle.ap_chunk.specs.declared.tags.Trial.{Trial}
use Rattle.ap_chunk.specs.Tests.{some_later, take_tags}

-- what the next part of an item is for the next tag
abbrev pub meeting_of : Option Symbol → Symbol → Meeting
meeting_of None tag = meeting.Fails
meeting_of (Some Star) tag = meeting.Many
meeting_of (Some part) tag = cond (fits_lem true part tag) meeting.Fits meeting.Fails

-- what stands behind the last star fits at a place after the one at which it was tried last
abbrev pub fits_later : List Symbol → List Symbol → Option LastStar → Bool
fits_later parts tags None = false
fits_later parts tags (Some star) =
    some_later (take_tags (drop star.part parts)) (drop star.tag tags)

-- the place at which it was tried last; 0 before a star, since a star takes a tag
abbrev pub tried_at : Option LastStar → ℕ
tried_at None = 0
tried_at (Some star) = star.tag

pub record IsTried (parts tags : List Symbol) (trial : Trial) : Type 0 where
  -- the parts take the tags where those that are left do, or those behind the last star do at a
  -- later place
  pub whole : take_tags parts tags
      ≡ (take_tags (drop trial.part parts) (drop trial.tag tags)
      || fits_later parts tags trial.star)
  -- and then those that are left fit at a later place too: so a star before this place may be
  -- forgotten
  pub forgotten : fits_later parts tags trial.star ≡ true →
      some_later (take_tags (drop trial.part parts)) (drop trial.tag tags) ≡ true
  pub order : tried_at trial.star ≤ trial.tag
  pub within : trial.tag ≤ length tags

-- falls with each step of a trial on so many tags
abbrev pub steps_left : ℕ → Trial → ℕ
steps_left tags trial = (tags - tried_at trial.star) * (tags + 1) + (tags - trial.tag)
