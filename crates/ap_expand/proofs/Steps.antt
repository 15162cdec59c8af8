use Rattle.std.proofs.Common.{◌≡◌, ℕ, List, []}
use Rattle.ap_expand.specs.Search.{lines_among}
use Rattle.ap_expand.specs.Places.{search_trace, IsSearch}
use Rattle.ap_expand.specs.declared.search.Search.{Search}

-- the same lines are to come as at the start
pub record Searching (start now : Search) (line : List ℕ) : Type 0 where
  pub search : IsSearch now
  pub same : lines_among (search_trace start) ≡ lines_among (search_trace now)
  pub empty : line ≡ []
