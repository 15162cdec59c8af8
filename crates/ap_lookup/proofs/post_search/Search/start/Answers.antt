use Rattle.std.proofs.Common.{[], refl}
use Rattle.ap_lookup.proofs.PostSearches.{none_seen}
use Rattle.ap_lookup.proofs.post_search.Search.start.Goals as goal

pub returns : goal.returns
returns c = λ sensitive.
    none_seen c.args.compiled.now sensitive [] _ c.new.ensures.items (c.in_ok-start.ensures sensitive)
    refl (c.none.ensures [])
