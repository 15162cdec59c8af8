use Rattle.std.proofs.Common.{◌∙◌, ◌∷◌, [], ap, List}
use Rattle.std.specs.Prelude.{None}
use Rattle.ap_dix.specs.declared.dictionary.Pardef.{Pardef}
use Rattle.ap_dix.specs.declared.dictionary.Section.{Section}
use Rattle.ap_expand.specs.Search.{sections_trace, pardefs_trace}
use Rattle.ap_expand.specs.Places.{search_trace}
use Rattle.ap_expand.specs.Uses.{pardefs_uses}
use Rattle.ap_expand.proofs.Meaning.{all-lines}
use Rattle.ap_expand.proofs.expansion.Expansion.new.Goals as goal

pub returns : goal.returns
returns c =
    let uses = c.in_ok-search.search.uses.items in
    all-lines uses (search_trace c.in_ok-search.search) c.args.dictionary.now
    (c.in_ok-search.ensures.uses ∙ ap (pardefs_uses []) c.as_slice.ensures)
    (c.in_ok-search.ensures.steps
    ∙ ap (λ (ps : List Pardef). None
    ∷ sections_trace uses (pardefs_trace uses [] ps) c.as_slice-2.result.now) c.as_slice.ensures
    ∙ ap (λ (ss : List Section). None
    ∷ sections_trace uses (pardefs_trace uses [] c.args.dictionary.now.pardefs) ss)
    c.as_slice-2.ensures)
