use Rattle.std.proofs.Common.{List, subst}
use Rattle.ap_compile.specs.Drafts.{Any}
use Rattle.ap_compile.specs.Gatherings.{SpellsFrom, Gathers, IsGatheringOf}
use Rattle.ap_compile.specs.declared.places.Place.{Place}
use Rattle.ap_compile.proofs.Gathered.{all_closed, places_all}
use Rattle.ap_compile.proofs.gathering.entries_draft.Goals as goal

pub returns : goal.returns
returns c = λ d are.
    let all : IsGatheringOf d c.args.direction
    (Any (SpellsFrom d c.args.direction c.args.entries.now) c.in_ok-places.places.items)
    c.in_ok-gathering.gathering =
    subst (λ (z : List Place). IsGatheringOf d c.args.direction
    (Any (SpellsFrom d c.args.direction c.args.entries.now) z) c.in_ok-gathering.gathering)
    c.as_slice.ensures.value (c.in_ok-gathering.ensures.strings d are) in
    places_all d c.args.direction c.args.entries.now c.in_ok-places.places.items
    c.in_ok-gathering.gathering c.in_ok-made.field-0.made c.in_ok-places.ensures all
    (all_closed d c.args.direction (Gathers d c.args.direction c.in_ok-gathering.gathering)
    c.in_ok-made.field-0 c.in_ok-made.ensures.endings
    (c.in_ok-made.ensures.same d are all.plain))
