use Rattle.std.proofs.Common.{◌≡◌, ◌∙◌, ◌++◌, sym, subst, true}
use Rattle.ap_dix.specs.Derivation.{Derives}
use Rattle.ap_compile.specs.Drafts.{AreDraftedParts}
use Rattle.ap_compile.specs.Gatherings.{endings, Gathers}
use Rattle.ap_compile.proofs.Gathered.{entry_gathered, gathered_on, grown, grown_same, shared_drafted, tail_drafted}
use Rattle.ap_compile.proofs.gathering.with_entry.Goals as goal

pub returns-clause-drafted : goal.returns-clause-drafted
returns-clause-drafted c =
    let whole : c.args.entry.now.parts ≡ c.split_tail.result.0.now ++ c.split_tail.result.1.now =
    sym c.as_slice.ensures ∙ c.split_tail.ensures in
    subst (AreDraftedParts c.args.drafts.now)
    (sym (grown_same c.in_ok-ready.ready c.in_ok-more.more c.in_ok-all.all c.in_ok-all.ensures))
    (shared_drafted c.args.drafts.now (endings c.in_ok-ready.ready.levels.items)
    c.split_tail.result.1.now c.in_ok-ready.ensures.shared
    (tail_drafted c.args.drafts.now c.args.entry.now.parts c.split_tail.result.0.now
    c.split_tail.result.1.now whole c.requires.entry))

pub returns-clause-strings : goal.returns-clause-strings
returns-clause-strings c =
    let kept : c.is_entry_kept.result ≡ true = cc in
    let whole : c.args.entry.now.parts ≡ c.split_tail.result.0.now ++ c.split_tail.result.1.now =
    sym c.as_slice.ensures ∙ c.split_tail.ensures in
    λ d are plain.
    let rest = c.in_ok-rest.ensures.same d are plain in
    let on = gathered_on d c.args.direction (Gathers d c.args.direction c.args.gathering)
    c.in_ok-rest.rest c.in_ok-ready.ready rest
    (c.in_ok-ready.ensures.same d c.args.direction rest.plain) in
    entry_gathered d c.args.direction c.args.gathering c.in_ok-ready.ready c.in_ok-all.all
    c.split_tail.result.0.now c.split_tail.result.1.now c.args.entry.now
    (sym c.is_entry_kept.ensures ∙ kept) whole c.in_ok-ready.ensures.shared on
    (grown d c.args.direction (Derives d c.args.direction c.split_tail.result.0.now)
    c.in_ok-ready.ready c.in_ok-more.more c.in_ok-all.all c.in_ok-all.ensures on.plain
    (c.in_ok-more.ensures d are))
