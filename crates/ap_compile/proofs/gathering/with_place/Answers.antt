use Rattle.std.proofs.Common.{sym}
use Rattle.std.proofs.lemmas.Result.{IfOk-weaker}
use Rattle.ap_compile.specs.Drafts.{is_drafted_entry}
use Rattle.ap_compile.proofs.Gathered.{place_passed, place_gathered, all_got}
use Rattle.ap_compile.proofs.gathering.with_place.Goals as goal

pub returns-in-None-clause-strings : goal.returns-in-None-clause-strings
returns-in-None-clause-strings c =
    λ d are plain. place_passed d c.args.direction c.args.entries.now c.args.place.now
    c.args.gathering (sym c.in-None.ensures) plain

pub returns-in-Some-clause-strings : goal.returns-in-Some-clause-strings
returns-in-Some-clause-strings c =
    IfOk-weaker c.with_entry.result _ _
    (λ all h d are plain. place_gathered d c.args.direction c.args.entries.now c.args.place.now
    c.in-Some.entry.now c.args.gathering all (sym c.in-Some.ensures) (h d are plain))
    c.with_entry.ensures.strings

pub with_entry-requires-clause-entry : goal.with_entry-requires-clause-entry
with_entry-requires-clause-entry c =
    all_got (is_drafted_entry c.args.drafts.now) c.args.entries.now c.args.place.now.entry
    c.in-Some.entry.now (sym c.in-Some.ensures) c.requires.entries
