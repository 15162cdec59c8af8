use Rattle.std.proofs.Common.{sym, ◌∙◌}
use Rattle.ap_stream.proofs.LevelLaws as levels
use Rattle.ap_stream.proofs.SignLaws.{slice_rest}
use Rattle.ap_stream.proofs.level.show_part.Goals as goal

pub returns-then-is_between : goal.returns-then-is_between
returns-then-is_between c = rw c.see_portion.ensures
    (levels.between_told _ _ _ _ _ (sym c.is_between.ensures
    ∙ c.if-is_between.true) c.requires.stood)

pub unreachable-requires-in-Plain : goal.unreachable-requires-in-Plain
unreachable-requires-in-Plain c =
    levels.never_plain c.args.dialect c.args.from c.args.mode c.args.done.now c.args.part.now
    (sym c.is_between.ensures ∙ c.if-is_between.false) c.requires.stood c.in-Plain.field-0
    (rw (slice_rest c.args.done.now c.args.from) at c.in-Plain.ensures)

pub returns-in-BlankEnds : goal.returns-in-BlankEnds
returns-in-BlankEnds c =
    rw c.see_portion-in-BlankEnds.ensures
    (levels.blank_told c.args.dialect c.args.from c.args.mode c.args.done.now c.args.part.now
    (sym c.is_between.ensures ∙ c.if-is_between.false) c.requires.stood
    (rw (slice_rest c.args.done.now c.args.from) at c.in-BlankEnds.ensures))

pub returns-in-UnitEnds : goal.returns-in-UnitEnds
returns-in-UnitEnds c =
    levels.unit_told c.args.dialect c.args.from c.args.mode c.args.done.now c.args.part.now
    (sym c.is_between.ensures ∙ c.if-is_between.false) c.requires.stood c.args.end c.requires.end
    (rw (slice_rest c.args.done.now c.args.from) at c.in-UnitEnds.ensures)

pub returns-in-Bad : goal.returns-in-Bad
returns-in-Bad c =
    levels.bad_told c.args.dialect c.args.from c.args.mode c.args.done.now c.args.part.now
    (sym c.is_between.ensures ∙ c.if-is_between.false) c.requires.stood c.in-Bad.kind
    (rw (slice_rest c.args.done.now c.args.from) at c.in-Bad.ensures)
