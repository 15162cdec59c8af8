use Rattle.std.proofs.Common.{true, false, refl}
use Rattle.ap_chunk.specs.Choice.{unit_of}
use Rattle.ap_chunk.specs.Live.{stays, finishes}
use Rattle.ap_chunk.proofs.Lives.{first_kept, first_least, passed_kept, passed_least, unit_at, on_ok, if_ok}
use Rattle.ap_chunk.proofs.keeping.keep_category.Goals as goal

pub returns-then-unit-category-clause-kept : goal.returns-then-unit-category-clause-kept
returns-then-unit-category-clause-kept c =
    let u = unit_of c.args.unit.now in
    on_ok c.keep.result _ _ (λ e was. first_kept c.args.patterns.now u c.args.category
    c.beginning_with-rules.result.now c.args.kept.now.items c.keep.new.kept.items
    (stays c.args.patterns.now 0 u)
    (unit_at c.args.unit.now c.args.category true c.requires c.if-unit-category.true)
    c.beginning_with-rules.ensures e was) c.keep.ensures.kept

pub returns-then-unit-category-clause-over : goal.returns-then-unit-category-clause-over
returns-then-unit-category-clause-over c =
    let u = unit_of c.args.unit.now in
    if_ok c.keep.result _ _ (λ least e was. first_least c.args.patterns.now u c.args.category
    c.beginning_with-rules.result.now c.args.over least (finishes c.args.patterns.now 0 u)
    (unit_at c.args.unit.now c.args.category true c.requires c.if-unit-category.true)
    c.beginning_with-rules.ensures e was) c.keep.ensures.over

pub returns-clause-kept : goal.returns-clause-kept
returns-clause-kept c = λ was r.
    let u = unit_of c.args.unit.now in
    passed_kept c.args.patterns.now u c.args.category (stays c.args.patterns.now 0 u)
    c.args.kept.now.items c.args.kept.now.items
    (unit_at c.args.unit.now c.args.category false c.requires
    c.if-unit-category.false) refl was r

pub returns-clause-over : goal.returns-clause-over
returns-clause-over c = λ was.
    let u = unit_of c.args.unit.now in
    passed_least c.args.patterns.now u c.args.category (finishes c.args.patterns.now 0 u)
    c.args.over c.args.over (unit_at c.args.unit.now c.args.category false c.requires
    c.if-unit-category.false) refl was
