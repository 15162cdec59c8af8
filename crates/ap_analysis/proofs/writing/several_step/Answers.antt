use Rattle.std.proofs.Common.{arith, ◌≡◌, ap, ◌∙◌, length, ◌++◌, Ok, refl, true}
use Rattle.std.specs.Prelude.{nat_lt}
use Rattle.ap_fst.specs.declared.compiled.Kind2.TheVariants.{Preblank, Postblank}
use Rattle.ap_stream.specs.Limits.{unit_max}
use Rattle.ap_stream.proofs.ItemFronts.{front_short}
use Rattle.ap_live.specs.Lexicon.{lexicon_of}
use Rattle.ap_analysis.specs.Items.{symbol_of}
use Rattle.ap_analysis.specs.Licence.{surface}
use Rattle.ap_analysis.specs.Analysis.{known_unit, known_text, readings_at, space_at, swallowed}
use Rattle.ap_analysis.proofs.Writings.{four_texts, unit_stops, unit_gives, unit_over, unit_same}
use Rattle.ap_analysis.proofs.writing.several_step.Goals as goal
use Rattle.ap_analysis.proofs.writing.several_step.Goals.{After-is_too_long}

written : (c : After-is_too_long) → c.push_unit.new.text ≡ c.push_space.new.text
    ++ known_unit (lexicon_of c.args.compiled.now c.args.sensitive) c.args.sensitive
    c.args.reads.now c.args.count
written c =
    unit_same c.push_unit.new.text c.push_space.new.text
    (surface c.args.reads.now c.args.count) c.as_slice.result.now
    (readings_at (lexicon_of c.args.compiled.now c.args.sensitive) c.args.sensitive
    c.args.reads.now c.args.count)
    (c.as_slice.ensures.value ∙ c.in_ok-words.ensures)
    (c.in_ok-push_unit.ensures (surface c.args.reads.now c.args.count)
    (c.seen_bytes-surface.ensures c.args.reads.now c.requires.seen))

long : (c : After-is_too_long) →
    c.is_too_long.result ≡ nat_lt unit_max
    (length (known_unit (lexicon_of c.args.compiled.now c.args.sensitive) c.args.sensitive
    c.args.reads.now c.args.count))
long c = c.is_too_long.ensures c.push_space.new.text
    (known_unit (lexicon_of c.args.compiled.now c.args.sensitive) c.args.sensitive c.args.reads.now
    c.args.count) (written c) (ap length c.as_slice-before.ensures)

pub is_told_too_long-requires-clause-seen : goal.is_told_too_long-requires-clause-seen
is_told_too_long-requires-clause-seen c = (c.args.piece.now, c.requires.seen)

pub returns-then-branch : goal.returns-then-branch
returns-then-branch c =
    let lexicon = lexicon_of c.args.compiled.now c.args.sensitive in
    unit_stops (known_unit lexicon c.args.sensitive c.args.reads.now c.args.count)
    (known_text lexicon c.args.sensitive c.args.reads.now c.args.count) c.args.count true
    (unit_over (surface c.args.reads.now c.args.count)
    (readings_at lexicon c.args.sensitive c.args.reads.now c.args.count)
    (c.is_told_too_long.ensures (c.in_ok-is_told_too_long.was ∙ ap Ok c.if-branch.true))) refl

pub readings-requires-clause-seen : goal.readings-requires-clause-seen
readings-requires-clause-seen c = (c.args.piece.now, c.requires.seen)

pub push_swallowed-requires : goal.push_swallowed-requires
push_swallowed-requires c = let s = front_short symbol_of c.args.reads.now in
    omega (arith, s, c.requires.within)

pub returns-then-is_too_long : goal.returns-then-is_too_long
returns-then-is_too_long c =
    let lexicon = lexicon_of c.args.compiled.now c.args.sensitive in
    unit_stops (known_unit lexicon c.args.sensitive c.args.reads.now c.args.count)
    (known_text lexicon c.args.sensitive c.args.reads.now c.args.count) c.args.count
    c.is_too_long.result
    (long (goal.at.returns-then-is_too_long c).After-is_too_long) c.if-is_too_long.true

pub returns : goal.returns
returns c =
    let at = (goal.at.returns c).After-is_too_long in
    let lexicon = lexicon_of c.args.compiled.now c.args.sensitive in
    let unit = known_unit lexicon c.args.sensitive c.args.reads.now c.args.count in
    unit_gives unit (known_text lexicon c.args.sensitive c.args.reads.now c.args.count) c.args.count
    c.is_too_long.result (long at) c.push_swallowed.new.text c.if-is_too_long.false
    (four_texts c.args.text c.push_space.new.text c.push_unit.new.text c.push_space-2.new.text
    c.push_swallowed.new.text (space_at lexicon Preblank c.args.reads.now c.args.count) unit
    (space_at lexicon Postblank c.args.reads.now c.args.count)
    (swallowed c.args.reads.now c.args.count)
    c.requires.empty (c.in_ok-push_space.ensures c.args.sensitive c.args.reads.now c.args.count
    c.requires.lives) (written at)
    (c.in_ok-push_space-2.ensures c.args.sensitive c.args.reads.now c.args.count
    c.requires.lives) c.in_ok-push_swallowed.ensures)
