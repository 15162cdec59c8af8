use Rattle.std.proofs.Common.{◌≡◌, ap, ◌∙◌, map}
use Rattle.ap_fst.specs.declared.compiled.Kind2.TheVariants.{Inconditional, Postblank, Preblank}
use Rattle.ap_symbol.specs.Recasing.{carry_lem}
use Rattle.ap_symbol.specs.Words.{AreProper}
use Rattle.ap_live.specs.Found.{in_order}
use Rattle.ap_live.specs.Lexicon.{lexicon_of}
use Rattle.ap_live.specs.Readings.{carried}
use Rattle.ap_live.proofs.AnyWords.{carried_proper, reading_proper}
use Rattle.ap_live.proofs.Ordered.{mapped_four}
use Rattle.ap_analysis.specs.Licence.{standard_words, licensed_words, surface}
use Rattle.ap_analysis.proofs.LicensedWords.{licensed_each}
use Rattle.ap_analysis.proofs.licensed.readings.Goals as goal
use Rattle.ap_analysis.proofs.licensed.readings.Goals.{After-alphabet}

-- the licensed words, each with the case
licensed_are : (c : After-alphabet) → c.push_kind-3.new.into.items
    ≡ map (carried c.args.sensitive (surface c.args.reads.now c.args.count))
    (licensed_words (lexicon_of c.args.compiled.now c.args.sensitive) c.args.reads.now c.args.count)
licensed_are c =
    let lexicon = lexicon_of c.args.compiled.now c.args.sensitive in
    let seen = surface c.args.reads.now c.args.count in
    mapped_four (carry_lem c.seen_case-case.result) (carried c.args.sensitive seen)
    (c.seen_case-case.ensures c.requires.seen.0 c.args.reads.now c.args.count c.requires.seen.1)
    (standard_words lexicon c.args.reads.now c.args.count) (lexicon.readings Inconditional seen)
    (lexicon.readings Postblank seen) (lexicon.readings Preblank seen) _ _ _ _ _
    c.new-words.ensures.items
    (c.in_ok-push_standard.ensures c.args.sensitive c.requires.lives)
    (c.in_ok-push_kind.ensures c.args.sensitive seen c.requires.lives)
    (c.in_ok-push_kind-2.ensures c.args.sensitive seen c.requires.lives)
    (c.in_ok-push_kind-3.ensures c.args.sensitive seen c.requires.lives)

pub sort_words-requires : goal.sort_words-requires
sort_words-requires c =
    let lexicon = lexicon_of c.args.compiled.now c.args.sensitive in
    let seen = surface c.args.reads.now c.args.count in
    carried_proper c.case_keeps_words.ensures.proper c.args.sensitive seen
    (licensed_words lexicon c.args.reads.now c.args.count) _
    (licensed_are (goal.at.sort_words-requires c).After-alphabet)
    (licensed_each lexicon c.args.reads.now c.args.count AreProper
    (λ kind word i. reading_proper c.args.compiled.now c.args.sensitive kind seen word
    c.alphabet.ensures.sound i))

pub returns : goal.returns
returns c = c.sort_words.ensures.is ∙ ap in_order (licensed_are (goal.at.returns c).After-alphabet)
