use Rattle.std.proofs.Common.{List, map, refl, subst}
use Rattle.ap_symbol.specs.Lists.{IsIn}
use Rattle.ap_symbol.specs.Recasing.{carry_lem}
use Rattle.ap_symbol.specs.Words.{AreProper}
use Rattle.ap_symbol.specs.declared.symbol.Symbol.{Symbol}
use Rattle.ap_fst.specs.declared.compiled.Kind2.TheVariants.{Inconditional, Postblank, Preblank}
use Rattle.ap_live.specs.Lexicon.{lexicon_of}
use Rattle.ap_live.specs.Readings.{carried}
use Rattle.ap_live.proofs.AnyWords.{carried_proper, reading_proper}
use Rattle.ap_live.proofs.Fewer.{in_order_of, some_four}
use Rattle.ap_live.proofs.Ordered.{mapped_same}
use Rattle.ap_analysis.specs.Licence.{standard_words, licensed_words, surface}
use Rattle.ap_analysis.proofs.LicensedWords.{licensed_each}
use Rattle.ap_analysis.proofs.too_long.some_readings.Goals as goal
use Rattle.ap_analysis.proofs.too_long.some_readings.Goals.{After-alphabet}

-- the licensed words, each with the case
abbrev all_words : After-alphabet → List (List Symbol)
all_words c = map (carried c.args.sensitive (surface c.args.reads.now c.args.count))
    (licensed_words (lexicon_of c.args.compiled.now c.args.sensitive) c.args.reads.now c.args.count)

some_are : (c : After-alphabet) → (w : List Symbol) → IsIn w c.push_some-3.new.into.items →
    IsIn w (all_words c)
some_are c w i =
    let lexicon = lexicon_of c.args.compiled.now c.args.sensitive in
    let seen = surface c.args.reads.now c.args.count in
    let carry = carry_lem c.seen_case-case.result in
    subst (λ (z : List (List Symbol)). IsIn w z)
    (mapped_same carry (carried c.args.sensitive seen)
    (licensed_words lexicon c.args.reads.now c.args.count)
    (c.seen_case-case.ensures c.requires.seen.0 c.args.reads.now c.args.count c.requires.seen.1))
    (some_four carry (standard_words lexicon c.args.reads.now c.args.count)
    (lexicon.readings Inconditional seen) (lexicon.readings Postblank seen)
    (lexicon.readings Preblank seen) _ _ _ _ _ c.new-words.ensures.items
    (c.in_ok-push_some_standard.ensures c.args.sensitive c.requires.lives)
    (c.in_ok-push_some.ensures c.args.sensitive seen c.requires.lives)
    (c.in_ok-push_some-2.ensures c.args.sensitive seen c.requires.lives)
    (c.in_ok-push_some-3.ensures c.args.sensitive seen c.requires.lives) w i)

are_proper : (c : After-alphabet) → (w : List Symbol) → IsIn w (all_words c) → AreProper w
are_proper c =
    let lexicon = lexicon_of c.args.compiled.now c.args.sensitive in
    let seen = surface c.args.reads.now c.args.count in
    carried_proper c.case_keeps_words.ensures.proper c.args.sensitive seen
    (licensed_words lexicon c.args.reads.now c.args.count) (all_words c) refl
    (licensed_each lexicon c.args.reads.now c.args.count AreProper
    (λ kind word i. reading_proper c.args.compiled.now c.args.sensitive kind seen word
    c.alphabet.ensures.sound i))

pub returns-clause-some : goal.returns-clause-some
returns-clause-some c =
    let at = (goal.at.returns-clause-some c).After-alphabet in
    λ w i. in_order_of c.one_rendering.ensures (all_words at) (are_proper at) w (some_are at w i)

pub returns-clause-proper : goal.returns-clause-proper
returns-clause-proper c =
    let at = (goal.at.returns-clause-proper c).After-alphabet in
    λ w i. are_proper at w (some_are at w i)
