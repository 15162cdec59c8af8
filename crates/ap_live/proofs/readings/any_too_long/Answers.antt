use Rattle.std.proofs.Common.{◌≡◌, true, List, map, refl, subst}
use Rattle.ap_symbol.specs.Recasing.{carry_lem}
use Rattle.ap_symbol.specs.Words.{AreProper}
use Rattle.ap_symbol.specs.declared.symbol.Symbol.{Symbol}
use Rattle.ap_fst.specs.Lists.{IsIn}
use Rattle.ap_live.specs.Lexicon.{lexicon_of}
use Rattle.ap_live.specs.Readings.{carried, any_words, carried_words}
use Rattle.ap_live.specs.SectionLives.{AreLive}
use Rattle.ap_live.proofs.AnyWords.{any_proper, carried_proper}
use Rattle.ap_live.proofs.Fewer.{in_order_of}
use Rattle.ap_live.proofs.Ordered.{mapped_same}
use Rattle.ap_live.proofs.readings.any_too_long.Goals as goal
use Rattle.ap_live.proofs.readings.any_too_long.Goals.{After-alphabet}

-- the words of any kind, each with the case
abbrev all_words : After-alphabet → List Symbol → List (List Symbol)
all_words c symbols = map (carried c.args.sensitive c.args.seen.now)
    (any_words (lexicon_of c.args.compiled.now c.args.sensitive) symbols)

some_are : (c : After-alphabet) (symbols : List Symbol) →
    AreLive c.args.compiled.now c.args.sensitive symbols c.args.lives.now → (w : List Symbol) →
    IsIn w c.in_ok-words.words.items → IsIn w (all_words c symbols)
some_are c symbols live w i = subst (λ (z : List (List Symbol)). IsIn w z)
    (mapped_same (carry_lem c.case_carried-case.result) (carried c.args.sensitive c.args.seen.now)
    (any_words (lexicon_of c.args.compiled.now c.args.sensitive) symbols)
    c.case_carried-case.ensures)
    (c.in_ok-words.ensures c.args.sensitive symbols live w i)

are_proper : (c : After-alphabet) (symbols : List Symbol) → (w : List Symbol) →
    IsIn w (all_words c symbols) → AreProper w
are_proper c symbols =
    carried_proper c.case_keeps_words.ensures.proper c.args.sensitive c.args.seen.now
    (any_words (lexicon_of c.args.compiled.now c.args.sensitive) symbols) (all_words c symbols) refl
    (λ v i. any_proper c.args.compiled.now c.args.sensitive symbols v c.alphabet.ensures.sound i)

pub are_told_longer-requires : goal.are_told_longer-requires
are_told_longer-requires c =
    let at = (goal.at.are_told_longer-requires c).After-alphabet in
    λ w i. are_proper at c.requires.0 w (some_are at c.requires.0 c.requires.1 w i)

pub returns : goal.returns
returns c = λ told symbols live.
    let at = (goal.at.returns c).After-alphabet in
    c.are_told_longer.ensures (let t : c.are_told_longer.result ≡ true = cc in t)
    (carried_words (lexicon_of c.args.compiled.now c.args.sensitive) c.args.sensitive
    c.args.seen.now symbols)
    (λ w i. in_order_of c.one_rendering.ensures (all_words at symbols) (are_proper at symbols) w
    (some_are at symbols live w i))
