use Rattle.std.proofs.Common.{List, ap, map, refl, slice_get, subst, ◌∙◌}
use Rattle.ap_symbol.specs.Recasing.{carry_lem}
use Rattle.ap_symbol.specs.Words.{AreProper}
use Rattle.ap_symbol.specs.declared.symbol.Symbol.{Symbol}
use Rattle.ap_fst.specs.Lists.{IsIn}
use Rattle.ap_live.specs.Least.{HoldsFirst}
use Rattle.ap_live.specs.Lexicon.{lexicon_of}
use Rattle.ap_live.specs.Readings.{carried, any_words}
use Rattle.ap_live.specs.SectionLives.{AreLive}
use Rattle.ap_live.proofs.AnyWords.{any_proper, carried_proper}
use Rattle.ap_live.proofs.LeastWords.{first_in_order}
use Rattle.ap_live.proofs.Ordered.{mapped_same}
use Rattle.ap_live.proofs.readings.least_readings.Goals as goal
use Rattle.ap_live.proofs.readings.least_readings.Goals.{After-alphabet}

-- the words of any kind, each with the case
abbrev all_words : After-alphabet → List Symbol → List (List Symbol)
all_words c symbols = map (carried c.args.sensitive c.args.seen.now)
    (any_words (lexicon_of c.args.compiled.now c.args.sensitive) symbols)

hold_first : (c : After-alphabet) (symbols : List Symbol) →
    AreLive c.args.compiled.now c.args.sensitive symbols c.args.lives.now →
    HoldsFirst (all_words c symbols) c.in_ok-words.words.items
hold_first c symbols live =
    subst (λ (z : List (List Symbol)). HoldsFirst z c.in_ok-words.words.items)
    (mapped_same (carry_lem c.case_carried-case.result) (carried c.args.sensitive c.args.seen.now)
    (any_words (lexicon_of c.args.compiled.now c.args.sensitive) symbols)
    c.case_carried-case.ensures) (c.in_ok-words.ensures c.args.sensitive symbols live)

are_proper : (c : After-alphabet) (symbols : List Symbol) → (w : List Symbol) →
    IsIn w (all_words c symbols) → AreProper w
are_proper c symbols =
    carried_proper c.case_keeps_words.ensures.proper c.args.sensitive c.args.seen.now
    (any_words (lexicon_of c.args.compiled.now c.args.sensitive) symbols) (all_words c symbols) refl
    (λ v i. any_proper c.args.compiled.now c.args.sensitive symbols v c.alphabet.ensures.sound i)

pub sort_words-requires : goal.sort_words-requires
sort_words-requires c =
    let at = (goal.at.sort_words-requires c).After-alphabet in
    λ w i. are_proper at c.requires.0 w
    ((hold_first at c.requires.0 c.requires.1).sound w i)

pub returns : goal.returns
returns c = λ symbols live.
    let at = (goal.at.returns c).After-alphabet in
    ap (λ (z : List (List Symbol)). slice_get z 0) (c.from_vec.ensures ∙ c.sort_words.ensures.is)
    ∙ first_in_order c.one_rendering.ensures (all_words at symbols) c.in_ok-words.words.items
    (are_proper at symbols) (hold_first at symbols live)
