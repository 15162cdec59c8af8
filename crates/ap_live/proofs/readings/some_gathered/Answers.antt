use Rattle.ap_symbol.specs.Recasing.{carry_lem}
use Rattle.ap_fst.specs.declared.compiled.Kind2.TheVariants.{Standard, Inconditional, Postblank, Preblank}
use Rattle.ap_live.specs.Lexicon.{lexicon_of}
use Rattle.ap_live.proofs.Fewer.{some_four}
use Rattle.ap_live.proofs.readings.some_gathered.Goals as goal

pub returns : goal.returns
returns c = λ sensitive symbols live.
    let lexicon = lexicon_of c.args.compiled.now sensitive in
    some_four (carry_lem c.args.case) (lexicon.readings Standard symbols)
    (lexicon.readings Inconditional symbols) (lexicon.readings Postblank symbols)
    (lexicon.readings Preblank symbols) _ _ _ _ _ c.new-words.ensures.items
    (c.in_ok-push_some.ensures sensitive symbols live)
    (c.in_ok-push_some-2.ensures sensitive symbols live)
    (c.in_ok-push_some-3.ensures sensitive symbols live)
    (c.in_ok-push_some-4.ensures sensitive symbols live)
