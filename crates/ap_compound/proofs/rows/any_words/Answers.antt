use Rattle.std.proofs.Common.{refl, ◌∙◌}
use Rattle.std.proofs.lemmas.List.{map-id}
use Rattle.ap_fst.specs.declared.compiled.Kind2.TheVariants.{Standard, Inconditional, Postblank, Preblank}
use Rattle.ap_symbol.specs.Recasing.{carry_lem}
use Rattle.ap_symbol.specs.declared.recasing.Case.TheVariants.{Low}
use Rattle.ap_live.specs.Lexicon.{lexicon_of}
use Rattle.ap_live.specs.Readings.{any_words}
use Rattle.ap_live.proofs.Ordered.{mapped_four}
use Rattle.ap_compound.proofs.rows.any_words.Goals as goal

pub returns : goal.returns
returns c = λ sensitive symbols live.
    let lexicon = lexicon_of c.args.compiled.now sensitive in
    mapped_four (carry_lem Low) (λ word. word) (λ word. refl)
    (lexicon.readings Standard symbols) (lexicon.readings Inconditional symbols)
    (lexicon.readings Postblank symbols) (lexicon.readings Preblank symbols) _ _ _ _ _
    c.new-words.ensures.items
    (c.in_ok-push_kind.ensures sensitive symbols live)
    (c.in_ok-push_kind-2.ensures sensitive symbols live)
    (c.in_ok-push_kind-3.ensures sensitive symbols live)
    (c.in_ok-push_kind-4.ensures sensitive symbols live)
    ∙ map-id (any_words lexicon symbols)
