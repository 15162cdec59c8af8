use Rattle.std.proofs.Common.{List, length, refl, sym, ap, ◌∙◌}
use Rattle.std.proofs.lemmas.Bool.{ltb-true, ltb-false}
use Rattle.std.proofs.lemmas.Option.{slice_get_past, slice_get_read}
use Rattle.ap_symbol.specs.declared.symbol.Symbol.{Symbol}
use Rattle.ap_exec.specs.Parts.{sought}
use Rattle.ap_exec.proofs.Attributes.{sought_nothing, items_are}
use Rattle.ap_exec.proofs.clips.attribute_span.Goals as goal

pub returns-in-None-clause-value : goal.returns-in-None-clause-value
returns-in-None-clause-value c =
    let all = c.args.attributes.now in
    sym (sought_nothing all c.args.n c.args.start c.args.word.now (slice_get_past all c.args.n
    (ltb-false c.args.n (length all) (sym c.in-None.ensures.lookup.0))))

pub returns-in-Some-clause-value : goal.returns-in-Some-clause-value
returns-in-Some-clause-value c =
    let all = c.args.attributes.now in
    let items = c.in-Some.attribute.now in
    let held = c.in-Some.ensures.lookup in
    c.sought.ensures.value
    ∙ ap (λ (rows : List (List Symbol)). sought c.args.start rows c.args.word.now)
    (sym (items_are all c.args.n items (slice_get_read all (length all) c.args.n items refl
    (ltb-true c.args.n (length all) (sym held.0)) held.1)))
