use Rattle.std.proofs.Common.{◌∙◌, Bool, List, [], map, subst, sym}
use Rattle.std.specs.Prelude.{if◌then◌else◌}
use Rattle.std.proofs.lemmas.Result.{IfOk-weaker}
use Rattle.ap_symbol.specs.Recasing.{carry_lem}
use Rattle.ap_symbol.specs.declared.symbol.Symbol.{Symbol}
use Rattle.ap_fst.specs.declared.compiled.Kind2.TheVariants.{Standard}
use Rattle.ap_live.specs.Lexicon.{lexicon_of}
use Rattle.ap_live.specs.Readings.{AddsSome}
use Rattle.ap_analysis.specs.Licence.{surface}
use Rattle.ap_analysis.proofs.too_long.push_some_standard.Goals as goal

pub returns-else-begins_alphabetic : goal.returns-else-begins_alphabetic
returns-else-begins_alphabetic c = IfOk-weaker c.push_some.result _ _ (λ done added sensitive live.
    let seen : List Symbol = surface c.args.reads.now c.args.count in
    let P : Bool → Type 0 = λ z. AddsSome (map (carry_lem c.args.case)
    (if z then [] else (lexicon_of c.args.compiled.now sensitive).readings Standard seen))
    c.args.into.now.items c.push_some.new.into.items in
    subst P (sym c.if-begins_alphabetic.false ∙ c.begins_alphabetic.ensures sensitive)
    (added sensitive seen live)) c.push_some.ensures
