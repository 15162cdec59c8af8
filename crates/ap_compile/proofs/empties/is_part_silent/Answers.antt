use Rattle.std.proofs.Common.{◌<◌, sym, subst, length, ◌∷◌, [], arith, false, get_or}
use Rattle.std.specs.Prelude.{IsTrue, nat_lt, ◌↔◌}
use Rattle.std.proofs.lemmas.Option.{slice_get-get_or}
use Rattle.std.proofs.lemmas.Bool.Decides.{nat_tests}
use Rattle.ap_dix.specs.Soundness.{is_sound_part}
use Rattle.ap_dix.specs.declared.dictionary.EntryPart.{EntryPart}
use Rattle.ap_compile.specs.Empties.{IsSilent}
use Rattle.ap_compile.proofs.Silences.{identity_silent, pair_silent, paradigm_silent, expression_silent}
use Rattle.ap_dix.specs.Plain.{plain}
use Rattle.ap_compile.proofs.Forming.{form_empty}
use Rattle.ap_compile.proofs.empties.is_part_silent.Goals as goal

pub returns-in-Identity : goal.returns-in-Identity
returns-in-Identity c = λ d are. subst (λ (p : EntryPart). IsTrue c.reads_nothing.result
    ↔ IsSilent d c.args.direction (p ∷ [])) (sym c.in-Identity.is)
    (identity_silent d c.args.direction c.in-Identity.word c.reads_nothing.result
    c.reads_nothing.ensures)

pub returns-in-Pair : goal.returns-in-Pair
returns-in-Pair c = λ d are. subst (λ (p : EntryPart). IsTrue c.reads_nothing-in-Pair.result
    ↔ IsSilent d c.args.direction (p ∷ [])) (sym c.in-Pair.is)
    (pair_silent d c.args.direction c.in-Pair.left c.in-Pair.right c.reads_nothing-in-Pair.result
    c.reads_nothing-in-Pair.ensures)

pub returns-in-Paradigm : goal.returns-in-Paradigm
returns-in-Paradigm c =
    let below : IsTrue (nat_lt c.in-Paradigm.n (length c.args.empties.now)) =
    subst (λ (p : EntryPart). IsTrue (is_sound_part (length c.args.empties.now) p))
    c.in-Paradigm.is c.requires in
    let within : c.in-Paradigm.n < length c.args.empties.now = grind (arith, nat_tests) in
    λ d are. subst (λ (p : EntryPart). IsTrue (get_or c.args.empties.now c.in-Paradigm.n false)
    ↔ IsSilent d c.args.direction (p ∷ [])) (sym c.in-Paradigm.is)
    (paradigm_silent d c.args.direction c.args.empties.now c.in-Paradigm.n
    (get_or c.args.empties.now c.in-Paradigm.n false) are
    (slice_get-get_or c.args.empties.now c.in-Paradigm.n false within))

pub returns-in-Expression : goal.returns-in-Expression
returns-in-Expression c =
    λ d are. subst (λ (p : EntryPart). IsTrue c.has_empty.result
    ↔ IsSilent d c.args.direction (p ∷ [])) (sym c.in-Expression.is)
    (expression_silent d c.args.direction c.in-Expression.expression c.in-Expression.field-1
    c.has_empty.result (form_empty c.in-Expression.expression (plain c.tree.result.now)
    c.has_empty.result (sym c.tree.ensures) c.has_empty.ensures))
