use Rattle.std.proofs.Common.{◌≡◌, ◌∙◌, List, ℕ, ap, sym, subst}
use Rattle.ap_chunk.specs.Translations.{IsOf}
use Rattle.ap_chunk.specs.declared.known.Known.{Known}
use Rattle.ap_chunk.proofs.UnitWords.{is_rowed}
use Rattle.ap_chunk.proofs.parts.keep_unit.Goals as goal

pub returns-in_ok-row-in-Some-clause-units : goal.returns-in_ok-row-in-Some-clause-units
returns-in_ok-row-in-Some-clause-units c = λ given is all.
    let row : c.translation.new.room.row.items ≡ c.args.room.now.row.items =
    rw c.translation.ensures.row in
    let known : Known =
    record { unit = c.in_ok-made-in-Some.made; row = c.in_ok-row-in-Some.row } in
    c.keep.ensures given (is_rowed given known c.args.unit.now
    (subst (λ (k : List ℕ). IsOf k c.args.unit.now) (sym c.in_ok-made-in-Some.ensures.key)
    c.in-Some.ensures)
    (c.in_ok-row-in-Some.ensures ∙ c.as_slice.ensures.value ∙ row ∙ is ∙ ap given c.requires)) all
