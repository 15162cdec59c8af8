-- A unit that is whole in a piece.
use Rattle.std.specs.Prelude.{◌≡◌, ℕ, suc, ◌+◌, ◌<◌, List, [], ◌∷◌, ◌++◌, drop, take, length, true, eqb, Some, refl}
use Rattle.std.proofs.Common.{arith, ap, sym, subst, ◌∙◌, get_or}
use Rattle.std.proofs.lemmas.Bool.{eqb-true}
use Rattle.std.proofs.lemmas.List.{take_more}
use Rattle.ap_symbol.specs.declared.symbol.Symbol.{Symbol}
use Rattle.ap_stream.specs.declared.dialect.Dialect.{Dialect}
use Rattle.ap_stream.specs.declared.examine.Mode.{Mode}
use Rattle.ap_stream.specs.declared.examine.Mode.TheVariants as mode
use Rattle.ap_stream.specs.declared.level.Effect.{Effect}
use Rattle.ap_stream.specs.declared.level.Effect.TheVariants as effect
use Rattle.ap_stream.specs.declared.level.Level.TheVariants as level
use Rattle.ap_stream.specs.Effects.{spot, effect as table, crossing}
use Rattle.ap_stream.specs.Stands.{Stands, Tells}
use Rattle.ap_stream.specs.Dialects.{has_units}
use Rattle.ap_stream.proofs.ByteLaws.{nothing_part}
use Rattle.ap_stream.proofs.InUnitLaws.{unit_begins}
use Rattle.ap_stream.specs.UnitBytes.{UnitOf}
use Rattle.ap_stream.proofs.Crossed.{byte_told, crossed_all}

-- how many bytes end with a $ is nothing to what it shows
same_end : (dialect : Dialect) (at : Mode) (end : ℕ) →
    table dialect at 0 36 ≡ table dialect at end 36
same_end dialect mode.Start end = refl
same_end dialect mode.Escape end = refl
same_end dialect mode.Blank end = refl
same_end dialect mode.Inside end = refl
same_end dialect mode.InsideEscape end = refl
same_end dialect (mode.Word at) end = refl
same_end dialect (mode.WordEscape at) end = refl
same_end dialect (mode.Tag at some) end = refl

-- a bare $ ends the unit
dollar_ends : (dialect : Dialect) (at : Mode) (done : List ℕ) → Stands dialect at done [] →
    table dialect at 0 36 ≡ effect.UnitEnds →
    (words : List (List Symbol)) × UnitOf dialect (done ++ 36 ∷ []) words
dollar_ends dialect at done h e =
    subst (λ (s : Effect). Tells dialect (level.Item at) done (36 ∷ []) s)
    (sym (same_end dialect at (length done + 1)) ∙ e)
    (byte_told dialect at done 36 (length done + 1) h (omega arith) refl)

unit_of_run : (dialect : Dialect) (run : List ℕ) (to : Mode) → has_units dialect ≡ true →
    crossing dialect (mode.Word (spot true true)) run ≡ Some to →
    table dialect to 0 36 ≡ effect.UnitEnds →
    (words : List (List Symbol)) × UnitOf dialect (94 ∷ (run ++ 36 ∷ [])) words
unit_of_run dialect run to has crosses e =
    dollar_ends dialect to (94 ∷ run)
    (crossed_all dialect (mode.Word (spot true true)) to (94 ∷ []) run
    (unit_begins dialect has, nothing_part) crosses) e

pub unit_in_piece : (dialect : Dialect) (bytes : List ℕ) (count : ℕ) (to : Mode) →
    eqb (get_or bytes 0 0) 94 ≡ true → has_units dialect ≡ true →
    crossing dialect (mode.Word (spot true true)) (take count (drop 1 bytes)) ≡ Some to →
    table dialect to 0 36 ≡ effect.UnitEnds → count + 1 < length bytes → eqb (get_or bytes (count + 1) 0) 36 ≡ true →
    (words : List (List Symbol)) × UnitOf dialect (take (count + 1 + 1) bytes) words
unit_in_piece dialect [] count to caret has crosses e fits dollar = absurd (omega (arith, fits))
unit_in_piece dialect (b ∷ bytes) count to caret has crosses e fits dollar =
    let one : count + 1 ≡ suc count = omega arith in
    let two : count + 1 + 1 ≡ suc (count + 1) = omega arith in
    let last : get_or bytes count 0 ≡ 36 = eqb-true _ 36 (rw one at dollar) in
    let run : take (count + 1) bytes ≡ take count bytes ++ 36 ∷ [] =
    take_more bytes count 0 (omega (arith, fits))
    ∙ ap (λ z. take count bytes ++ z ∷ []) last in
    let is : take (count + 1 + 1) (b ∷ bytes) ≡ 94 ∷ (take count bytes ++ 36 ∷ []) =
    rw (two, run, eqb-true b 94 caret) refl in
    subst (λ (q : List ℕ). (words : List (List Symbol)) × UnitOf dialect q words) (sym is)
    (unit_of_run dialect (take count bytes) to has crosses e)
