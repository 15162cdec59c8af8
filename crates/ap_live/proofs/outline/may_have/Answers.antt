use Rattle.std.specs.Prelude.{bit_and, ◌≡◌, ◌/◌, ℕ}
use Rattle.std.proofs.Common.{◌^◌, subst, sym, ◌∙◌, arith}
use Rattle.std.specs.Int.{bit_at}
use Rattle.std.proofs.lemmas.Bool.Decides.{nat_tests}
use Rattle.std.proofs.lemmas.Nat.Bits.{shr_and_one}
use Rattle.ap_live.specs.Outlines.{IsBit}
use Rattle.ap_live.proofs.outline.may_have.Goals as goal

pub returns-in-Some : goal.returns-in-Some
returns-in-Some c = λ no edges first last j e are at low high is.
    let own = c.bit_of.ensures.some c.in-Some.bit c.in-Some.is in
    let set : bit_at c.args.codes c.in-Some.bit ≡ 1 = are j e at low high c.in-Some.bit
    (subst (λ (z : ℕ). IsBit z c.in-Some.bit) (sym is) own.0) in
    let one : bit_and (c.args.codes / 2 ^ c.in-Some.bit) 1 ≡ 1 =
    shr_and_one c.args.codes c.in-Some.bit ∙ set in
    grind (arith, nat_tests)
