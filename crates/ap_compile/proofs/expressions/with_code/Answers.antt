use Rattle.std.proofs.Common.{◌≡◌, ◌∷◌, [], ℕ, true, sym, ◌∙◌, ap, not, subst}
use Rattle.std.specs.Prelude.{IsTrue}
use Rattle.std.specs.Char.{IsScalar}
use Rattle.std.proofs.lemmas.Bool.{false≢true}
use Rattle.std.proofs.lemmas.Result.{IfOk-weaker}
use Rattle.ap_symbol.specs.Words.{is_white}
use Rattle.ap_symbol.specs.declared.symbol.Symbol.TheVariants.{Letter}
use Rattle.ap_compile.specs.Drafts.{IsMoreBy}
use Rattle.ap_compile.specs.Forming.{OfStrings, IsCode}
use Rattle.ap_compile.proofs.Drafting.{more_draft}
use Rattle.ap_compile.proofs.Forming.{strings_draft}
use Rattle.ap_compile.proofs.Spanning.{no_code, code_strings}
use Rattle.ap_compile.proofs.expressions.with_code.Goals as goal

pub returns-in_default : goal.returns-in_default
returns-in_default c = no_code c.args.code c.args.made (λ s k. c.in_default.ensures.value k.scalar)

pub returns-then-is_white : goal.returns-then-is_white
returns-then-is_white c =
    let white : is_white c.args.code ≡ true = ap is_white (sym c.in-Some.ensures.value.1)
    ∙ sym c.is_white.ensures ∙ c.if-is_white.true in
    no_code c.args.code c.args.made (λ s k. false≢true (sym (ap not white) ∙ k.dark))

pub returns : goal.returns
returns c =
    let scalar : IsScalar c.in-Some.c =
    subst IsScalar (sym c.in-Some.ensures.value.1) c.in-Some.ensures.value.0 in
    let dark : IsTrue (not (is_white c.in-Some.c)) =
    ap not (sym c.is_white.ensures ∙ c.if-is_white.false) in
    IfOk-weaker c.either.result _ _
    (λ made h. subst (λ (z : ℕ). IsMoreBy (OfStrings (IsCode z)) c.args.made made)
    c.in-Some.ensures.value.1
    (more_draft (OfStrings (IsCode c.in-Some.c)) c.args.made c.in_ok-more.more made
    (strings_draft (λ s. s ≡ Letter c.in-Some.c ∷ []) (IsCode c.in-Some.c) c.in_ok-more.more
    (c.in_ok-more.ensures dark) (code_strings c.in-Some.c scalar dark)) h)) c.either.ensures
