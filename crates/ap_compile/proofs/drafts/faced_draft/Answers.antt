use Rattle.std.proofs.Common.{◌≡◌, sym, ◌∙◌, ap, subst, List}
use Rattle.std.proofs.lemmas.Result.{IfOk-weaker}
use Rattle.ap_symbol.specs.declared.symbol.Symbol.{Symbol}
use Rattle.ap_dix.specs.Derivation.{Label as EntryLabel, paired, facing}
use Rattle.ap_dix.specs.declared.dictionary.Direction.{Direction}
use Rattle.ap_compile.specs.Drafts.{IsDraftOf}
use Rattle.ap_compile.proofs.Words.{paired_swapped}
use Rattle.ap_compile.proofs.drafts.faced_draft.Goals as goal

pub returns-in-Rl : goal.returns-in-Rl
returns-in-Rl c =
    let e : paired c.symbols-in-Rl.result.now c.symbols-in-Rl-2.result.now
    ≡ facing c.args.direction (paired c.args.left.now c.args.right.now) =
    ap (λ (z : List Symbol). paired z c.symbols-in-Rl-2.result.now) c.symbols-in-Rl.ensures.symbols
    ∙ ap (λ (z : List Symbol). paired c.args.right.now z) c.symbols-in-Rl-2.ensures.symbols
    ∙ sym (paired_swapped c.args.left.now c.args.right.now)
    ∙ ap (λ (d : Direction). facing d (paired c.args.left.now c.args.right.now))
    (sym c.in-Rl.is) in
    IfOk-weaker c.words_draft-in-Rl.result _ _
    (λ made h. subst (λ (xs : List EntryLabel). IsDraftOf (λ w. w ≡ xs) made) e h)
    c.words_draft-in-Rl.ensures
