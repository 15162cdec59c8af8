use Rattle.std.proofs.Common.{◌≡◌, ◌∙◌, ap, sym}
use Rattle.ap_chunk.specs.Tests.{takes_at, takes}
use Rattle.ap_chunk.proofs.Taking.{takes_exactly}
use Rattle.ap_chunk.proofs.categories.takes.Goals as goal

pub returns-clause-exact : goal.returns-clause-exact
returns-clause-exact c =
    let e : c.takes_at.result ≡ takes c.args.form c.args.category.now c.args.word.now =
    c.takes_at.ensures ∙ ap (takes_at c.args.form c.args.category.now c.args.word.now)
    c.division.ensures.value in
    let both = takes_exactly c.args.form c.args.category.now c.args.word.now in
    (λ h. both.0 (sym e ∙ h), λ t. e ∙ both.1 t)
