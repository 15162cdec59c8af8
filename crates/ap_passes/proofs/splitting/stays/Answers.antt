use Rattle.std.proofs.Common.{◌∙◌, sym, arith}
use Rattle.std.proofs.lemmas.Bool.{eqb-true}
use Rattle.std.proofs.lemmas.Bool.Decides.{nat_tests}
use Rattle.ap_symbol.specs.Kinds.{is_joint}
use Rattle.ap_passes.proofs.Finding.{until_none}
use Rattle.ap_passes.proofs.Staying.{split_marked, plain_split}
use Rattle.ap_passes.proofs.splitting.stays.Goals as goal

pub returns-then-is_marked-clause-whole : goal.returns-then-is_marked-clause-whole
returns-then-is_marked-clause-whole c =
    λ _. split_marked c.args.symbols.now (sym c.is_marked.ensures ∙ c.if-is_marked.true)

pub returns-clause-whole : goal.returns-clause-whole
returns-clause-whole c = λ e.
    plain_split c.args.symbols.now (grind (arith, nat_tests))
    (until_none is_joint c.args.symbols.now (let same = eqb-true _ _ e in
    omega (arith, same, c.place_of.ensures.value)))
