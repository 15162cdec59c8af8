use Rattle.std.proofs.Common.{◌≡◌, ◌∙◌, sym, arith, length}
use Rattle.std.proofs.lemmas.Bool.Decides.{nat_tests}
use Rattle.ap_live.proofs.Backing.{many_none}
use Rattle.ap_live.proofs.backward.close_back.Goals as goal

pub returns-then-is_empty : goal.returns-then-is_empty
returns-then-is_empty c =
    let none : length c.args.links.now ≡ 0 =
    grind (arith, nat_tests, sym c.is_empty.ensures ∙ c.if-is_empty.true) in
    many_none c.args.fst.now.edges c.args.links.now c.args.items.now none
