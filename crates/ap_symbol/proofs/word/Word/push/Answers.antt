use Rattle.std.proofs.Common.{arith}
use Rattle.std.proofs.lemmas.Grind.{common_steps}
use Rattle.ap_symbol.proofs.Coded.{coded_push}
use Rattle.ap_symbol.proofs.word.Word.push.Goals as goal

pub invariant_of-self-in-Ok : goal.invariant_of-self-in-Ok
invariant_of-self-in-Ok c = record {
  each = grind (arith, common_steps);
  rendered = grind (arith, common_steps);
  coded = rw c.in-Ok.ensures.items (coded_push _ _ c.self.invariant.coded c.coded.ensures);
}
