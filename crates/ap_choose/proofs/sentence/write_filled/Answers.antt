use Rattle.std.proofs.Common.{arith, ◌++◌, ap, sym, ◌∙◌}
use Rattle.std.proofs.lemmas.List.{append-nil}
use Rattle.std.proofs.lemmas.Bool.Decides.{nat_tests}
use Rattle.ap_passes.proofs.WordBytes.{filled_none}
use Rattle.ap_choose.proofs.sentence.write_filled.Goals as goal

pub returns-then-is_empty : goal.returns-then-is_empty
returns-then-is_empty c = λ word is. sym (append-nil c.args.into.now)
    ∙ ap (λ q. c.args.into.now ++ q)
    (sym (filled_none c.args.bytes.now word is (grind (arith, nat_tests))))
