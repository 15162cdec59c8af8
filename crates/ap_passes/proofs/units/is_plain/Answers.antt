use Rattle.std.proofs.Common.{◌∙◌, sym, arith}
use Rattle.std.proofs.lemmas.Bool.{not-true}
use Rattle.std.proofs.lemmas.Bool.Decides.{nat_tests}
use Rattle.ap_passes.proofs.WordBytes.{whole_word}
use Rattle.ap_passes.proofs.units.is_plain.Goals as goal

pub returns-then-not-is_empty : goal.returns-then-not-is_empty
returns-then-not-is_empty c =
    λ word is plain. whole_word c.args.bytes.now word is (grind (arith, nat_tests))
    (sym c.has_joint.ensures ∙ not-true c.has_joint.result plain)
