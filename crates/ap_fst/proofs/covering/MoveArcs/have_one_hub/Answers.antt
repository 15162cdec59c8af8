use Rattle.std.proofs.Common.{◌≡◌, subst, sym, ℕ, arith}
use Rattle.std.proofs.lemmas.Bool.Decides.{nat_tests}
use Rattle.ap_fst.specs.Quiet.{Quiet}
use Rattle.ap_fst.proofs.Coverings.{quiet_on}
use Rattle.ap_fst.proofs.covering.MoveArcs.have_one_hub.Goals as goal

pub returns : goal.returns
returns c = λ moves h t.
    let one : c.back.result ≡ c.front.result = grind (arith, nat_tests) in
    quiet_on moves c.args.from c.back.result c.args.to (c.back.ensures moves h)
    (subst (λ (x : ℕ). Quiet moves x c.args.to) (sym one) (c.front.ensures moves h))
