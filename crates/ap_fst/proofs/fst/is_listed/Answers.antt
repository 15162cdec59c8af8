use Rattle.std.proofs.Common.{subst, sym, Bool, IsTrue}
use Rattle.std.specs.Prelude.{◌↔◌}
use Rattle.ap_fst.specs.Lists.{IsIn}
use Rattle.ap_fst.proofs.PlaceLaws.{held_searched}
use Rattle.ap_fst.proofs.fst.is_listed.Goals as goal

pub returns : goal.returns
returns c = subst (λ (b : Bool). IsTrue b ↔ IsIn c.args.state c.args.states.now)
    (sym c.is_ok.ensures.value)
    (held_searched c.args.states.now c.args.state c.binary_search.result c.requires
    c.binary_search.ensures.position)
