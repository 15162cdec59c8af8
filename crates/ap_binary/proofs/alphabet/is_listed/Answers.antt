use Rattle.std.proofs.Common.{subst, sym, Bool, IsTrue}
use Rattle.std.specs.Prelude.{◌↔◌}
use Rattle.ap_fst.specs.Lists.{IsIn}
use Rattle.ap_fst.proofs.PlaceLaws.{held_searched}
use Rattle.ap_binary.proofs.Letters.{listed_is}
use Rattle.ap_binary.proofs.alphabet.is_listed.Goals as goal

pub returns : goal.returns
returns c = listed_is c.args.letters.now c.args.c c.is_ok.result
    (subst (λ (b : Bool). IsTrue b ↔ IsIn c.args.c c.args.letters.now) (sym c.is_ok.ensures.value)
    (held_searched c.args.letters.now c.args.c c.binary_search.result c.requires
    c.binary_search.ensures.position))
