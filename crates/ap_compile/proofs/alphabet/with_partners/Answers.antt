use Rattle.std.proofs.Common.{List, ℕ, subst}
use Rattle.std.specs.Prelude.{◌↔◌}
use Rattle.std.proofs.lemmas.List.{take_all}
use Rattle.ap_symbol.specs.Lists.{IsIn}
use Rattle.ap_compile.specs.Partners.{IsPartnered}
use Rattle.ap_compile.proofs.Lettering.{partners_more}
use Rattle.ap_compile.proofs.alphabet.with_partners.Goals as goal

pub loop-c-preserved : goal.loop-c-preserved
loop-c-preserved c = partners_more c.partners_are_inverse.ensures.partner c.args.alphabet.now
    c.loop-c.made.items c.push.new.self.items c.push-in-loop-c.new.self.items c.c-item.result
    c.partner.result c.c-item.result c.loop-c.c-index
    c.loop-c-test.true c.c-item.is c.partner.ensures c.in_ok-push.ensures.items
    c.in_ok-push-2.ensures.items c.loop-c.invariant

pub returns : goal.returns
returns c = subst (λ (xs : List ℕ). (x : ℕ) → IsIn x c.loop-c.made.items ↔ IsPartnered xs x)
    (take_all c.loop-c.c-index c.args.alphabet.now c.loop-c-test.false) c.loop-c.invariant
