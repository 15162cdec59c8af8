use Rattle.std.proofs.Common.{take, ℕ}
use Rattle.std.specs.Prelude.{◌↔◌}
use Rattle.ap_symbol.specs.Lists.{IsIn}
use Rattle.ap_compile.specs.Partners.{IsPartnered}
use Rattle.ap_compile.proofs.alphabet.with_partners.Given as goal

abbrev pub invariant-loop-c : goal.invariant-loop-c
invariant-loop-c l = (x : ℕ) → IsIn x l.made.items ↔ IsPartnered (take l.c-index l.alphabet) x
