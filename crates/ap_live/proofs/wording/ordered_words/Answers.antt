use Rattle.std.proofs.Common.{subst, List}
use Rattle.std.specs.Prelude.{◌↔◌}
use Rattle.ap_symbol.specs.declared.symbol.Symbol.{Symbol}
use Rattle.ap_fst.specs.Lists.{IsIn}
use Rattle.ap_live.proofs.wording.ordered_words.Goals as goal

pub returns-clause-members : goal.returns-clause-members
returns-clause-members c =
    λ w. subst (λ (z : List (List Symbol)). IsIn w c.sort_words.new.words.items ↔ IsIn w z)
    c.in_ok-words.ensures.is (c.sort_words.ensures.members w)
