use Rattle.std.proofs.Common.{◌≡◌, ◌++◌, take, filter, not}
use Rattle.ap_symbol.specs.Words.{is_white}
use Rattle.ap_dix.proofs.sections.add_letters.Given as goal

abbrev pub invariant-text : goal.invariant-text
invariant-text l = l.letters ≡ l.fn.letters
    ++ filter (λ c. not (is_white c)) (take l.c-index l.text)
