use Rattle.std.proofs.Common.{◌≡◌, take, true}
use Rattle.std.specs.List.{list_all}
use Rattle.ap_symbol.specs.Alphabet.{has_letter}
use Rattle.ap_symbol.specs.Case.{partner_lem}
use Rattle.ap_binary.proofs.alphabet.is_closed.Given as goal

abbrev pub invariant-letters : goal.invariant-letters
invariant-letters l = list_all (λ a. has_letter l.letters (partner_lem a))
    (take l.letter-index l.letters) ≡ true
