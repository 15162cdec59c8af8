use Rattle.std.proofs.Common.{subst, sym, List, ℕ, length}
use Rattle.std.specs.Ordering.{nat_cmp}
use Rattle.ap_fst.specs.Lists.{Ascends}
use Rattle.ap_binary.proofs.Letters.{letters_are, AreLetters}
use Rattle.ap_binary.proofs.alphabet.alphabet.Goals as goal

pub is_closed-requires : goal.is_closed-requires
is_closed-requires c =
    let bytes = c.in_ok-rest.rest.now in
    let are : AreLetters 0 c.in_ok-letters.letters =
    letters_are (length bytes) 0 bytes c.in_ok-letters.letters c.in_ok-letters.rest.now
    c.in_ok-letters.ensures.gives in
    subst (λ (z : List ℕ). Ascends nat_cmp z) (sym c.as_slice.ensures) are.ascend
