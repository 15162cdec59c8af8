use Rattle.std.specs.Prelude.{◌≡◌, ℕ, Bool, ◌||◌, ◌==◌, List, IsTrue}
use Rattle.std.specs.List.{list_any, list_all}
use Rattle.ap_symbol.specs.Case.{partner_lem}

-- whether the character stands in the alphabet
abbrev pub has_letter : List ℕ → ℕ → Bool
has_letter alphabet c = list_any (λ a. a == c) alphabet

-- the closure of an alphabet under case partners holds a character exactly where it or its partner
-- stands in the alphabet
abbrev pub is_in_closure : List ℕ → ℕ → Bool
is_in_closure alphabet c = has_letter alphabet c || has_letter alphabet (partner_lem c)

-- `closed` is the closure of `alphabet`
abbrev pub IsClosure : List ℕ → List ℕ → Type 0
IsClosure alphabet closed = (c : ℕ) → has_letter closed c ≡ is_in_closure alphabet c

-- the partner of each of its characters stands in the alphabet
abbrev pub is_closed : List ℕ → Bool
is_closed alphabet = list_all (λ a. has_letter alphabet (partner_lem a)) alphabet

abbrev pub ClosureIsClosed : Type 0
ClosureIsClosed = (alphabet closed : List ℕ) → IsClosure alphabet closed → IsTrue (is_closed closed)
