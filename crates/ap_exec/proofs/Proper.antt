-- Each part of a proper word is proper.
use Rattle.std.proofs.Common.{ℕ, zero, suc, List, [], ◌∷◌, take, drop, refl}
use Rattle.std.proofs.lemmas.Bool.{and_parts}
use Rattle.std.specs.List.{list_all}
use Rattle.ap_symbol.specs.declared.symbol.Symbol.{Symbol}
use Rattle.ap_symbol.specs.Words.{is_proper, AreProper}

pub proper_drop : (n : ℕ) (word : List Symbol) → AreProper word → AreProper (drop n word)
proper_drop zero word h = h
proper_drop (suc n) [] h = h
proper_drop (suc n) (s ∷ word) h =
    proper_drop n word (and_parts (is_proper s) (list_all is_proper word) h).1

pub proper_take : (n : ℕ) (word : List Symbol) → AreProper word → AreProper (take n word)
proper_take zero word h = refl
proper_take (suc n) [] h = h
proper_take (suc n) (s ∷ word) h =
    let both = and_parts (is_proper s) (list_all is_proper word) h in
    rw (both.0, proper_take n word both.1) refl
