use Rattle.std.proofs.Common.{◌≡◌, ℕ, ◌+◌, ◌≤◌, List, ◌++◌, length, take, drop, arith, sym, ap, ◌∙◌, length-drop}
use Rattle.std.proofs.lemmas.List.{take-append-drop, take-append-le, drop-drop, length-take, take_all}

-- the piece that was taken, and what is left
pub piece-rest : (xs piece after : List ℕ) (at n : ℕ) → piece ≡ take n (drop at xs) →
    at + n ≤ length xs → drop at xs ≡ take n (piece ++ after) ++ drop (at + n) xs
piece-rest xs piece after at n e h =
    let len : length piece ≡ n =
    omega (arith, ap length e, length-take n (drop at xs), length-drop at xs) in
    let front : take n (piece ++ after) ≡ piece = take-append-le n piece after (omega arith)
    ∙ take_all n piece (omega arith) in
    sym (ap (λ p. p ++ drop (at + n) xs) (front ∙ e)
    ∙ ap (λ q. take n (drop at xs) ++ q) (sym (drop-drop n at xs))
    ∙ take-append-drop n (drop at xs))
