use Rattle.std.proofs.Common.{◌∙◌, ◌++◌, ◌∷◌, [], ap, sym, append_assoc, List, Option, Some, ℕ}
use Rattle.ap_exec.specs.Beginning.{lead_in, from_first}
use Rattle.ap_exec.proofs.Begins.{from_next}
use Rattle.ap_exec.proofs.beginning.positions_of.Goals as goal

pub numbers-preserved : goal.numbers-preserved
numbers-preserved c =
    let lead = lead_in c.args.has_chunk in
    let n = c.numbers.number in
    c.in_ok-push-2.ensures.items
    ∙ ap (λ (xs : List (Option ℕ)). xs ++ Some n ∷ []) c.numbers.invariant
    ∙ append_assoc lead (from_first n) (Some n ∷ [])
    ∙ ap (λ (xs : List (Option ℕ)). lead ++ xs) (sym (from_next n))
