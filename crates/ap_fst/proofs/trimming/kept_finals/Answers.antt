use Rattle.std.proofs.Common.{◌∙◌, ap, sym, List, ℕ, ◌++◌, take, get_or, []}
use Rattle.std.proofs.lemmas.List.{take_more, flat_map_more}
use Rattle.std.specs.List.{flat_map}
use Rattle.ap_fst.specs.Trimming.{kept_state}
use Rattle.ap_fst.proofs.trimming.kept_finals.Goals as goal

pub loop-state-preserved : goal.loop-state-preserved
loop-state-preserved c =
    let xs : List ℕ = c.args.finals.now in
    let i : ℕ = c.loop-state.state-index in
    let f : ℕ → List ℕ = kept_state c.args.states.now in
    c.in_ok-add_final.ensures ∙ ap (λ z. z ++ f (get_or xs i 0)) c.loop-state.invariant
    ∙ flat_map_more f [] (take i xs) (get_or xs i 0)
    ∙ sym (ap (flat_map f) (take_more xs i 0 c.loop-state-test.true))
