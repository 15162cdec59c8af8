use Rattle.std.proofs.Common.{◌≡◌, ◌+◌, ◌++◌, ◌∙◌, ◌∷◌, [], List, ap, map, subst, sym, take, ℕ}
use Rattle.ap_live.specs.Fitting.{Input}
use Rattle.ap_live.specs.Rows.{AreLiveRows}
use Rattle.ap_live.specs.Trails.{input_of}
use Rattle.ap_live.specs.declared.taken.Taken.{Taken}
use Rattle.std.proofs.lemmas.List.{map_more}
use Rattle.std.proofs.lemmas.List.{take_all}
use Rattle.ap_live.proofs.live_rows.LiveRows.along.Goals as goal

pub loop-taken-preserved : goal.loop-taken-preserved
loop-taken-preserved c = λ is.
    let x : Taken = c.taken-item.result in
    let i : ℕ = c.loop-taken.taken-index in
    let more : map input_of (take (i + 1) c.args.inputs.now)
    ≡ map input_of (take i c.args.inputs.now) ++ input_of x ∷ [] =
    map_more input_of c.args.inputs.now i x c.loop-taken-test.true
    ∙ ap (λ (z : Taken). map input_of (take i c.args.inputs.now) ++ input_of z ∷ [])
    (sym c.taken-item.is) in
    subst (λ (z : List Input). AreLiveRows c.args.fst.now z c.step.new.self) (sym more)
    (c.in_ok-step.ensures.ok (map input_of (take i c.args.inputs.now)) is
    (c.loop-taken.invariant is))

pub returns : goal.returns
returns c = λ is. subst (λ (z : List Taken). AreLiveRows c.args.fst.now (map input_of z)
    c.loop-taken.rows) (take_all c.loop-taken.taken-index c.args.inputs.now c.loop-taken-test.false)
    (c.loop-taken.invariant is)
