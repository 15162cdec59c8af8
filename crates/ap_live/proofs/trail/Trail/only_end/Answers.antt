use Rattle.std.proofs.Common.{◌≡◌, ◌+◌, ◌∙◌, List, ap, length, refl, subst, sym, ℕ}
use Rattle.std.proofs.lemmas.Option.{same_Some}
use Rattle.ap_live.specs.Trails.{IsFirstFinal, IsOnlyEnd, NoneFinal, Trails}
use Rattle.ap_live.specs.declared.nodes.Node.{Node}
use Rattle.ap_live.proofs.Heads.{none_of}
use Rattle.ap_live.proofs.TrailLaws.{only_end}
use Rattle.ap_live.proofs.trail.Trail.only_end.Goals as goal

pub returns : goal.returns
returns c = λ end seen e is.
    let nodes : List Node = c.args.self.now.nodes in
    let view : c.as_slice-nodes.result.now ≡ nodes =
    c.as_slice-nodes.ensures.value ∙ ap (λ (t : Trails). t.nodes) c.self.view_is in
    subst (λ (z : ℕ). IsOnlyEnd c.args.fst.now nodes seen z) (same_Some c.in_ok-end.end end e)
    (only_end c.args.fst.now nodes seen c.low.result c.in_ok-end.end
    (c.low.ensures.row c.args.fst.now.edges seen is)
    (subst (λ (z : List Node). IsFirstFinal c.args.fst.now.finals z c.low.result c.in_ok-end.end)
    view (c.in_ok-end.ensures.some c.in_ok-end.end refl))
    (subst (λ (z : List Node). NoneFinal c.args.fst.now.finals z (c.in_ok-end.end + 1) (length z))
    view (c.next_final-2.ensures.none
    (none_of c.next_final-2.result (sym c.is_some.ensures ∙ c.if-is_some.false)))))
