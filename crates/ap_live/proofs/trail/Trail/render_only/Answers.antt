use Rattle.std.proofs.Common.{◌≡◌, ◌++◌, ◌∙◌, List, ap, subst, sym, ℕ}
use Rattle.std.specs.Prelude.{reverse}
use Rattle.ap_symbol.specs.Rendering.{rendering}
use Rattle.ap_live.specs.Heads.{written}
use Rattle.ap_live.specs.Trails.{IsOnlyEnd, LeadsBack, Trails}
use Rattle.ap_live.specs.declared.nodes.Node.{Node}
use Rattle.ap_live.proofs.trail.Trail.render_only.Goals as goal

pub returns : goal.returns
returns c = λ done outlined seen is.
    let nodes : List Node = c.args.self.now.nodes in
    let view : c.as_slice.result.now ≡ nodes =
    c.as_slice.ensures.value ∙ ap (λ (t : Trails). t.nodes) c.self.view_is in
    let only : IsOnlyEnd c.args.fst.now nodes seen c.in-Some.end =
    c.only_end.ensures c.in-Some.end seen c.in-Some.is is in
    let places : c.in_ok-places.places.items ≡ only.places = c.in_ok-places.ensures only.places
    (subst (λ (z : List Node). LeadsBack z c.in-Some.end only.places) (sym view) only.back) in
    record {
      word = reverse (written c.args.fst.now.edges only.places);
      only = only.only;
      is = c.in_ok-extend.ensures.ok
          ∙ ap (λ z. c.args.into.now ++ z) (c.as_slice-2.ensures.value
          ∙ c.in_ok-bytes.ensures outlined
          ∙ ap (λ (z : List ℕ). rendering (reverse (written c.args.fst.now.edges z))) places);
    }
