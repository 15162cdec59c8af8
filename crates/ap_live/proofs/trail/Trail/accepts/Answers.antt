use Rattle.std.proofs.Common.{◌≡◌, ◌<◌, ◌≤◌, List, Some, ap, arith, length, refl, slice_get, sym, false, true, true≢false}
use Rattle.ap_live.specs.Trails.{Trails}
use Rattle.ap_live.specs.declared.nodes.Node.{Node}
use Rattle.ap_live.proofs.TrailLaws.{final_there, no_final, node_read, none_final_more, view_length}
use Rattle.ap_live.proofs.trail.Trail.accepts.Goals as goal

pub returns-then-is_final : goal.returns-then-is_final
returns-then-is_final c = λ seen is.
    let nodes : List Node = c.args.self.now.nodes in
    let view : c.self.inside.nodes.items ≡ nodes = ap (λ (t : Trails). t.nodes) c.self.view_is in
    let len : c.len-at-end.result ≡ length nodes =
    view_length c.self.inside.nodes nodes c.len-at-end.result c.len-at-end.ensures view in
    let lt : c.loop-at.at < c.len-at-end.result = c.loop-at-test.true in
    let there : slice_get nodes c.loop-at.at ≡ Some c.index.result.now =
    node_read nodes c.self.inside.nodes.items c.loop-at.at c.index.result.now view (omega arith)
    c.index.ensures in (
      (λ t. final_there c.args.fst.now nodes seen c.low-low.result c.loop-at.at c.index.result.now
          (c.low-low.ensures.row c.args.fst.now.edges seen is) c.loop-at.auto.at there
          (c.is_final.ensures.holds.0 c.if-is_final.true)),
      (λ some. refl),
    )

pub loop-at-preserved : goal.loop-at-preserved
loop-at-preserved c =
    let nodes : List Node = c.args.self.now.nodes in
    let view : c.self.inside.nodes.items ≡ nodes = ap (λ (t : Trails). t.nodes) c.self.view_is in
    let len : c.len-at-end.result ≡ length nodes =
    view_length c.self.inside.nodes nodes c.len-at-end.result c.len-at-end.ensures view in
    let lt : c.loop-at.at < c.len-at-end.result = c.loop-at-test.true in
    let there : slice_get nodes c.loop-at.at ≡ Some c.index.result.now =
    node_read nodes c.self.inside.nodes.items c.loop-at.at c.index.result.now view (omega arith)
    c.index.ensures in
    none_final_more c.args.fst.now.finals nodes c.low-low.result c.loop-at.at c.index.result.now
    there
    (λ i. let t : c.is_final.result ≡ true = c.is_final.ensures.holds.1 i in
    let f : c.is_final.result ≡ false = c.if-is_final.false in absurd (cc))
    c.loop-at.invariant

pub returns : goal.returns
returns c = λ seen is.
    let nodes : List Node = c.args.self.now.nodes in
    let view : c.self.inside.nodes.items ≡ nodes = ap (λ (t : Trails). t.nodes) c.self.view_is in
    let len : c.len-at-end.result ≡ length nodes =
    view_length c.self.inside.nodes nodes c.len-at-end.result c.len-at-end.ensures view in
    let all : c.len-at-end.result ≤ c.loop-at.at = c.loop-at-test.false in (
      (λ t. absurd (true≢false (sym t))),
      (λ some. absurd (no_final c.args.fst.now nodes seen c.low-low.result c.loop-at.at
          (c.low-low.ensures.row c.args.fst.now.edges seen is) (omega arith) c.loop-at.invariant
          some)),
    )
