use Rattle.std.proofs.Common.{◌≡◌, ◌∙◌, ◌≤◌, Some, ap, arith, length, slice_get, subst, ℕ}
use Rattle.std.specs.Prelude.{min}
use Rattle.ap_live.specs.Trails.{AreWays, Trails}
use Rattle.ap_live.proofs.TrailLaws.{first_read, trail_last, view_length}
use Rattle.ap_live.proofs.trail.Trail.low.Goals as goal

pub returns-in-Some-clause-row : goal.returns-in-Some-clause-row
returns-in-Some-clause-row c = λ edges seen is.
    let first : ℕ = c.in-Some.first in
    let there : slice_get c.args.self.now.firsts (length c.args.self.now.inputs) ≡ Some first =
    first_read c.args.self.now.firsts c.as_slice.result.now c.len.result
    (length c.args.self.now.inputs) first c.first_at.result
    (c.as_slice.ensures.value ∙ ap (λ (t : Trails). t.firsts) c.self.view_is)
    (view_length c.self.inside.inputs c.args.self.now.inputs c.len.result c.len.ensures
    (ap (λ (t : Trails). t.inputs) c.self.view_is)) c.first_at.ensures c.in-Some.is in
    let ways : AreWays edges c.args.self.now.nodes seen first (length c.args.self.now.nodes) =
    trail_last edges seen c.args.self.now first is there in
    let rises : first ≤ length c.args.self.now.nodes = ways.rises in
    let len : c.len-in-Some.result ≡ length c.args.self.now.nodes =
    view_length c.self.inside.nodes c.args.self.now.nodes c.len-in-Some.result
    c.len-in-Some.ensures (ap (λ (t : Trails). t.nodes) c.self.view_is) in
    let min_is : c.min.result ≡ min first c.len-in-Some.result = c.min.ensures in
    let same : first ≡ c.min.result = omega arith in
    subst (λ (z : ℕ). AreWays edges c.args.self.now.nodes seen z (length c.args.self.now.nodes))
    same ways
