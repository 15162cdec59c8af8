use Rattle.std.proofs.Common.{◌+◌, arith, refl, subst, sym, take}
use Rattle.ap_live.specs.Trails.{IsTrail, Trails}
use Rattle.ap_live.proofs.TrailLaws.{first_read, trail_as, trail_cut}
use Rattle.ap_live.proofs.trail.Trail.cut.Goals as goal

pub returns : goal.returns
returns c = λ edges seen is.
    let own : IsTrail edges seen (record {
      nodes = c.self.inside.nodes.items;
      firsts = c.self.inside.firsts.items;
      inputs = c.self.inside.inputs.items;
    }) = subst (λ (z : Trails). IsTrail edges seen z) (sym c.self.view_is) is in
    trail_as edges (take c.args.len seen) c.truncate.new.self.items
    (take c.in-Some.first c.self.inside.nodes.items) c.truncate-2.new.self.items
    (take (c.args.len + 1) c.self.inside.firsts.items) c.truncate-3.new.self.items
    (take c.args.len c.self.inside.inputs.items) c.truncate.ensures.items
    c.truncate-2.ensures.items c.truncate-3.ensures.items
    (trail_cut edges seen _ own c.args.len c.in-Some.first
    (omega (arith, c.len.ensures, c.self.inside.inputs.ok.0, c.if-len.false))
    (first_read c.self.inside.firsts.items c.as_slice.result.now (c.args.len + 1)
    (c.args.len + 1) c.in-Some.first c.first_at.result c.as_slice.ensures.value refl
    c.first_at.ensures c.in-Some.is))
