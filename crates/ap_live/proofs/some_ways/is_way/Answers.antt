use Rattle.std.proofs.Common.{◌≡◌, ◌≤◌, ◌∙◌, ℕ, List, arith, drop, length, refl, subst, take}
use Rattle.std.proofs.Math.Seq.{drop-length}
use Rattle.ap_live.specs.Trails.{Way, begin}
use Rattle.ap_live.proofs.SomeWays.{at_last, one_before}
use Rattle.ap_live.proofs.some_ways.is_way.Goals as goal

pub loop-at-init : goal.loop-at-init
loop-at-init c = record {
  within = omega arith;
  way = λ seen are. begin refl refl (drop-length c.args.places.now);
}

pub loop-at-preserved : goal.loop-at-preserved
loop-at-preserved c =
    let places : List ℕ = c.args.places.now in
    let within : c.loop-at.at ≤ length places = c.loop-at.invariant.within in
    record {
      within = omega arith;
      way = λ seen are. subst (λ (z : List ℕ). Way c.args.fst.now.edges (take c.in-Some.next seen)
          c.in-Some.to z)
          (one_before places c.loop-at.at (omega (arith, c.loop-at-test.true)) within)
          (c.go_on.ensures c.in-Some.next c.in-Some.to c.in-Some.is seen
          (drop c.loop-at.at places) are (c.loop-at.invariant.way seen are));
    }

pub returns : goal.returns
returns c = λ final seen are.
    let none : c.loop-at.at ≡ 0 = omega (arith, c.loop-at-test.false) in
    let way : Way c.args.fst.now.edges (take c.loop-at.row seen) c.loop-at.state
    c.args.places.now =
    subst (λ (z : ℕ). Way c.args.fst.now.edges (take c.loop-at.row seen) c.loop-at.state
    (drop z c.args.places.now)) none (c.loop-at.invariant.way seen are) in (
      c.loop-at.state,
      (
        at_last c.args.fst.now seen c.args.rows.now c.loop-at.row c.loop-at.state
            c.args.places.now are
            (c.if-row-saturating_sub.false ∙ c.saturating_sub.ensures) way,
        c.is_final.ensures.holds.0 final,
      ),
    )
