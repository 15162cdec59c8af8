use Rattle.std.proofs.Common.{◌≡◌, length, subst, sym, arith, ℕ}
use Rattle.ap_live.specs.Outlines.{IsFirstPlace, SoFar}
use Rattle.ap_live.specs.declared.outline.First.{First}
use Rattle.ap_live.proofs.Outlining.{firsts_more, nothing_since}
use Rattle.ap_live.proofs.outline.lengthen.Goals as goal

pub loop-preserved : goal.loop-preserved
loop-preserved c =
    let f : First = record { place = c.in-Ok.first; codes = c.args.codes } in
    let new : IsFirstPlace c.args.edges.now c.len.result c.args.place =
    c.is_first.ensures c.if-not-is_first.false in
    let place : c.args.place ≡ c.in-Ok.first = omega (arith, c.in-Ok.ensures) in
    let state : c.len.result ≡ length c.loop.firsts.items = omega arith in
    let so_far : (codes : ℕ) → SoFar c.args.edges.now c.push.new.self.items c.args.place codes =
    λ codes. subst (λ (z : ℕ). SoFar c.args.edges.now c.push.new.self.items z codes) (sym place)
    (nothing_since c.args.edges.now c.loop.firsts.items c.push.new.self.items f
    c.in_ok-push.ensures.items codes) in
    record {
      firsts = λ are before. (
        firsts_more c.args.edges.now c.loop.firsts.items c.push.new.self.items f
            c.in_ok-push.ensures.items
            (subst (λ (z : ℕ). IsFirstPlace c.args.edges.now z c.in-Ok.first) state
            (subst (λ (z : ℕ). IsFirstPlace c.args.edges.now c.len.result z) place new))
            (c.loop.invariant.firsts are before).0
            (subst (λ (z : ℕ). SoFar c.args.edges.now c.loop.firsts.items z c.args.codes) place
            (c.loop.invariant.firsts are before).1),
        so_far c.args.codes,
      );
      so_far = λ codes before. so_far codes;
    }
