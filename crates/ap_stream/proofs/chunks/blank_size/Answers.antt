use Rattle.std.proofs.Common.{arith, ap, sym, ◌∙◌, refl, ◌≡◌, ◌+◌, length, drop, false}
use Rattle.std.proofs.lemmas.List.{length-drop}
use Rattle.std.proofs.lemmas.Bool.Decides.{nat_tests}
use Rattle.ap_stream.proofs.SignLaws as laws
use Rattle.ap_stream.proofs.ChunkWalk as walk
use Rattle.ap_stream.specs.Blanks.{Closed, closing}
use Rattle.ap_stream.proofs.chunks.blank_size.Goals as goal

pub loop-at-preserved-then-is_white : goal.loop-at-preserved-then-is_white
loop-at-preserved-then-is_white c = record {
  fits = omega (arith, c.loop-at-test.true);
  on = walk.past_white c.args.bytes.now c.loop-at.at c.loop-at.invariant.on c.requires
      (omega (arith, c.loop-at-test.true)) (sym c.is_white.ensures ∙ c.if-is_white.true);
}

pub loop-at-preserved : goal.loop-at-preserved
loop-at-preserved c =
    let closed : closing false 0 (drop (c.loop-at.at + 1) c.args.bytes.now)
    ≡ Closed c.in-Some.size =
    ap (closing false 0) (sym (laws.slice_rest c.args.bytes.now (c.loop-at.at + 1)))
    ∙ c.in-Some.ensures.closed in
    let l = length-drop (c.loop-at.at + 1) c.args.bytes.now in
    let s = ap length (laws.slice_rest c.args.bytes.now (c.loop-at.at + 1)) in
    record {
      fits = omega (arith, l, s, c.in-Some.ensures.within, c.loop-at-test.true);
      on = walk.past_super c.args.bytes.now c.loop-at.at c.loop-at.invariant.on c.requires
          c.in-Some.size
          (omega (arith, c.loop-at-test.true)) (omega (arith, c.if-bytes-at-eq91.true)) closed;
    }

pub unreachable-requires : goal.unreachable-requires
unreachable-requires c =
    walk.unclosed c.args.bytes.now c.loop-at.at c.loop-at.invariant.on c.requires
    (omega (arith, c.loop-at-test.true)) (omega (arith, c.if-bytes-at-eq91.true))
    (λ n e. c.in-None.ensures.unclosed refl n
    (ap (closing false 0) (laws.slice_rest c.args.bytes.now (c.loop-at.at + 1)) ∙ e))

pub returns-else-bytes-at-eq91-clause-size : goal.returns-else-bytes-at-eq91-clause-size
returns-else-bytes-at-eq91-clause-size c =
    walk.run_ends c.args.bytes.now c.loop-at.at c.loop-at.invariant.on c.requires
    (omega (arith, c.loop-at-test.true)) (sym c.is_white.ensures ∙ c.if-is_white.false)
    (grind (arith, nat_tests, c.if-bytes-at-eq91.false))

pub unreachable-requires-2 : goal.unreachable-requires-2
unreachable-requires-2 c =
    walk.run_over c.args.bytes.now c.loop-at.at c.loop-at.invariant.on c.requires
    (omega (arith, c.loop-at-test.false))
