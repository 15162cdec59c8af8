use Rattle.std.proofs.Common.{arith}
use Rattle.std.proofs.lemmas.List.{length-drop}
use Rattle.ap_stream.proofs.SignLaws as laws
use Rattle.ap_stream.proofs.ChunkWalk as walk
use Rattle.ap_stream.proofs.chunks.content_of.Goals as goal

pub returns-then-bytes-at-eq125 : goal.returns-then-bytes-at-eq125
returns-then-bytes-at-eq125 c =
    walk.content_ends c.args.bytes.now c.loop-at.at c.loop-at.content c.loop-at.invariant.on
    c.requires
    (omega (arith, c.loop-at-test.true)) (omega (arith, c.if-bytes-at-eq125.true))

pub part_at-requires-clause-whole : goal.part_at-requires-clause-whole
part_at-requires-clause-whole c =
    rw (laws.slice_rest c.args.bytes.now c.loop-at.at)
    (walk.content_left c.args.bytes.now c.loop-at.at c.loop-at.content c.loop-at.invariant.on
    c.requires)

pub loop-at-preserved : goal.loop-at-preserved
loop-at-preserved c =
    let front = laws.slice_rest c.args.bytes.now c.loop-at.at in
    let part = rw front at c.in_ok-part.ensures.part in
    let most = rw front at c.in_ok-part.ensures.size.1 in
    let l = length-drop c.loop-at.at c.args.bytes.now in
    record {
      fits = omega (arith, most, l, c.loop-at-test.true);
      on = rw c.in_ok-push.ensures.ok
          (walk.past_part c.args.bytes.now c.loop-at.at c.loop-at.content c.loop-at.invariant.on
          c.requires c.in_ok-part.field-0.part c.in_ok-part.field-0.size part);
    }

pub unreachable-requires : goal.unreachable-requires
unreachable-requires c =
    walk.content_over c.args.bytes.now c.loop-at.at c.loop-at.content c.loop-at.invariant.on
    c.requires
    (omega (arith, c.loop-at-test.false))
