use Rattle.ap_stream.proofs.SignLaws as laws
use Rattle.ap_stream.proofs.ChunkWalk as walk
use Rattle.ap_stream.proofs.chunks.part_at.Goals as goal

pub unit_size-size-requires : goal.unit_size-size-requires
unit_size-size-requires c =
    rw (laws.slice_rest c.args.bytes.now 1)
    (walk.unit_begins c.args.bytes.now c.requires.whole c.requires.some c.if-bytes-eq94.true)

pub from_bytes-requires : goal.from_bytes-requires
from_bytes-requires c =
    let size = rw (laws.slice_rest c.args.bytes.now 1) at c.unit_size-size.ensures.size in (
      size.0,
      rw c.in_ok-own.ensures
          (walk.unit_there c.args.bytes.now c.requires.whole c.requires.some size.0
          c.unit_size-size.result c.if-bytes-eq94.true size.1),
    )

pub returns-then-bytes-eq94-clause-part : goal.returns-then-bytes-eq94-clause-part
returns-then-bytes-eq94-clause-part c =
    let size = rw (laws.slice_rest c.args.bytes.now 1) at c.unit_size-size.ensures.size in
    walk.behind_unit c.args.bytes.now c.requires.whole c.requires.some size.0 c.from_bytes.result
    c.unit_size-size.result c.if-bytes-eq94.true size.1
    (rw c.in_ok-own.ensures at c.from_bytes.ensures)

pub blank_size-size-requires : goal.blank_size-size-requires
blank_size-size-requires c =
    walk.run_begins c.args.bytes.now c.requires.whole c.requires.some c.requires.open
    c.if-bytes-eq94.false

pub returns-clause-part : goal.returns-clause-part
returns-clause-part c =
    walk.behind_run c.args.bytes.now c.requires.whole c.requires.some c.requires.open
    c.if-bytes-eq94.false c.blank_size-size.result c.in_ok-own-2.own c.blank_size-size.ensures.size
    c.in_ok-own-2.ensures

pub returns-clause-size : goal.returns-clause-size
returns-clause-size c = (
  walk.run_some c.args.bytes.now c.requires.whole c.requires.some c.requires.open
      c.if-bytes-eq94.false c.blank_size-size.result c.blank_size-size.ensures.size,
  c.blank_size-size.ensures.most,
)
