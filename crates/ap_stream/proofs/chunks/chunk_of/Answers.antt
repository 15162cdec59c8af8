use Rattle.ap_stream.proofs.SignLaws as laws
use Rattle.ap_stream.proofs.ChunkWalk as walk
use Rattle.ap_stream.proofs.chunks.chunk_of.Goals as goal

pub name_at-requires : goal.name_at-requires
name_at-requires c = walk.name_whole _ c.requires.0 c.requires.1

pub content_of-requires : goal.content_of-requires
content_of-requires c =
    let n = c.in_ok-name.ensures in
    let s = walk.shape c.args.held.now c.requires.0 c.requires.1 c.in_ok-name.field-0.name
    c.in_ok-name.field-0.end n.0 n.2 in
    rw (laws.slice_rest c.args.held.now c.in_ok-name.field-0.end) (
      s.parts,
      s.size,
      walk.content_whole c.args.held.now c.requires.0 c.requires.1
          c.in_ok-name.field-0.name c.in_ok-name.field-0.end n.0 n.2,
    )

pub returns : goal.returns
returns c =
    let n = c.in_ok-name.ensures in
    let m = rw (laws.slice_rest c.args.held.now c.in_ok-name.field-0.end) at
    c.in_ok-content.ensures in
    walk.chunk_made c.args.held.now c.requires.0 c.requires.1 c.in_ok-name.field-0.name
    c.in_ok-name.field-0.end n.0 n.2 c.in_ok-content.content m.0 m.1
