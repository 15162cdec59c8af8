use Rattle.std.proofs.Common.{[], arith}
use Rattle.ap_passes.proofs.Cutting.{ended}
use Rattle.ap_passes.proofs.parts.write_parts.Goals as goal

pub returns : goal.returns
returns c =
    let within = rw c.symbols.ensures.symbols at c.place_of-tag.ensures.within in
    ended c.args.word.now c.loop-at.begun.from c.loop-at.at c.len.result c.loop-at.begun.behind
    c.in_ok-_behind._behind c.args.into.now c.loop-at.into c.write_part.new.into
    (omega (arith, c.loop-at-test.false, c.len-at-end.ensures, within)) c.len.ensures
    (c.in_ok-_behind.ensures []) c.loop-at.invariant.rest
