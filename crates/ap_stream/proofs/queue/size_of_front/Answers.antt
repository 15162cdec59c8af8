use Rattle.std.proofs.Common.{arith, ◌<◌, length, ap}
use Rattle.ap_stream.specs.declared.item.Read.{Read}
use Rattle.ap_stream.proofs.StepLaws.{bytes_next, bytes_fits}
use Rattle.ap_stream.proofs.queue.size_of_front.Goals as goal

pub overflow_add-size : goal.overflow_add-size
overflow_add-size c =
    let lt : c.loop-i.i < length c.args.reads.now =
    omega (arith, c.loop-i-test.true, c.requires.within) in
    let f = bytes_fits c.args.reads.now c.loop-i.i c.index-reads-i.result lt c.index-reads-i.is in
    let s = ap (λ (r : Read). r.size) c.index-reads-i.is in
    let i = c.loop-i.invariant in
    omega (arith, f, i, s, c.requires.fits)

pub loop-i-preserved : goal.loop-i-preserved
loop-i-preserved c =
    let lt : c.loop-i.i < length c.args.reads.now =
    omega (arith, c.loop-i-test.true, c.requires.within) in
    let n = bytes_next c.args.reads.now c.loop-i.i c.index-reads-i.result lt c.index-reads-i.is in
    let s = ap (λ (r : Read). r.size) c.index-reads-i.is in
    let i = c.loop-i.invariant in
    omega (arith, n, i, s)
