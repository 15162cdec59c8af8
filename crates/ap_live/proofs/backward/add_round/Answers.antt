use Rattle.std.proofs.Common.{◌≡◌, ◌<◌, arith, length}
use Rattle.ap_live.proofs.Backing.{adds_begin, adds_at, adds_from}
use Rattle.ap_live.proofs.backward.add_round.Goals as goal

pub loop-at-init : goal.loop-at-init
loop-at-init c = adds_begin _ _ _ _

pub loop-at-preserved : goal.loop-at-preserved
loop-at-preserved c =
    let end : c.len-end.result ≡ length c.args.items.now = c.len-end.ensures in
    let lt : c.loop-at.at < length c.args.items.now = omega arith in
    adds_at c.args.fst.now.edges c.args.links.now c.args.items.now c.args.from c.loop-at.at
    c.loop-at.items c.add_before.new.items (omega arith) lt c.loop-at.invariant
    c.in_ok-add_before.ensures

pub returns : goal.returns
returns c =
    let end : c.len-end.result ≡ length c.args.items.now = c.len-end.ensures in
    adds_from c.args.fst.now.edges c.args.links.now c.args.items.now c.args.from c.loop-at.at
    c.loop-at.items (omega arith) c.loop-at.invariant
