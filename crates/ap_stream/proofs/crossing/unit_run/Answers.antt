use Rattle.std.proofs.Common.{◌∙◌, ap, get_or, take}
use Rattle.std.proofs.lemmas.List.{take_more}
use Rattle.ap_stream.specs.Effects.{crossing}
use Rattle.ap_stream.proofs.Crossed.{crossing_more, crossing_none}
use Rattle.ap_stream.proofs.crossing.unit_run.Goals as goal

pub loop-count-init : goal.loop-count-init
loop-count-init c = crossing_none c.args.dialect c.args.mode

pub loop-count-preserved : goal.loop-count-preserved
loop-count-preserved c =
    ap (crossing c.args.dialect c.args.mode)
    (take_more c.args.bytes.now c.loop-count.count 0 c.loop-count-test.true)
    ∙ crossing_more c.args.dialect c.args.mode c.loop-count.at c.in-Some.next
    (take c.loop-count.count c.args.bytes.now) (get_or c.args.bytes.now c.loop-count.count 0)
    c.loop-count.invariant c.in-Some.ensures
