use Rattle.std.proofs.Common.{arith, rules}
use Rattle.std.proofs.lemmas.Option.{slice_get-get_or}
use Rattle.ap_fst.proofs.Coverings.{followed_more, followed_all}
use Rattle.ap_fst.proofs.covering.is_followed_by_all.Goals as goal

pub loop-arc-init : goal.loop-arc-init
loop-arc-init c = λ moves h k b lt at. absurd (omega arith)

pub loop-arc-preserved : goal.loop-arc-preserved
loop-arc-preserved c = λ moves h.
    followed_more moves c.args.from c.args.all.now c.loop-arc.arc-index _
    (slice_get-get_or c.args.all.now c.loop-arc.arc-index _ c.loop-arc-test.true) (c.is_followed.ensures moves h (search rules)) (c.loop-arc.invariant moves h)

pub returns : goal.returns
returns c = λ moves h t b i.
    followed_all moves c.args.from c.args.all.now c.loop-arc.arc-index b (omega arith)
    (c.loop-arc.invariant moves h) i
