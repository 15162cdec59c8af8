use Rattle.std.proofs.Common.{◌≡◌, ◌∙◌, arith, get_or, refl, true}
use Rattle.ap_compile.specs.Gatherings.{endings}
use Rattle.ap_compile.proofs.Gathered.{agreed_more, ending_at, endings_length}
use Rattle.ap_compile.proofs.gathering.agreed.Goals as goal

pub loop-count-preserved : goal.loop-count-preserved
loop-count-preserved c =
    let same : c.is_same_part.result ≡ true = cc in
    agreed_more c.args.parts.now c.loop-count.rest.now c.in-Some.front.now c.in-Some.last.now
    (endings c.args.levels.now) c.loop-count.count c.index-levels-count.result.ending.now
    (omega (arith, endings_length c.args.levels.now, c.loop-count-test.true)) c.loop-count.invariant
    c.in-Some.ensures.cases.0
    (ending_at c.args.levels.now c.loop-count.count
    (get_or c.args.levels.now c.loop-count.count c.index-levels-count.result)
    c.index-levels-count.result c.loop-count-test.true refl ∙ c.is_same_part.ensures same)
