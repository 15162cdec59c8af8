use Rattle.ap_chunk.specs.Choice.{unit_of}
use Rattle.ap_chunk.proofs.Lives.{kept_on, least_on, on_ok, if_ok}
use Rattle.ap_chunk.proofs.keeping.go_on.Goals as goal

pub returns-clause-kept : goal.returns-clause-kept
returns-clause-kept c =
    on_ok c.keep.result _ _ (λ e. kept_on c.args.patterns.now c.args.count (unit_of c.args.unit.now)
    c.args.live.now c.keep.new.kept.items c.clear.new.self.items c.clear.ensures.items e
    c.if-count-eq0.false) c.keep.ensures.kept

pub returns-clause-over : goal.returns-clause-over
returns-clause-over c =
    if_ok c.keep.result _ _ (λ least e. least_on c.args.patterns.now c.args.count
    (unit_of c.args.unit.now) c.args.live.now least e c.if-count-eq0.false) c.keep.ensures.over
