use Rattle.std.proofs.Common.{arith}
use Rattle.ap_fst.proofs.RowLaws.{kept_begun, kept_more, kept_all}
use Rattle.ap_fst.proofs.rows.kept_states.Goals as goal

pub loop-at-init : goal.loop-at-init
loop-at-init c = kept_begun c.args.moves.now c.args.leads.now c.args.start c.in_ok-kept.kept
    c.in_ok-kept.ensures

pub loop-at-preserved : goal.loop-at-preserved
loop-at-preserved c = kept_more c.args.moves.now c.args.leads.now c.args.start c.loop-at.at
    c.loop-at.kept c.add_kept.new.kept c.in_ok-add_kept.ensures c.loop-at.invariant

pub returns : goal.returns
returns c = kept_all c.args.moves.now c.args.leads.now c.args.start c.loop-at.at c.loop-at.kept
    (omega arith) c.loop-at.invariant
