use Rattle.std.proofs.Common.{sym, ◌∙◌}
use Rattle.ap_fst.proofs.RowLaws.{keeps_by, keeps_none}
use Rattle.ap_fst.proofs.rows.add_kept.Goals as goal

pub returns-in_default : goal.returns-in_default
returns-in_default c = keeps_none c.args.moves.now c.args.leads.now c.args.at c.args.kept.now
    (λ m t here loud led. c.in_default.not-Some t (c.kept_at.ensures m t here loud led))

pub returns : goal.returns
returns c = keeps_by c.args.moves.now c.args.leads.now c.args.at c.in-Some.state c.args.kept.now
    c.add.new.self c.in_ok-add.ensures
    (λ m t here loud led. sym c.in-Some.is ∙ c.kept_at.ensures m t here loud led)
