use Rattle.std.proofs.Common.{◌∙◌, rules}
use Rattle.std.proofs.lemmas.Option.{none-some}
use Rattle.ap_fst.proofs.RowLaws.{not_loud}
use Rattle.ap_fst.proofs.rows.kept_at.Goals as goal

pub returns-in_default : goal.returns-in_default
returns-in_default c = λ m s here loud led. absurd (none-some m (c.in_default.ensures ∙ here))

pub returns-then-is_some : goal.returns-then-is_some
returns-then-is_some c = λ m s here loud led. c.number_at.ensures ∙ led

pub returns-then-is_shared : goal.returns-then-is_shared
returns-then-is_shared c = λ m s here loud led. absurd (not_loud c.args.moves.now c.args.at c.in-Some.next.now m
    c.in-Some.ensures here (search rules) loud)

pub returns : goal.returns
returns c = λ m s here loud led. absurd (not_loud c.args.moves.now c.args.at c.in-Some.next.now m
    c.in-Some.ensures here (search rules) loud)
