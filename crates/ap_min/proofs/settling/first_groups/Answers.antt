use Rattle.std.proofs.Common.{List, ℕ, subst}
use Rattle.ap_min.specs.Settled.{IsFull}
use Rattle.ap_min.proofs.Settled.{coarse_when_full}
use Rattle.ap_min.proofs.settling.first_groups.Goals as goal

pub returns-then-is_full-clause-coarse : goal.returns-then-is_full-clause-coarse
returns-then-is_full-clause-coarse c =
    coarse_when_full c.args.rows.now c.requires.start c.requires.rows c.in_ok-groups.ensures.keys
    c.in_ok-groups.groups.items c.in_ok-groups.ensures.are
    (subst (λ (gs : List ℕ). IsFull c.args.rows.now gs) c.as_slice-2.ensures.value
    (c.is_full.ensures c.if-is_full.true))
