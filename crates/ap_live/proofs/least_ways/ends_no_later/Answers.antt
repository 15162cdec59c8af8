use Rattle.std.proofs.Common.{◌≡◌, ◌≢◌, true, subst, sym}
use Rattle.std.specs.Prelude.{reverse}
use Rattle.std.specs.declared.cmp.Ordering.TheVariants.{Greater}
use Rattle.ap_symbol.specs.Recasing.{carry_lem}
use Rattle.ap_symbol.specs.Rendering.{word_cmp}
use Rattle.ap_symbol.specs.declared.recasing.Case.{Case}
use Rattle.ap_live.specs.Least.{EndsNoLater}
use Rattle.ap_live.proofs.LeastOrder.{ends_low, ends_all, ends_first, ends_by}
use Rattle.ap_live.proofs.least_ways.ends_no_later.Goals as goal

pub returns-in-Low : goal.returns-in-Low
returns-in-Low c = λ told.
    let is : c.is_no_later.result ≡ true = cc in
    subst (λ (k : Case). EndsNoLater k c.args.a.now c.args.b.now) (sym c.in-Low.is)
    (ends_low c.args.a.now c.args.b.now
    (ends_by (λ w. w) c.in_ok-first.first c.in_ok-second.second (reverse c.args.a.now)
    (reverse c.args.b.now) c.in_ok-first.ensures c.in_ok-second.ensures
    (c.is_no_later.ensures is)))

pub returns-in-All : goal.returns-in-All
returns-in-All c = λ told.
    subst (λ (k : Case). EndsNoLater k c.args.a.now c.args.b.now) (sym c.in-All.is)
    (ends_all c.args.a.now c.args.b.now
    (subst (λ (k : Case). word_cmp (carry_lem k (reverse c.args.a.now))
    (carry_lem k (reverse c.args.b.now)) ≢ Greater) c.in-All.is
    (ends_by (carry_lem c.args.case) c.in_ok-first.first c.in_ok-second.second
    (reverse c.args.a.now) (reverse c.args.b.now) c.in_ok-first.ensures c.in_ok-second.ensures
    (c.is_carried_no_later.ensures told))))

pub returns : goal.returns
returns c = λ told.
    subst (λ (k : Case). EndsNoLater k c.args.a.now c.args.b.now) (sym c.in-First.is)
    (ends_first c.args.a.now c.args.b.now
    (ends_by (λ w. w) c.in_ok-first.first c.in_ok-second.second (reverse c.args.a.now)
    (reverse c.args.b.now) c.in_ok-first.ensures c.in_ok-second.ensures
    (c.is_no_later-in-First.ensures c.if-not-is_no_later.false))
    (subst (λ (k : Case). word_cmp (carry_lem k (reverse c.args.a.now))
    (carry_lem k (reverse c.args.b.now)) ≢ Greater) c.in-First.is
    (ends_by (carry_lem c.args.case) c.in_ok-first.first c.in_ok-second.second
    (reverse c.args.a.now) (reverse c.args.b.now) c.in_ok-first.ensures c.in_ok-second.ensures
    (c.is_carried_no_later-in-First.ensures told))))
