use Rattle.std.proofs.Common.{arith, eqb}
use Rattle.std.proofs.lemmas.List.Filters.{dedup_is}
use Rattle.ap_live.proofs.Spreading.{few_distinct, state_members, sorted_distinct}
use Rattle.ap_live.proofs.rows.sort_states.Goals as goal

pub returns-clause-members : goal.returns-clause-members
returns-clause-members c =
    state_members c.args.states.now.items c.sort_unstable.new.self.items c.dedup.new.self.items
    c.sort_unstable.ensures.permutation
    (dedup_is eqb c.sort_unstable.new.self.items c.dedup.new.self.items c.dedup.ensures.filtered)

pub returns-clause-distinct : goal.returns-clause-distinct
returns-clause-distinct c =
    sorted_distinct c.sort_unstable.new.self.items c.dedup.new.self.items
    c.sort_unstable.ensures.sorted
    (dedup_is eqb c.sort_unstable.new.self.items c.dedup.new.self.items c.dedup.ensures.filtered)

pub returns-then-len-lt2-clause-distinct : goal.returns-then-len-lt2-clause-distinct
returns-then-len-lt2-clause-distinct c =
    few_distinct c.args.states.now.items (omega (arith, c.if-len-lt2.true))
