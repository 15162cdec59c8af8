use Rattle.std.proofs.Common.{eqb}
use Rattle.std.proofs.lemmas.List.Filters.{dedup_is}
use Rattle.ap_fst.proofs.Commons.{ascends_dedup, dedup_holds}
use Rattle.ap_fst.proofs.trimming.common_states.Goals as goal

pub returns-clause-ascend : goal.returns-clause-ascend
returns-clause-ascend c =
    ascends_dedup c.sort_unstable.new.self.items c.dedup.new.self.items
    c.sort_unstable.ensures.sorted
    (dedup_is eqb c.sort_unstable.new.self.items c.dedup.new.self.items c.dedup.ensures.filtered)

pub returns-clause-exactly : goal.returns-clause-exactly
returns-clause-exactly c =
    dedup_holds c.in_ok-both.both.items c.sort_unstable.new.self.items c.dedup.new.self.items
    c.args.a.now c.args.b.now c.sort_unstable.ensures.permutation
    (dedup_is eqb c.sort_unstable.new.self.items c.dedup.new.self.items c.dedup.ensures.filtered)
    c.in_ok-both.ensures
