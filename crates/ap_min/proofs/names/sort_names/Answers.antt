use Rattle.std.proofs.Common.{rules, ◌≡◌}
use Rattle.std.specs.Ordering.{is_lt, eq_by_cmp}
use Rattle.std.proofs.lemmas.Fn.{dedup_same}
use Rattle.std.proofs.lemmas.List.Sorted.{ranks_by, answers_always}
use Rattle.ap_fst.specs.Order.{label_cmp}
use Rattle.ap_fst.specs.declared.label.Label.{Label}
use Rattle.ap_fst.proofs.OrderLaws.{label_total}
use Rattle.ap_min.proofs.NameLists.{sorted_ascends, sorted_members}
use Rattle.ap_min.proofs.names.sort_names.Goals as goal

pub returns-clause-ascend : goal.returns-clause-ascend
returns-clause-ascend c = sorted_ascends c.sort_unstable_by.new.self.items c.dedup_by.new.self.items
    (c.sort_unstable_by.ensures.sorted (λ a b. is_lt (label_cmp a b))
    (ranks_by label_total (λ (l : Label). l))
    (answers_always _ (λ a r. is_lt r ≡ is_lt (label_cmp a.0.now a.1.0.now)) _
    (λ f a r f' h. search rules)))
    (dedup_same _ (eq_by_cmp label_cmp) _ (λ x y b f' x' y' k. search rules)
    c.sort_unstable_by.new.self.items c.dedup_by.new.self.items c.dedup_by.ensures.filtered)

pub returns-clause-members : goal.returns-clause-members
returns-clause-members c =
    sorted_members c.args.names.now.items c.sort_unstable_by.new.self.items
    c.dedup_by.new.self.items c.sort_unstable_by.ensures.permutation
    (dedup_same _ (eq_by_cmp label_cmp) _ (λ x y b f' x' y' k. search rules)
    c.sort_unstable_by.new.self.items c.dedup_by.new.self.items c.dedup_by.ensures.filtered)
