use Rattle.std.proofs.Common.{rules, ◌≡◌, arith}
use Rattle.std.specs.Ordering.{is_lt, eq_by_cmp}
use Rattle.std.proofs.lemmas.Fn.{dedup_same}
use Rattle.std.proofs.lemmas.Cmp.{nat_list_cmp_total}
use Rattle.std.proofs.lemmas.List.Sorted.{ranks_by, answers_always}
use Rattle.ap_symbol.specs.Rendering.{word_cmp, rendering}
use Rattle.ap_live.proofs.WordLaws.{sorted_words, word_members, few_sorted}
use Rattle.ap_live.proofs.Ordered.{ordered, few_ordered}
use Rattle.ap_live.proofs.wording.sort_words.Goals as goal

pub returns-clause-is : goal.returns-clause-is
returns-clause-is c = ordered c.one_rendering.ensures c.args.words.now.items
    c.sort_unstable_by.new.self.items c.dedup_by.new.self.items c.requires
    c.sort_unstable_by.ensures.permutation
    (c.sort_unstable_by.ensures.sorted (λ a b. is_lt (word_cmp a b))
    (ranks_by nat_list_cmp_total rendering)
    (answers_always _ (λ a r. is_lt r ≡ is_lt (word_cmp a.0.now a.1.0.now)) _
    (λ f a r f' h. search rules)))
    (dedup_same _ (eq_by_cmp word_cmp) _ (λ x y b f' x' y' k. search rules)
    c.sort_unstable_by.new.self.items c.dedup_by.new.self.items c.dedup_by.ensures.filtered)

pub returns-clause-order : goal.returns-clause-order
returns-clause-order c = sorted_words c.sort_unstable_by.new.self.items c.dedup_by.new.self.items
    (c.sort_unstable_by.ensures.sorted (λ a b. is_lt (word_cmp a b))
    (ranks_by nat_list_cmp_total rendering)
    (answers_always _ (λ a r. is_lt r ≡ is_lt (word_cmp a.0.now a.1.0.now)) _
    (λ f a r f' h. search rules)))
    (dedup_same _ (eq_by_cmp word_cmp) _ (λ x y b f' x' y' k. search rules)
    c.sort_unstable_by.new.self.items c.dedup_by.new.self.items c.dedup_by.ensures.filtered)

pub returns-clause-members : goal.returns-clause-members
returns-clause-members c =
    word_members c.one_rendering.ensures c.args.words.now.items c.sort_unstable_by.new.self.items
    c.dedup_by.new.self.items c.requires c.sort_unstable_by.ensures.permutation
    (dedup_same _ (eq_by_cmp word_cmp) _ (λ x y b f' x' y' k. search rules)
    c.sort_unstable_by.new.self.items c.dedup_by.new.self.items c.dedup_by.ensures.filtered)

pub returns-then-len-lt2-clause-is : goal.returns-then-len-lt2-clause-is
returns-then-len-lt2-clause-is c =
    few_ordered c.args.words.now.items (omega (arith, c.len.ensures, c.args.words.now.ok.0))

pub returns-then-len-lt2-clause-order : goal.returns-then-len-lt2-clause-order
returns-then-len-lt2-clause-order c =
    few_sorted c.args.words.now.items (omega (arith, c.len.ensures, c.args.words.now.ok.0))
