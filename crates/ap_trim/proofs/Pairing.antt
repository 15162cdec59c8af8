-- Pairs that are the same by the test of the program.
use Rattle.std.proofs.Common.{◌≡◌, ℕ, Bool, true, eqb, refl, ap, arith}
use Rattle.std.proofs.lemmas.Bool.{and_parts}
use Rattle.std.proofs.lemmas.Bool.Decides.{nat_tests}
use Rattle.ap_trim.specs.declared.pairs.Pair.{Pair}
use Rattle.ap_trim.specs.declared.watch.Watch.{Watch}
use Rattle.ap_trim.specs.declared.watch.Watch.TheVariants.{Kept, Lemma, Tags}
use Rattle.ap_trim.specs.contracts.pairs.PairPartialEq.TheImpl as of_pairs
use Rattle.ap_trim.specs.contracts.watch.WatchPartialEq.TheImpl as of_watches

abbrev pub same_pair : Pair → Pair → Bool
same_pair a b = (of_pairs.ghosts).eq a b

abbrev same_watch : Watch → Watch → Bool
same_watch v w = (of_watches.ghosts).eq v w

number_same : (n k : ℕ) → eqb n k ≡ true → n ≡ k
number_same n k h = grind (arith, nat_tests)

watch_same : (v w : Watch) → same_watch v w ≡ true → v ≡ w
watch_same Kept Kept h = refl
watch_same Kept (Lemma k) h = cc
watch_same Kept (Tags k) h = cc
watch_same (Lemma n) Kept h = cc
watch_same (Lemma n) (Lemma k) h = ap Lemma (number_same n k h)
watch_same (Lemma n) (Tags k) h = cc
watch_same (Tags n) Kept h = cc
watch_same (Tags n) (Lemma k) h = cc
watch_same (Tags n) (Tags k) h = ap Tags (number_same n k h)

pub pair_same : (a b : Pair) → same_pair a b ≡ true → a ≡ b
pair_same a b h =
    let both = and_parts (eqb a.state b.state) (same_watch a.watch b.watch) h in
    let state : a.state ≡ b.state = number_same a.state b.state both.0 in
    let watch : a.watch ≡ b.watch = watch_same a.watch b.watch both.1 in
    λ i. record { state = state i; watch = watch i }
