-- What is reached over edges with an empty left side.
use Rattle.std.proofs.Common.{◌≡◌, inl, inr, ℕ, ◌+◌, ◌<◌, zero, suc, List, [], ◌∷◌, ◌++◌, length, sym, ◌∙◌, ap, subst, arith, Some, None}
use Rattle.std.specs.Prelude.{◌↔◌, slice_get}
use Rattle.std.proofs.lemmas.Bool.{cases_lt}
use Rattle.std.proofs.lemmas.Option.{same_Some, none-some, slice_get_within}
use Rattle.ap_fst.specs.Graphs.{Grows}
use Rattle.ap_fst.specs.Lists.{IsIn}
use Rattle.ap_fst.specs.Machines.{Machine}
use Rattle.ap_fst.proofs.Growing.{grows_keeps, grows_only}
use Rattle.std.specs.List.Sorted.{IsPermutation}
use Rattle.ap_fst.proofs.Listing.{in_from_place, placed_in, IsPlaced, in_permutation, from_permutation}
use Rattle.ap_trim.specs.Reading.{LeavesBy, Quietly, given, onward}

-- so far: all that is listed is reached, the starts are listed, and so is all that follows the
-- first so many
pub record IsReaching (m : Machine) (starts set : List ℕ) (at : ℕ) : Type 0 where
  pub sound : (s : ℕ) → IsIn s set → Quietly m starts s
  pub started : (s : ℕ) → IsIn s starts → IsIn s set
  pub closed : (k s t : ℕ) → slice_get set k ≡ Some s → k < at → LeavesBy m s None t → IsIn t set

longer_old : (old more : List ℕ) (k x : ℕ) → k < length old → slice_get (old ++ more) k ≡ Some x →
    slice_get old k ≡ Some x
longer_old [] more k x lt h = absurd (omega arith)
longer_old (y ∷ old) more zero x lt h = h
longer_old (y ∷ old) more (suc k) x lt h = longer_old old more k x (omega arith) h

few_left : (set : List ℕ) (at k x : ℕ) → None ≡ slice_get set at → slice_get set k ≡ Some x → k < at
few_left [] at k x done h = absurd (none-some x h)
few_left (y ∷ set) zero k x done h = absurd (none-some y done)
few_left (y ∷ set) (suc at) zero x done h = omega arith
few_left (y ∷ set) (suc at) (suc k) x done h = let l : k < at = few_left set at k x done h in
    omega (arith, l)

module _ (m : Machine) (starts : List ℕ) where
  pub reaching_begun : (before set : List ℕ) → before ≡ [] → Grows before starts set →
      IsReaching m starts set 0
  reaching_begun before set none g = record {
    sound = λ s i. elim (grows_only before starts set s g i) [
      | inl k ↦ elim (subst (λ (z : List ℕ). IsIn s z) none k) [ ]
      | inr k ↦ given k
    ];
    started = g.there;
    closed = λ k s t at lt l. absurd (omega (arith, lt));
  }

  pub reaching_on : (set targets new : List ℕ) (at s : ℕ) → Some s ≡ slice_get set at →
      ((t : ℕ) → IsIn t targets ↔ LeavesBy m s None t) → Grows set targets new →
      IsReaching m starts set at → IsReaching m starts new (at + 1)
  reaching_on set targets new at s here exits g r =
      let within : at < length set = slice_get_within set at s (sym here) in
      record {
        sound = λ x i. elim (grows_only set targets new x g i) [
          | inl k ↦ r.sound x k
          | inr k ↦ onward s (r.sound s (in_from_place set at s (sym here))) ((exits x).0 k)
        ];
        started = λ x i. grows_keeps set targets new x g (r.started x i);
        closed = λ k x t there lt l.
            let old : slice_get set k ≡ Some x = longer_old set g.more k x
            (omega (arith, lt, within)) (subst (λ (z : List ℕ). slice_get z k ≡ Some x) g.grown
            there) in
            elim (cases_lt k at) [
              | inl below ↦ grows_keeps set targets new t g (r.closed k x t old below l)
              | inr le ↦
                  let same : k ≡ at = omega (arith, lt, le) in
                  let one : x ≡ s = same_Some x s (sym old ∙ ap (slice_get set) same ∙ sym here) in
                  g.there t ((exits t).1 (subst (λ (z : ℕ). LeavesBy m z None t) one l))
            ];
      }

  all_in : (set : List ℕ) (at : ℕ) → None ≡ slice_get set at → IsReaching m starts set at →
      (s : ℕ) → Quietly m starts s → IsIn s set
  all_in set at done r s (given i) = r.started s i
  all_in set at done r s (onward before q l) =
      let p : IsPlaced before set = placed_in before set (all_in set at done r before q) in
      r.closed p.place before s p.at (few_left set at p.place before done p.at) l

  pub reached_all : (set : List ℕ) (at : ℕ) → None ≡ slice_get set at → IsReaching m starts set at →
      (s : ℕ) → IsIn s set ↔ Quietly m starts s
  reached_all set at done r s = (r.sound s, all_in set at done r s)

-- and it is the same in another order
pub sorted_same : (m : Machine) (starts states read old new : List ℕ) → read ≡ states → old ≡ read →
    IsPermutation old new → ((s : ℕ) → IsIn s states ↔ Quietly m starts s) → (s : ℕ) → IsIn s new ↔
    Quietly m starts s
sorted_same m starts states read old new e f p h s = (
  λ i. (h s).0 (subst (λ (z : List ℕ). IsIn s z) (f ∙ e) (from_permutation s old new p i)),
  λ q. in_permutation s old new p (subst (λ (z : List ℕ). IsIn s z) (sym (f ∙ e)) ((h s).1 q)),
)
