-- How far the items behind some are like those in front: one more, where some leave and where some
-- come, and what the definitions see alike in both.
use Rattle.std.specs.Prelude.{◌≡◌, ℕ, suc, zero, ◌+◌, ◌-◌, ◌<◌, List, [], ◌∷◌, ◌++◌, length, take, drop, refl}
use Rattle.std.proofs.Common.{arith, ap, sym, ◌∙◌, inl, inr, get_or, subst}
use Rattle.std.proofs.lemmas.Bool.{cases_lt}
use Rattle.std.proofs.lemmas.List.{take-append-le, drop-append-le, drop-take, length-drop, length-append}
use Rattle.ap_stream.specs.declared.item.Read.{Read}
use Rattle.ap_analysis.specs.Agreements.{AreLikeFront}
use Rattle.ap_analysis.specs.Kept.{mark_of, marks}
use Rattle.ap_analysis.proofs.Marks.{marks_length}
use Rattle.ap_analysis.proofs.Keys.{marks_next}

pub marks_drop : (n : ℕ) (reads : List Read) → marks (drop n reads) ≡ drop n (marks reads)
marks_drop zero reads = refl
marks_drop (suc n) [] = refl
marks_drop (suc n) (read ∷ reads) = marks_drop n reads

marks_append : (a b : List Read) → marks (a ++ b) ≡ marks a ++ marks b
marks_append [] b = refl
marks_append (read ∷ a) b = ap (λ ms. mark_of read.item ∷ ms) (marks_append a b)

-- one item more
pub like_more : (reads rest : List Read) (by count : ℕ) (d e : Read) (m n : ℕ) →
    rest ≡ drop by reads → count < length rest → m ≡ mark_of (get_or reads count d).item →
    n ≡ mark_of (get_or rest count e).item → m ≡ n → AreLikeFront reads by count →
    AreLikeFront reads by (count + 1)
like_more reads rest by count d e m n rest_is lt front behind same is =
    let a = ap length rest_is in
    let l = length-drop by reads in
    record {
      within = omega (arith, a, l, lt);
      same =
          ap (λ (rs : List Read). take (count + 1) (marks rs)) (sym rest_is)
          ∙ marks_next rest count e lt
          ∙ ap (λ (rs : List Read).
          take count (marks rs) ++ mark_of (get_or rest count e).item ∷ []) rest_is
          ∙ ap (λ ms. ms ++ mark_of (get_or rest count e).item ∷ []) is.same
          ∙ ap (λ (x : ℕ). take count (marks reads) ++ x ∷ []) (sym behind ∙ sym same ∙ front)
          ∙ sym (marks_next reads count d (omega (arith, a, l, lt)));
    }

left_alike : (reads : List Read) (by count : ℕ) → AreLikeFront reads by count →
    AreLikeFront (drop by reads) by (count - by)
left_alike reads by count is =
    elim (cases_lt by count) [
      | inl lt ↦
          let whole : by + (count - by) ≡ count = omega (arith, lt) in
          let l = length-drop by reads in
          let w = is.within in
          record {
            within = omega (arith, l, w, lt);
            same =
                ap (λ ms. take (count - by) ms) (marks_drop by (drop by reads))
                ∙ sym (drop-take by (count - by) (marks (drop by reads)))
                ∙ ap (λ (k : ℕ). drop by (take k (marks (drop by reads)))) whole
                ∙ ap (λ ms. drop by ms) is.same
                ∙ ap (λ (k : ℕ). drop by (take k (marks reads))) (sym whole)
                ∙ drop-take by (count - by) (marks reads)
                ∙ ap (λ ms. take (count - by) ms) (sym (marks_drop by reads));
          }
      | inr ge ↦
          let z : 0 ≡ count - by = omega (arith, ge) in
          subst (λ (k : ℕ). AreLikeFront (drop by reads) by k) z
          (record { within = omega arith; same = refl })
    ]

-- where the items in front leave, those of them that are left are like what comes behind
pub like_behind : (reads : List Read) (by count left : ℕ) → left ≡ count - by →
    AreLikeFront reads by count → AreLikeFront (drop by reads) by left
like_behind reads by count left left_is is =
    subst (λ (k : ℕ). AreLikeFront (drop by reads) by k) (sym left_is)
    (left_alike reads by count is)

-- more items come
pub like_pushed : (reads xs : List Read) (by count : ℕ) → AreLikeFront reads by count →
    AreLikeFront (reads ++ xs) by count
like_pushed reads xs by zero is = record { within = omega arith; same = refl }
like_pushed reads xs by (suc n) is =
    let w = is.within in
    let l = length-append reads xs in
    let d = length-drop by reads in
    let a = marks_length (drop by reads) in
    let b = marks_length reads in
    record {
      within = omega (arith, w, l);
      same =
          ap (λ (rs : List Read). take (suc n) (marks rs))
          (drop-append-le by reads xs (omega (arith, w)))
          ∙ ap (λ ms. take (suc n) ms) (marks_append (drop by reads) xs)
          ∙ take-append-le (suc n) (marks (drop by reads)) (marks xs) (omega (arith, w, d, a))
          ∙ is.same
          ∙ sym (take-append-le (suc n) (marks reads) (marks xs) (omega (arith, w, b)))
          ∙ ap (λ ms. take (suc n) ms) (sym (marks_append reads xs));
    }
