-- What is written to a part is read again.
use Rattle.std.proofs.Common.{◌≡◌, ℕ, zero, suc, ◌+◌, ◌≤◌, List, [], ◌∷◌, ◌++◌, length, take, drop, refl, ap, append_assoc, ◌∙◌, arith}
use Rattle.std.proofs.Math.Seq.{drop-append_seam, take-append_seam}
use Rattle.ap_symbol.specs.declared.symbol.Symbol.{Symbol}
use Rattle.ap_exec.specs.WordLaws.{WrittenIsRead}
use Rattle.ap_exec.specs.Writing.{spliced}

before : (start : ℕ) (word more : List Symbol) → start ≤ length word →
    take start (take start word ++ more) ≡ take start word
before zero word more h = refl
before (suc start) [] more h = absurd (omega arith)
before (suc start) (s ∷ word) more h =
    ap (λ (x : List Symbol). s ∷ x) (before start word more (omega arith))

behind : (start : ℕ) (word more : List Symbol) → start ≤ length word →
    drop start (take start word ++ more) ≡ more
behind zero word more h = refl
behind (suc start) [] more h = absurd (omega arith)
behind (suc start) (s ∷ word) more h = behind start word more (omega arith)

pub further : (start n : ℕ) (word more : List Symbol) → start ≤ length word →
    drop (start + n) (take start word ++ more) ≡ drop n more
further zero n word more h = ap (λ (k : ℕ). drop k more) (omega arith)
further (suc start) n [] more h = absurd (omega arith)
further (suc start) n (s ∷ word) more h =
    ap (λ (k : ℕ). drop k (take (suc start) (s ∷ word) ++ more))
    (let k : suc start + n ≡ suc (start + n) = omega arith in k)
    ∙ further start n word more (omega arith)

pub written_is_read : WrittenIsRead
written_is_read span value word h =
    let rest = drop (span.start + span.count) word in
    let in_three : spliced span value word ≡ take span.start word ++ (value ++ rest) =
    append_assoc (take span.start word) value rest in (
      ap (λ (w : List Symbol). take (length value) (drop span.start w)) in_three
          ∙ ap (take (length value)) (behind span.start word (value ++ rest) (omega arith))
          ∙ take-append_seam value rest,
      ap (take span.start) in_three ∙ before span.start word (value ++ rest) (omega arith),
      ap (drop (span.start + length value)) in_three
          ∙ further span.start (length value) word (value ++ rest) (omega arith)
          ∙ drop-append_seam value rest,
    )
