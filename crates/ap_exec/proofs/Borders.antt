-- What stands on the other side of a border stays.
use Rattle.std.proofs.Common.{◌≡◌, ℕ, zero, suc, ◌+◌, ◌-◌, ◌<◌, ◌≤◌, nat_le, true, false, List, [], ◌∷◌, ◌++◌, length, take, drop, refl, ap, sym, append_assoc, ◌∙◌, arith, rules}
use Rattle.ap_symbol.specs.declared.symbol.Symbol.{Symbol}
use Rattle.ap_exec.specs.Parts.{Span}
use Rattle.ap_exec.specs.WordLaws.{OtherSideStays}
use Rattle.ap_exec.specs.Writing.{moved, spliced}
use Rattle.ap_exec.proofs.Splices.{further}

pub le_true : (m n : ℕ) → m ≤ n → nat_le m n ≡ true
le_true m n h = search rules

le_false : (m n : ℕ) → n < m → nat_le m n ≡ false
le_false m n h = search rules

front : (b start : ℕ) (word more : List Symbol) → b ≤ start → start ≤ length word →
    take b (take start word ++ more) ≡ take b word
front zero start word more h within = refl
front (suc b) zero word more h within = absurd (omega arith)
front (suc b) (suc start) [] more h within = absurd (omega arith)
front (suc b) (suc start) (s ∷ word) more h within =
    ap (λ (x : List Symbol). s ∷ x) (front b start word more (omega arith) (omega arith))

past : (p x : List Symbol) (k : ℕ) → drop (length p + k) (p ++ x) ≡ drop k x
past [] x k = ap (λ (n : ℕ). drop n x) (omega arith)
past (s ∷ p) x k = ap (λ (n : ℕ). drop n (s ∷ (p ++ x))) (let n : length (s ∷ p) + k
    ≡ suc (length p + k) = omega arith in n) ∙ past p x k

drops_none : (n : ℕ) → drop n (let x : List Symbol = [] in x) ≡ []
drops_none zero = refl
drops_none (suc n) = refl

twice : (m k : ℕ) (word : List Symbol) → drop k (drop m word) ≡ drop (m + k) word
twice zero k word = ap (λ (n : ℕ). drop n word) (omega arith)
twice (suc m) k [] = drops_none k ∙ sym (drops_none (suc m + k))
twice (suc m) k (s ∷ word) =
    twice m k word ∙ ap (λ (n : ℕ). drop n (s ∷ word)) (let n : suc (m + k) ≡ suc m + k =
    omega arith in n)

in_three : (span : Span) (value word : List Symbol) → spliced span value word ≡ take span.start word
    ++ (value ++ drop (span.start + span.count) word)
in_three span value word =
    append_assoc (take span.start word) value (drop (span.start + span.count) word)

queue_stays : (span : Span) (value word : List Symbol) (border : ℕ) →
    span.start + span.count ≤ length word → span.start + span.count ≤ border
    → drop (moved span (length value) border) (spliced span value word) ≡ drop border word
queue_stays span value word border within h =
    let m = span.start + span.count in
    let k = border - m in
    let rest = drop m word in
    rw (le_true m border h)
    (ap (drop (border - span.count + length value)) (in_three span value word)
    ∙ ap (λ (n : ℕ). drop n (take span.start word ++ (value ++ rest)))
    (let n : border - span.count + length value ≡ span.start + (length value + k) =
    omega arith in n)
    ∙ further span.start (length value + k) word (value ++ rest) (omega arith)
    ∙ past value rest k ∙ twice m k word
    ∙ ap (λ (n : ℕ). drop n word) (let n : m + k ≡ border = omega arith in n))

head_stays : (span : Span) (value word : List Symbol) (border : ℕ) →
    span.start + span.count ≤ length word → border ≤ span.start → border < span.start + span.count
    → take (moved span (length value) border) (spliced span value word) ≡ take border word
head_stays span value word border within h past_it =
    rw (le_false (span.start + span.count) border past_it, le_true border span.start h)
    (ap (take border) (in_three span value word)
    ∙ front border span.start word (value ++ drop (span.start + span.count) word) h
    (omega arith))

pub other_side_stays : OtherSideStays
other_side_stays span value word border within bordered =
    (queue_stays span value word border within, head_stays span value word border within)
