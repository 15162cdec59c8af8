-- How far items agree with those behind some of them: where more items come, at one item more, and
-- where the first ones are let go.
use Rattle.std.specs.Prelude.{◌≡◌, ℕ, suc, zero, ◌+◌, ◌-◌, ◌<◌, ◌≤◌, List, [], ◌∷◌, ◌++◌, length, take, drop, Option, Some, None}
use Rattle.std.proofs.Common.{refl, ap, sym, ◌∙◌, arith, get_or, inl, inr}
use Rattle.std.proofs.lemmas.Bool.{cases_lt}
use Rattle.std.proofs.lemmas.List.{length-take, length-drop, drop-take, drop-append-le, take_all, drop_all}
use Rattle.ap_symbol.specs.declared.symbol.Symbol.{Symbol}
use Rattle.ap_stream.specs.Steps.{before, front}
use Rattle.ap_stream.specs.declared.item.Item.{Item}
use Rattle.ap_stream.specs.declared.item.Read.{Read}
use Rattle.ap_stream.proofs.ItemFronts.{front_short, front_more, IsNextSymbol, front_next}
use Rattle.ap_lookup.specs.PostGenerating.{symbol_of, symbols}
use Rattle.ap_lookup.specs.PostSearching.{IsAgreement}
use Rattle.ap_lookup.specs.declared.agreement.Agreement.{Agreement}

abbrev pub agreement_of : ℕ → ℕ → Agreement
agreement_of by count = record { by = by; count = count }

-- as many symbols as are taken
pub front_within : (a b : List Symbol) (n : ℕ) → n ≤ length a → take n b ≡ take n a → n ≤ length b
front_within a b n le e =
    let l = length-take n a in
    let k = length-take n b in
    let s : length (take n b) ≡ length (take n a) = ap length e in
    omega (arith, l, k, s, le)

-- no fewer symbols where more items come
pub symbols_grow : (reads xs : List Read) → length (symbols reads) ≤ length (symbols (reads ++ xs))
symbols_grow reads xs =
    front_within (symbols reads) (symbols (reads ++ xs)) (length (symbols reads)) (omega arith)
    (front_more symbol_of reads xs (length (symbols reads)) (front_short symbol_of reads))

pub nothing_agreed : (reads : List Read) (by : ℕ) →
    IsAgreement reads (agreement_of by 0)
nothing_agreed reads by = record { within = omega arith; same = refl }

-- it is within the items too
pub agreed_front : (reads : List Read) (by count : ℕ) → IsAgreement reads (agreement_of by count) →
    count ≤ length (symbols reads)
agreed_front reads by count is =
    front_within (symbols (drop by reads)) (symbols reads) count is.within (sym is.same)

module _ (reads xs : List Read) (by count : ℕ) (is : IsAgreement reads (agreement_of by count)) where
  more_within : by ≤ length reads → IsAgreement (reads ++ xs) (agreement_of by count)
  more_within le =
      let e : drop by (reads ++ xs) ≡ drop by reads ++ xs = drop-append-le by reads xs le in
      let s = front_short symbol_of (drop by reads) in
      let t = front_short symbol_of reads in
      let g = symbols_grow (drop by reads) xs in
      let f = agreed_front reads by count is in
      let q : length (symbols (drop by (reads ++ xs))) ≡ length (symbols (drop by reads ++ xs)) =
      ap (λ (z : List Read). length (symbols z)) e in
      record {
        within = omega (arith, q, g, is.within);
        same = ap (λ (z : List Read). take count (symbols z)) e
            ∙ front_more symbol_of (drop by reads) xs count (omega (arith, s, is.within))
            ∙ is.same ∙ sym (front_more symbol_of reads xs count (omega (arith, t, f)));
      }

  agreed_more : IsAgreement (reads ++ xs) (agreement_of by count)
  agreed_more = elim (cases_lt (length reads) by) [
    | inl past ↦
        let none : drop by reads ≡ [] = drop_all by reads (omega arith) in
        let l : length (symbols (drop by reads)) ≡ 0 =
        ap (λ (z : List Read). length (symbols z)) none in
        let zero_is : count ≡ 0 = (let w = is.within in omega (arith, l, w)) in
        rw zero_is (nothing_agreed (reads ++ xs) by)
    | inr le ↦ more_within le
  ]

-- the same agreement where more items come
pub agreement_more : (reads xs : List Read) (a : Agreement) → IsAgreement reads a →
    IsAgreement (reads ++ xs) a
agreement_more reads xs a is = agreed_more reads xs a.by a.count is

-- one item more agrees
agreement_next : (reads : List Read) (by n : ℕ) (d e : Read) (x : Symbol) →
    IsAgreement reads (agreement_of by n) →
    n < length (drop by reads) → symbol_of (get_or reads n d).item ≡ Some x →
    symbol_of (get_or (drop by reads) n e).item ≡ Some x →
    IsAgreement reads (agreement_of by (n + 1))
agreement_next reads by n d e x is lt here there =
    let l = length-drop by reads in
    let one : n + 1 ≡ suc n = omega arith in
    let behind : IsNextSymbol (symbols (drop by reads)) n x =
    front_next symbol_of (drop by reads) n e x is.within lt there in
    let ahead : IsNextSymbol (symbols reads) n x =
    front_next symbol_of reads n d x (agreed_front reads by n is) (omega (arith, l, lt)) here in
    rw one (record {
      within = (let w = behind.within in omega (arith, w));
      same = behind.is ∙ ap (λ (z : List Symbol). z ++ x ∷ []) is.same ∙ sym ahead.is;
    })

-- the same where those behind are a slice
pub agreement_step : (reads : List Read) (a : Agreement) (by : ℕ) (d e : Read) (x : Symbol) →
    IsAgreement reads a → a.by ≡ by →
    a.count < length (take (length reads - by) (drop by reads)) →
    symbol_of (get_or reads a.count d).item ≡ Some x →
    symbol_of (get_or (take (length reads - by) (drop by reads)) a.count e).item ≡ Some x →
    IsAgreement reads (agreement_of a.by (a.count + 1))
agreement_step reads a by d e x is same lt here there =
    let l = length-drop by reads in
    let all : take (length reads - by) (drop by reads) ≡ drop a.by reads =
    take_all (length reads - by) (drop by reads) (omega (arith, l))
    ∙ ap (λ (k : ℕ). drop k reads) (sym same) in
    agreement_next reads a.by a.count d e x is (rw all at lt) here (rw all at there)

before_dropped : (s : Option Symbol) (symbols rest : List Symbol) (n : ℕ) →
    suc n ≤ length (before s symbols) → (n ≤ length symbols → rest ≡ drop n symbols) →
    rest ≡ drop (suc n) (before s symbols)
before_dropped None symbols rest n h e = absurd (omega arith)
before_dropped (Some x) symbols rest n h e = e (omega arith)

-- the symbols of the items behind some that have one each
pub front_dropped : (f : Item → Option Symbol) (reads : List Read) (n : ℕ) →
    n ≤ length (front f reads) → front f (drop n reads) ≡ drop n (front f reads)
front_dropped f reads zero h = refl
front_dropped f [] (suc n) h = absurd (omega arith)
front_dropped f (read ∷ reads) (suc n) h =
    before_dropped (f read.item) (front f reads) (front f (drop n reads)) n h
    (front_dropped f reads n)

-- what is agreed behind the first of the symbols
drop_both : (a b : List Symbol) (by count : ℕ) → by ≤ count → take count a ≡ take count b →
    take (count - by) (drop by a) ≡ take (count - by) (drop by b)
drop_both a b by count le e =
    let k : by + (count - by) ≡ count = omega arith in
    sym (drop-take by (count - by) a) ∙ ap (λ (n : ℕ). drop by (take n a)) k ∙ ap (drop by) e
    ∙ ap (λ (n : ℕ). drop by (take n b)) (sym k) ∙ drop-take by (count - by) b

module _ (reads : List Read) (by count : ℕ) (is : IsAgreement reads (agreement_of by count))
    (le : by ≤ count) where
  behind_is : symbols (drop by reads) ≡ drop by (symbols reads)
  behind_is = (let f = agreed_front reads by count is in
      front_dropped symbol_of reads by (omega (arith, f, le)))

  twice_is : symbols (drop by (drop by reads)) ≡ drop by (symbols (drop by reads))
  twice_is = (let w = is.within in
      front_dropped symbol_of (drop by reads) by (omega (arith, w, le)))

  left_within : count - by ≤ length (symbols (drop by (drop by reads)))
  left_within =
      let l : length (symbols (drop by (drop by reads))) ≡ length (drop by (symbols (drop by reads)))
      = ap length twice_is in
      let d = length-drop by (symbols (drop by reads)) in
      let w = is.within in
      omega (arith, l, d, w)

  left_same : take (count - by) (symbols (drop by (drop by reads)))
      ≡ take (count - by) (symbols (drop by reads))
  left_same = ap (take (count - by)) twice_is
      ∙ drop_both (symbols (drop by reads)) (symbols reads) by count le is.same
      ∙ sym (ap (take (count - by)) behind_is)

-- what is left of it where the items before those behind are let go
pub agreement_left : (reads : List Read) (by count : ℕ) →
    IsAgreement reads (agreement_of by count) →
    IsAgreement (drop by reads) (agreement_of by (count - by))
agreement_left reads by count is = elim (cases_lt by count) [
  | inl lt ↦ record {
    within = left_within reads by count is (omega arith);
    same = left_same reads by count is (omega arith);
  }
  | inr ge ↦
      let none : count - by ≡ 0 = omega arith in
      rw none (nothing_agreed (drop by reads) by)
]
