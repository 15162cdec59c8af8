-- Units that are kept: each entry stays true.
use Rattle.std.specs.Prelude.{◌≡◌, ◌≤◌, ◌-◌, ◌+◌, ◌⊎◌, ℕ, suc, zero, ◌<◌, List, [], ◌∷◌, ◌++◌, length, take, drop}
use Rattle.std.specs.List.{AllByRecursion}
use Rattle.std.proofs.Common.{arith, sym, subst, slice_index_or, length-append, length-drop, inl, inr}
use Rattle.std.proofs.Math.Seq.{take-append_seam, drop-append_seam, drop-append-add, take-length}
use Rattle.std.proofs.lemmas.List.{take-append-le, drop-append-le}
use Rattle.ap_symbol.specs.declared.symbol.Symbol.{Symbol}
use Rattle.ap_stream.specs.Each.{IsGiven, IsKept, AreKept}
use Rattle.ap_stream.specs.declared.dialect.Dialect.{Dialect}
use Rattle.ap_stream.specs.declared.kept_units.Entry.{Entry}

all_at : {X : Type 0} (P : X → Type 0) (xs : List X) (i : ℕ) (d : X) → i < length xs →
    AllByRecursion P xs → P (slice_index_or xs i d)
all_at P [] i d lt all = absurd (omega arith)
all_at P (y ∷ xs) zero d lt all = all.0
all_at P (y ∷ xs) (suc i) d lt all = all_at P xs i d (omega arith) all.1

all_on : {X : Type 0} (P : X → Type 0) (xs : List X) (x : X) → AllByRecursion P xs → P x →
    AllByRecursion P (xs ++ x ∷ [])
all_on P [] x all is = (is, tt)
all_on P (y ∷ xs) x all is = (all.0, all_on P xs x all.1 is)

-- what stands within is still there where more is appended
slice_on : (bytes more : List ℕ) (from n : ℕ) → from + n ≤ length bytes →
    take n (drop from (bytes ++ more)) ≡ take n (drop from bytes)
slice_on bytes more from n h =
    let l = length-drop from bytes in
    rw (drop-append-le from bytes more (omega (arith, h)))
    (take-append-le n (drop from bytes) more (omega (arith, l, h)))

module _ (dialect : Dialect) (given : List (List Symbol) → List ℕ) where
  kept_on : (bytes more : List ℕ) (entry : Entry) → IsKept dialect given bytes entry →
      IsKept dialect given (bytes ++ more) entry
  kept_on bytes more entry k =
      let a = k.first in
      let b = k.second in
      let w = k.within in
      let l = length-append bytes more in
      record {
        first = a;
        second = b;
        within = omega (arith, w, l);
        is = rw (
          slice_on bytes more entry.from (entry.behind - entry.from) (omega (arith, a, b, w)),
          slice_on bytes more entry.behind (entry.to - entry.behind) (omega (arith, b, w)),
        ) k.is;
      }

  -- the entries stay true where more is appended
  pub all_kept_on : (bytes more : List ℕ) (entries : List Entry) →
      AreKept dialect given bytes entries → AreKept dialect given (bytes ++ more) entries
  all_kept_on bytes more [] all = tt
  all_kept_on bytes more (e ∷ entries) all =
      (kept_on bytes more e all.0, all_kept_on bytes more entries all.1)

  -- one entry more, if it was added
  pub kept_added : (bytes : List ℕ) (old new : List Entry) (entry : Entry) →
      (new ≡ old) ⊎ (new ≡ old ++ entry ∷ []) → AreKept dialect given bytes old →
      IsKept dialect given bytes entry → AreKept dialect given bytes new
  kept_added bytes old new entry (inl e) all is =
      subst (λ (z : List Entry). AreKept dialect given bytes z) (sym e) all
  kept_added bytes old new entry (inr e) all is =
      subst (λ (z : List Entry). AreKept dialect given bytes z) (sym e)
      (all_on (IsKept dialect given bytes) old entry all is)

  -- the entry of these bytes is found
  pub given_there : (bytes : List ℕ) (entries : List Entry) (at : ℕ) (none entry : Entry)
      (key text : List ℕ) → at < length entries → entry ≡ slice_index_or entries at none →
      take (entry.behind - entry.from) (drop entry.from bytes) ≡ key →
      text ≡ take (entry.to - entry.behind) (drop entry.behind bytes) →
      AreKept dialect given bytes entries → IsGiven dialect given key text
  given_there bytes entries at none entry key text lt is k t all =
      let kept : IsKept dialect given bytes entry =
      rw is (all_at (IsKept dialect given bytes) entries at none lt all) in
      rw (t, ← k) kept.is

  -- a new entry
  pub kept_new : (entry : Entry) (old key text : List ℕ) → entry.from ≡ length old →
      entry.behind ≡ length old + length key →
      entry.to ≡ length old + length key + length text → IsGiven dialect given key text →
      IsKept dialect given (old ++ (key ++ text)) entry
  kept_new entry old key text f b t is =
      let n : entry.behind - entry.from ≡ length key = omega (arith, f, b) in
      let m : entry.to - entry.behind ≡ length text = omega (arith, b, t) in
      let l = length-append old (key ++ text) in
      let k = length-append key text in
      let first : take (entry.behind - entry.from) (drop entry.from (old ++ (key ++ text))) ≡ key =
      rw (n, f, drop-append_seam old (key ++ text)) (take-append_seam key text) in
      let second : take (entry.to - entry.behind) (drop entry.behind (old ++ (key ++ text)))
      ≡ text =
      rw (m, b, drop-append-add old (key ++ text) (length key), drop-append_seam key text)
      (take-length text) in
      record {
        first = omega (arith, f, b);
        second = omega (arith, b, t);
        within = omega (arith, t, l, k);
        is = rw (first, second) is;
      }
