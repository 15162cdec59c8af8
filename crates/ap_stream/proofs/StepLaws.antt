-- Steps from left to right: the first step and then the rest; what a turn over held items does,
-- whatever items follow; and the bytes of held items.
use Rattle.std.specs.Prelude.{◌≡◌, ◌⊎◌, ℕ, suc, zero, pred, ◌+◌, ◌-◌, ◌<◌, ◌≤◌, Bool, true, List, [], ◌∷◌, ◌++◌, length, take, drop, refl}
use Rattle.std.specs.List.{AllByRecursion}
use Rattle.std.proofs.Common.{arith, ap, sym, ◌∙◌, inl, inr, get_or}
use Rattle.std.proofs.lemmas.List.{append-nil, drop-append-le, length-drop, drop-drop, take_more, take-append-drop}
use Rattle.ap_stream.specs.Limits.{span_max}
use Rattle.ap_stream.specs.Reading.{IsRead}
use Rattle.ap_stream.specs.Steps.{Step, Gives, Stops, goes_on, steps, bytes_of}
use Rattle.ap_stream.specs.Told.{silent, behind, ends_in}
use Rattle.ap_stream.specs.declared.dialect.Dialect.{Dialect}
use Rattle.ap_stream.specs.declared.fault.LimitKind.{LimitKind}
use Rattle.ap_stream.specs.declared.fault.LimitKind.TheVariants.{SpanTooLong}
use Rattle.ap_stream.specs.declared.fault.StreamFault.TheVariants.{Limit}
use Rattle.ap_stream.specs.declared.item.Read.{Read}

pub steps_none : (first : List Read → Step) → steps first 0 [] ≡ silent
unfolding steps
steps_none first = refl

steps_skip : (first : List Read → Step) (skip : ℕ) (reads : List Read) →
    steps first skip reads ≡ steps first 0 (drop skip reads)
unfolding steps
steps_skip first zero [] = refl
steps_skip first (suc skip) [] = refl
steps_skip first zero (read ∷ reads) = refl
steps_skip first (suc skip) (read ∷ reads) = steps_skip first skip reads

steps_first : (first : List Read → Step) (read : Read) (reads : List Read) →
    steps first 0 (read ∷ reads)
    ≡ goes_on read.place (first (read ∷ reads)) (λ n. steps first n reads)
unfolding steps
steps_first first read reads = refl

pub drop_after : (read : Read) (reads : List Read) (n : ℕ) → 0 < n →
    drop (pred n) reads ≡ drop n (read ∷ reads)
drop_after read reads zero h = absurd (omega arith)
drop_after read reads (suc n) h = refl

-- what the first step gives, and then the steps over the rest
pub steps_gives : (first : List Read → Step) (read : Read) (reads : List Read) (n : ℕ)
    (text : List ℕ) → first (read ∷ reads) ≡ Gives n text → 0 < n → steps first 0 (read ∷ reads)
    ≡ behind text (steps first 0 (drop n (read ∷ reads)))
steps_gives first read reads n text e h =
    steps_first first read reads ∙ ap (λ step. goes_on read.place step (λ k. steps first k reads)) e
    ∙ ap (behind text) (steps_skip first (pred n) reads
    ∙ ap (steps first 0) (drop_after read reads n h))

pub steps_stops : (first : List Read → Step) (read : Read) (reads : List Read) (kind : LimitKind) →
    first (read ∷ reads) ≡ Stops kind → steps first 0 (read ∷ reads)
    ≡ ends_in [] (Limit kind read.place)
steps_stops first read reads kind e = steps_first first read reads
    ∙ ap (λ step. goes_on read.place step (λ k. steps first k reads)) e

-- Where the span ended among some items, their first step is the same however they go on; and where
-- the span is all of them and they have too many bytes, it stops however they go on.
pub record Settles (first : List Read → Step) (span : List Read → ℕ) : Type 0 where
  pub ended : (reads xs : List Read) → span reads < length reads → first (reads ++ xs) ≡ first reads
  pub overlong : (reads xs : List Read) → 0 < length reads → span reads ≡ length reads →
      span_max < bytes_of reads → first (reads ++ xs) ≡ Stops SpanTooLong

module _ (first : List Read → Step) (span : List Read → ℕ) (settles : Settles first span) where
  -- the first step of the held items is that of all items, where the span ended among them or none
  -- follow
  first_whole : (items xs : List Read) (finished : Bool) → (span items < length items)
      ⊎ (finished ≡ true) → (finished ≡ true → xs ≡ []) → first (items ++ xs) ≡ first items
  first_whole items xs finished (inl ended) none = settles.ended items xs ended
  first_whole items xs finished (inr last) none = ap (λ ys. first (items ++ ys)) (none last)
      ∙ ap first (append-nil items)

  -- what it writes comes first, and then the work on the items behind
  pub turn_wrote : (items xs : List Read) (n : ℕ) (text : List ℕ) (finished : Bool) →
      0 < length items → 0 < n → n ≤ length items → first items ≡ Gives n text
      → (span items < length items) ⊎ (finished ≡ true) → (finished ≡ true → xs ≡ []) →
      behind text (steps first 0 (drop n items ++ xs)) ≡ steps first 0 (items ++ xs)
  turn_wrote [] xs n text finished held some le e ended none = absurd (omega arith)
  turn_wrote (read ∷ reads) xs n text finished held some le e ended none =
      ap (λ rest. behind text (steps first 0 rest)) (sym (drop-append-le n (read ∷ reads) xs le))
      ∙ sym (steps_gives first read (reads ++ xs) n text
      (first_whole (read ∷ reads) xs finished ended none ∙ e) some)

  -- a limit, at the place of the first item
  pub turn_limit : (items xs : List Read) (kind : LimitKind) (here d : Read) (finished : Bool) →
      0 < length items → here ≡ get_or items 0 d → first items ≡ Stops kind
      → (span items < length items) ⊎ (finished ≡ true) → (finished ≡ true → xs ≡ []) →
      steps first 0 (items ++ xs) ≡ ends_in [] (Limit kind here.place)
  turn_limit [] xs kind here d finished held is e ended none = absurd (omega arith)
  turn_limit (read ∷ reads) xs kind here d finished held is e ended none =
      steps_stops first read (reads ++ xs) kind
      (first_whole (read ∷ reads) xs finished ended none ∙ e)
      ∙ ap (λ (r : Read). ends_in [] (Limit kind r.place)) (sym is)

  -- the span is over its limit, however the items go on
  pub turn_overlong : (items xs : List Read) (here d : Read) → 0 < length items →
      here ≡ get_or items 0 d → span items ≡ length items → span_max < bytes_of items →
      steps first 0 (items ++ xs) ≡ ends_in [] (Limit SpanTooLong here.place)
  turn_overlong [] xs here d held is all long = absurd (omega arith)
  turn_overlong (read ∷ reads) xs here d held is all long =
      steps_stops first read (reads ++ xs) SpanTooLong
      (settles.overlong (read ∷ reads) xs held all long)
      ∙ ap (λ (r : Read). ends_in [] (Limit SpanTooLong r.place)) (sym is)

-- The items that are left.

pub fewer_left : (items : List Read) (n : ℕ) → 0 < n → n ≤ length items →
    length (drop n items) < length items
fewer_left items n some le = let l = length-drop n items in omega (arith, l)

bytes_left : (items : List Read) (n : ℕ) → bytes_of (drop n items) ≤ bytes_of items
bytes_left items zero = omega arith
bytes_left [] (suc n) = omega arith
bytes_left (read ∷ reads) (suc n) = omega (arith, bytes_left reads n)

-- they have fewer bytes, since each item has some
pub fewer_bytes : (dialect : Dialect) (items : List Read) (n : ℕ) →
    AllByRecursion (IsRead dialect) items → 0 < n → n ≤ length items →
    bytes_of (drop n items) < bytes_of items
fewer_bytes dialect items zero all some le = absurd (omega arith)
fewer_bytes dialect [] (suc n) all some le = absurd (omega arith)
fewer_bytes dialect (read ∷ reads) (suc n) all some le =
    omega (arith, bytes_left reads n, all.0.some)

pub all_left : (P : Read → Type 0) (items : List Read) (n : ℕ) → AllByRecursion P items →
    AllByRecursion P (drop n items)
all_left P items zero all = all
all_left P [] (suc n) all = all
all_left P (read ∷ reads) (suc n) all = all_left P reads n all.1

pub all_pushed : (P : Read → Type 0) (items : List Read) (x : Read) → AllByRecursion P items → P x →
    AllByRecursion P (items ++ x ∷ [])
all_pushed P [] x all is = (is, all)
all_pushed P (y ∷ items) x all is = (all.0, all_pushed P items x all.1 is)

-- The bytes of items.

pub bytes_append : (xs ys : List Read) → bytes_of (xs ++ ys) ≡ bytes_of xs + bytes_of ys
bytes_append [] ys = omega arith
bytes_append (x ∷ xs) ys = let h = bytes_append xs ys in omega (arith, h)

bytes_split : (n : ℕ) (xs : List Read) → bytes_of (take n xs) + bytes_of (drop n xs) ≡ bytes_of xs
bytes_split n xs = sym (bytes_append (take n xs) (drop n xs)) ∙ ap bytes_of (take-append-drop n xs)

pub bytes_next : (xs : List Read) (i : ℕ) (x : Read) → i < length xs → x ≡ get_or xs i x →
    bytes_of (take (i + 1) xs) ≡ bytes_of (take i xs) + x.size
bytes_next xs i x lt is =
    let t = ap bytes_of (take_more xs i x lt) in
    let a = bytes_append (take i xs) (get_or xs i x ∷ []) in
    let s : x.size ≡ (get_or xs i x).size = ap (λ (r : Read). r.size) is in
    omega (arith, t, a, s)

pub bytes_fits : (xs : List Read) (i : ℕ) (x : Read) → i < length xs → x ≡ get_or xs i x →
    bytes_of (take i xs) + x.size ≤ bytes_of xs
bytes_fits xs i x lt is = let n = bytes_next xs i x lt is in let s = bytes_split (i + 1) xs in
    omega (arith, n, s)

pub bytes_front : (xs : List Read) (i : ℕ) → bytes_of (take i xs) ≤ bytes_of xs
bytes_front xs i = let s = bytes_split i xs in omega (arith, s)

pub bytes_less : (xs : List Read) (m n : ℕ) → m ≤ n → bytes_of (take m xs) ≤ bytes_of (take n xs)
bytes_less xs zero n h = omega arith
bytes_less [] (suc m) n h = omega arith
bytes_less (x ∷ xs) (suc m) zero h = absurd (omega arith)
bytes_less (x ∷ xs) (suc m) (suc n) h = omega (arith, bytes_less xs m n (omega arith))

-- the bytes of items that are among those taken
pub bytes_taken : (reads xs : List Read) (s : ℕ) → length reads ≤ s →
    bytes_of reads ≤ bytes_of (take s (reads ++ xs))
bytes_taken [] xs s h = omega arith
bytes_taken (read ∷ reads) xs zero h = absurd (omega arith)
bytes_taken (read ∷ reads) xs (suc s) h = omega (arith, bytes_taken reads xs s (omega arith))

pub bytes_none : (items : List Read) → length items ≡ 0 → bytes_of items ≡ 0
bytes_none [] e = refl
bytes_none (read ∷ reads) e = absurd (omega arith)

pub bytes_pushed : (items : List Read) (from bytes : ℕ) (x : Read) → from ≤ length items →
    bytes ≡ bytes_of (drop from items) → bytes + x.size ≡ bytes_of (drop from (items ++ x ∷ []))
bytes_pushed items from bytes x le e =
    let d : bytes_of (drop from (items ++ x ∷ [])) ≡ bytes_of (drop from items ++ x ∷ []) =
    ap bytes_of (drop-append-le from items (x ∷ []) le) in
    let a = bytes_append (drop from items) (x ∷ []) in
    omega (arith, d, a, e)

-- the items behind so many
pub bytes_kept : (items slice : List Read) (from count bytes size : ℕ) → slice ≡ drop from items →
    bytes ≡ bytes_of (drop from items) → size ≡ bytes_of (take count slice)
    → (size ≤ bytes) × (bytes - size ≡ bytes_of (drop (from + count) items))
bytes_kept items slice from count bytes size is b s =
    let t : size ≡ bytes_of (take count (drop from items)) =
    s ∙ ap (λ (z : List Read). bytes_of (take count z)) is in
    let both = bytes_split count (drop from items) in
    let rest : bytes_of (drop count (drop from items)) ≡ bytes_of (drop (from + count) items) =
    ap bytes_of (drop-drop count from items) in
    (omega (arith, t, both, b), omega (arith, t, both, b, rest))

-- a handler that holds nothing, or whose last turn wanted an item, is within the limit
pub wanted_short : (items : List Read) → (length items ≡ 0) ⊎ (bytes_of items ≤ span_max) →
    bytes_of items ≤ span_max
wanted_short [] h = omega arith
wanted_short (read ∷ items) (inl e) = absurd (omega (arith, e))
wanted_short (read ∷ items) (inr h) = h
