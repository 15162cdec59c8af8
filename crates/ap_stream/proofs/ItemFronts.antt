-- The symbols at the front of some items, and where more items come.
use Rattle.std.specs.Prelude.{◌≡◌, ℕ, suc, zero, ◌<◌, ◌≤◌, List, [], ◌∷◌, ◌++◌, length, take, Option, Some, None, refl}
use Rattle.std.proofs.Common.{arith, ap, sym, subst, get_or}
use Rattle.ap_symbol.specs.declared.symbol.Symbol.{Symbol}
use Rattle.ap_stream.specs.declared.item.Item.{Item}
use Rattle.ap_stream.specs.declared.item.Read.{Read}
use Rattle.ap_stream.specs.Steps.{before, front}

before_short : (s : Option Symbol) (symbols : List Symbol) (n : ℕ) → length symbols ≤ n →
    length (before s symbols) ≤ suc n
before_short None symbols n h = omega arith
before_short (Some x) symbols n h = omega arith

-- no more symbols than items
pub front_short : (f : Item → Option Symbol) (reads : List Read) →
    length (front f reads) ≤ length reads
front_short f [] = omega arith
front_short f (read ∷ reads) =
    before_short (f read.item) (front f reads) (length reads) (front_short f reads)

before_ends : (s : Option Symbol) (a b : List Symbol) (n : ℕ) → (length a < n → b ≡ a) →
    length (before s a) < suc n → before s b ≡ before s a
before_ends None a b n h lt = refl
before_ends (Some x) a b n h lt = ap (λ symbols. x ∷ symbols) (h (omega arith))

-- the same where an item has no symbol
pub front_ends : (f : Item → Option Symbol) (reads xs : List Read) →
    length (front f reads) < length reads → front f (reads ++ xs) ≡ front f reads
front_ends f [] xs lt = absurd (omega arith)
front_ends f (read ∷ reads) xs lt =
    before_ends (f read.item) (front f reads) (front f (reads ++ xs)) (length reads)
    (front_ends f reads xs) lt

before_goes_on : (s : Option Symbol) (a b c : List Symbol) (n : ℕ) → length a ≤ n →
    (length a ≡ n → b ≡ a ++ c) → length (before s a) ≡ suc n → before s b ≡ before s a ++ c
before_goes_on None a b c n le h e = absurd (omega arith)
before_goes_on (Some x) a b c n le h e = ap (λ symbols. x ∷ symbols) (h (omega arith))

-- where each item has a symbol, those of the further ones follow
pub front_goes_on : (f : Item → Option Symbol) (reads xs : List Read) →
    length (front f reads) ≡ length reads → front f (reads ++ xs) ≡ front f reads ++ front f xs
front_goes_on f [] xs e = refl
front_goes_on f (read ∷ reads) xs e =
    before_goes_on (f read.item) (front f reads) (front f (reads ++ xs)) (front f xs) (length reads)
    (front_short f reads) (front_goes_on f reads xs) e

before_taken : (s : Option Symbol) (a b : List Symbol) (n : ℕ) → take n b ≡ take n a →
    take (suc n) (before s b) ≡ take (suc n) (before s a)
before_taken None a b n h = refl
before_taken (Some x) a b n h = ap (λ symbols. x ∷ symbols) h

-- the symbols of these items are the same where more come
pub front_more : (f : Item → Option Symbol) (reads xs : List Read) (n : ℕ) → n ≤ length reads →
    take n (front f (reads ++ xs)) ≡ take n (front f reads)
front_more f reads xs zero h = refl
front_more f [] xs (suc n) h = absurd (omega arith)
front_more f (read ∷ reads) xs (suc n) h =
    before_taken (f read.item) (front f reads) (front f (reads ++ xs)) n
    (front_more f reads xs n (omega arith))

stops_step : (s : Option Symbol) (symbols : List Symbol) (n : ℕ) → suc n ≤ length (before s symbols)
    → (n ≤ length symbols → length symbols ≡ n) → length (before s symbols) ≡ suc n
stops_step None symbols n h e = absurd (omega arith)
stops_step (Some x) symbols n h e = omega (arith, e (omega arith))

-- where the next item has no symbol, there are no more
pub front_stops : (f : Item → Option Symbol) (reads : List Read) (n : ℕ) (d : Read) →
    n ≤ length (front f reads) → n < length reads → f (get_or reads n d).item ≡ None →
    length (front f reads) ≡ n
front_stops f [] n d h lt none = absurd (omega arith)
front_stops f (r ∷ reads) zero d h lt none = ap (λ s. length (before s (front f reads))) none
front_stops f (r ∷ reads) (suc n) d h lt none =
    stops_step (f r.item) (front f reads) n h (λ le. front_stops f reads n d le (omega arith) none)

-- one symbol more
pub record IsNextSymbol (symbols : List Symbol) (n : ℕ) (x : Symbol) : Type 0 where
  pub within : n < length symbols
  pub is : take (suc n) symbols ≡ take n symbols ++ x ∷ []

next_step : (s : Option Symbol) (symbols : List Symbol) (n : ℕ) (x : Symbol) →
    suc n ≤ length (before s symbols) → (n ≤ length symbols → IsNextSymbol symbols n x) →
    IsNextSymbol (before s symbols) (suc n) x
next_step None symbols n x h e = absurd (omega arith)
next_step (Some y) symbols n x h e = let next = e (omega arith) in
    record { within = omega (arith, next.within); is = ap (λ tail. y ∷ tail) next.is }

-- where the next item has a symbol, it is the next one
pub front_next : (f : Item → Option Symbol) (reads : List Read) (n : ℕ) (d : Read) (x : Symbol) →
    n ≤ length (front f reads) → n < length reads → f (get_or reads n d).item ≡ Some x →
    IsNextSymbol (front f reads) n x
front_next f [] n d x h lt some = absurd (omega arith)
front_next f (r ∷ reads) zero d x h lt some =
    subst (λ (s : Option Symbol). IsNextSymbol (before s (front f reads)) 0 x) (sym some)
    (record { within = omega arith; is = refl })
front_next f (r ∷ reads) (suc n) d x h lt some =
    next_step (f r.item) (front f reads) n x h
    (λ le. front_next f reads n d x le (omega arith) some)
