-- The first symbol that passes a test.
use Rattle.std.proofs.Common.{◌≡◌, ℕ, zero, suc, ◌<◌, ◌≤◌, Bool, true, false, cond, ◌||◌, List, [], ◌∷◌, length, get_or, take, drop, sym, ap, refl, arith}
use Rattle.std.specs.List.{list_any}
use Rattle.std.proofs.lemmas.Bool.{or_parts, or_from, false≢true}
use Rattle.ap_symbol.specs.declared.symbol.Symbol.{Symbol}
use Rattle.ap_passes.specs.Marks.{until, stops_at}

until_le_at : (b : Bool) (n m : ℕ) → n ≤ m → cond b 0 (suc n) ≤ suc m
until_le_at true n m h = omega arith
until_le_at false n m h = omega (arith, h)

pub until_le : (test : Symbol → Bool) (word : List Symbol) → until test word ≤ length word
until_le test [] = omega arith
until_le test (x ∷ word) = until_le_at (test x) (until test word) (length word) (until_le test word)

-- a place within the word holds a symbol that passes
found_at : (b : Bool) (test : Symbol → Bool) (x d : Symbol) (word : List Symbol) → test x ≡ b →
    cond b 0 (suc (until test word)) < suc (length word) →
    (until test word < length word → test (get_or word (until test word) d) ≡ true) →
    test (get_or (x ∷ word) (cond b 0 (suc (until test word))) d) ≡ true
found_at true test x d word e h on = e
found_at false test x d word e h on = on (omega (arith, h))

pub found : (test : Symbol → Bool) (word : List Symbol) (d : Symbol) → until test word < length word
    → test (get_or word (until test word) d) ≡ true
found test [] d h = absurd (omega (arith, h))
found test (x ∷ word) d h = found_at (test x) test x d word refl h (found test word d)

-- none passes before it
none_before_at : (b : Bool) (test : Symbol → Bool) (x : Symbol) (word : List Symbol) → test x ≡ b →
    list_any test (take (until test word) word) ≡ false →
    list_any test (take (cond b 0 (suc (until test word))) (x ∷ word)) ≡ false
none_before_at true test x word e on = refl
none_before_at false test x word e on =
    or_from (test x) (list_any test (take (until test word) word)) e on

pub none_before : (test : Symbol → Bool) (word : List Symbol) →
    list_any test (take (until test word) word) ≡ false
none_before test [] = refl
none_before test (x ∷ word) = none_before_at (test x) test x word refl (none_before test word)

-- where none passes at all, the place is the word's length
none_until_at : (b : Bool) (n m : ℕ) → b ≡ false → n ≡ m → cond b 0 (suc n) ≡ suc m
none_until_at true n m e h = absurd (false≢true (sym e))
none_until_at false n m e h = ap suc h

pub none_until : (test : Symbol → Bool) (word : List Symbol) → list_any test word ≡ false →
    until test word ≡ length word
none_until test [] h = refl
none_until test (x ∷ word) h = let p = or_parts (test x) (list_any test word) h in
    none_until_at (test x) (until test word) (length word) p.0 (none_until test word p.1)

until_none_at : (b : Bool) (test : Symbol → Bool) (x : Symbol) (word : List Symbol) → test x ≡ b →
    cond b 0 (suc (until test word)) ≡ suc (length word) →
    (until test word ≡ length word → list_any test word ≡ false) →
    (test x || list_any test word) ≡ false
until_none_at true test x word e h on = absurd (omega (arith, h))
until_none_at false test x word e h on =
    or_from (test x) (list_any test word) e (on (omega (arith, h)))

pub until_none : (test : Symbol → Bool) (word : List Symbol) → until test word ≡ length word →
    list_any test word ≡ false
until_none test [] h = refl
until_none test (x ∷ word) h = until_none_at (test x) test x word refl h (until_none test word)

-- nor in a part of the word
pub none_drop : (test : Symbol → Bool) (n : ℕ) (word : List Symbol) → list_any test word ≡ false →
    list_any test (drop n word) ≡ false
none_drop test zero word h = h
none_drop test (suc n) [] h = refl
none_drop test (suc n) (x ∷ word) h =
    none_drop test n word (or_parts (test x) (list_any test word) h).1

pub none_take : (test : Symbol → Bool) (n : ℕ) (word : List Symbol) → list_any test word ≡ false →
    list_any test (take n word) ≡ false
none_take test zero word h = refl
none_take test (suc n) [] h = refl
none_take test (suc n) (x ∷ word) h = let p = or_parts (test x) (list_any test word) h in
    or_from (test x) (list_any test (take n word)) p.0 (none_take test n word p.1)

-- a test that passes less
pub none_less : (test less : Symbol → Bool) → ((x : Symbol) → test x ≡ false → less x ≡ false) →
    (word : List Symbol) → list_any test word ≡ false → list_any less word ≡ false
none_less test less fewer [] h = refl
none_less test less fewer (x ∷ word) h = let p = or_parts (test x) (list_any test word) h in
    or_from (less x) (list_any less word) (fewer x p.0) (none_less test less fewer word p.1)

-- what stands from that place on
stops_until_at : (b : Bool) (test : Symbol → Bool) (x : Symbol) (word : List Symbol) → test x ≡ b →
    stops_at test (drop (until test word) word) ≡ true →
    stops_at test (drop (cond b 0 (suc (until test word))) (x ∷ word)) ≡ true
stops_until_at true test x word e on = e
stops_until_at false test x word e on = on

pub stops_until : (test : Symbol → Bool) (word : List Symbol) →
    stops_at test (drop (until test word) word) ≡ true
stops_until test [] = refl
stops_until test (x ∷ word) = stops_until_at (test x) test x word refl (stops_until test word)
