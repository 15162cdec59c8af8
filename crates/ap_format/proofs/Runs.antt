-- White space at the front of a text.
use Rattle.std.specs.Prelude.{◌≡◌, ℕ, zero, suc, ◌+◌, ◌<◌, ◌≤◌, List, [], ◌∷◌, ◌++◌, take, drop, length, Bool, true, false, cond, refl}
use Rattle.std.proofs.Common.{arith, ap, ◌∙◌, get_or, drop-cons}
use Rattle.std.proofs.lemmas.List.{drop_all}
use Rattle.std.proofs.lemmas.Bool.Decides.{nat_tests}
use Rattle.ap_stream.specs.Blanks.{is_white}
use Rattle.ap_format.specs.Pieces.{white_size}
use Rattle.ap_format.specs.Standing.{IsWhite}

pub white_dark : (b : ℕ) (bs : List ℕ) → is_white b ≡ false → white_size (b ∷ bs) ≡ 0
unfolding white_size
white_dark b bs h = rw h refl

pub white_step : (b : ℕ) (bs : List ℕ) → is_white b ≡ true →
    white_size (b ∷ bs) ≡ suc (white_size bs)
unfolding white_size
white_step b bs h = rw h refl

pub white_nil : white_size [] ≡ 0
unfolding white_size
white_nil = refl

pub nil_white : IsWhite []
unfolding white_size
nil_white = refl

pub white_within : (bs : List ℕ) → white_size bs ≤ length bs
unfolding white_size
white_within [] = omega arith
white_within (b ∷ bs) = by (is_white b) (white_within bs)
  where
    by : (v : Bool) → white_size bs ≤ length bs → cond v (suc (white_size bs)) 0 ≤ length (b ∷ bs)
    by true fewer = omega (arith, fewer)
    by false fewer = omega arith

-- where the first byte is white space, and where it isn't
pub first_dark : (b : ℕ) (bs : List ℕ) → white_size (b ∷ bs) ≡ 0 → is_white b ≡ false
unfolding white_size
first_dark b bs h = by (is_white b) refl h
  where
    by : (v : Bool) → is_white b ≡ v → cond v (suc (white_size bs)) 0 ≡ 0 → is_white b ≡ false
    by true e h = absurd (omega (arith, h))
    by false e h = e

pub white_parts : (b : ℕ) (bs : List ℕ) → IsWhite (b ∷ bs) → (is_white b ≡ true) × IsWhite bs
unfolding white_size
white_parts b bs h = by (is_white b) refl h
  where
    by : (v : Bool) → is_white b ≡ v → cond v (suc (white_size bs)) 0 ≡ length (b ∷ bs) →
        (is_white b ≡ true) × IsWhite bs
    by true e h = (e, omega (arith, h))
    by false e h = absurd (omega (arith, h))

-- white space behind white space
pub white_more : (p x : List ℕ) → IsWhite p → white_size (p ++ x) ≡ length p + white_size x
white_more [] x h = omega arith
white_more (b ∷ p) x h = let parts = white_parts b p h in let more = white_more p x parts.1 in
    white_step b (p ++ x) parts.0 ∙ omega (arith, more)

pub white_append : (p q : List ℕ) → IsWhite p → IsWhite q → IsWhite (p ++ q)
white_append [] q h k = k
white_append (b ∷ p) q h k = let parts = white_parts b p h in
    white_step b (p ++ q) parts.0 ∙ ap suc (white_append p q parts.1 k)

pub white_take : (bs : List ℕ) (n : ℕ) → n ≤ white_size bs → IsWhite (take n bs)
unfolding white_size
white_take bs zero h = refl
white_take [] (suc n) h = absurd (omega (arith, h))
white_take (b ∷ bs) (suc n) h = by (is_white b) refl (white_take bs n) h
  where
    by : (v : Bool) → is_white b ≡ v → (n ≤ white_size bs → IsWhite (take n bs)) →
        suc n ≤ cond v (suc (white_size bs)) 0 → IsWhite (take (suc n) (b ∷ bs))
    by true e fewer h = white_step b (take n bs) e ∙ ap suc (fewer (omega (arith, h)))
    by false e fewer h = absurd (omega (arith, h))

-- no white space at the front, whatever follows
pub dark_front : (p x : List ℕ) → 0 < length p → white_size p ≡ 0 → white_size (p ++ x) ≡ 0
dark_front [] x some h = absurd (omega (arith, some))
dark_front (b ∷ p) x some h = white_dark b (p ++ x) (first_dark b p h)

-- white space is ASCII
pub white_low : (b : ℕ) → is_white b ≡ true → b < 128
white_low b h = grind (arith, nat_tests, h)

-- counting white space byte by byte
module _ (bytes : List ℕ) (at : ℕ) (on : white_size bytes ≡ at + white_size (drop at bytes)) where
  front : at < length bytes → drop at bytes ≡ get_or bytes at 0 ∷ drop (suc at) bytes
  front inside = drop-cons bytes at 0 inside

  pub stopped_at : at < length bytes → is_white (get_or bytes at 0) ≡ false → at ≡ white_size bytes
  stopped_at inside h =
      let here : white_size (drop at bytes) ≡ 0 =
      ap white_size (front inside) ∙ white_dark (get_or bytes at 0) (drop (suc at) bytes) h in
      omega (arith, on, here)

  pub goes_on : at < length bytes → is_white (get_or bytes at 0) ≡ true →
      white_size bytes ≡ (at + 1) + white_size (drop (at + 1) bytes)
  goes_on inside h =
      let one : suc at ≡ at + 1 = omega arith in
      let here : white_size (drop at bytes) ≡ suc (white_size (drop (suc at) bytes)) =
      ap white_size (front inside) ∙ white_step (get_or bytes at 0) (drop (suc at) bytes) h in
      let there : white_size (drop (suc at) bytes) ≡ white_size (drop (at + 1) bytes) =
      ap (λ n. white_size (drop n bytes)) one in
      omega (arith, on, here, there)

  pub stopped_past : length bytes ≤ at → at ≡ white_size bytes
  stopped_past past = let here : white_size (drop at bytes) ≡ 0 =
      ap white_size (drop_all at bytes past) ∙ white_nil in omega (arith, on, here)

-- the first byte
pub some_white : (bytes : List ℕ) → 0 < length bytes → is_white (get_or bytes 0 0) ≡ true →
    0 < white_size bytes
some_white [] some h = absurd (omega (arith, some))
some_white (b ∷ bs) some h = let one = white_step b bs h in omega (arith, one)

pub none_white : (bytes : List ℕ) → 0 < length bytes → is_white (get_or bytes 0 0) ≡ false →
    (n : ℕ) → white_size (take n bytes) ≡ 0
none_white [] some h n = absurd (omega (arith, some))
none_white (b ∷ bs) some h zero = white_nil
none_white (b ∷ bs) some h (suc n) = white_dark b (take n bs) h
