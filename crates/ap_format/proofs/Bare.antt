-- Bytes that are written as they are.
use Rattle.std.specs.Prelude.{◌≡◌, ℕ, zero, suc, ◌+◌, ◌<◌, ◌≤◌, List, [], ◌∷◌, take, drop, length, Bool, true, false, not, eqb, ltb, ◌&&◌, ◌⊎◌, refl}
use Rattle.std.proofs.Common.{arith, ap, sym, subst, ◌∙◌, get_or, inl, inr, append-nil}
use Rattle.std.proofs.lemmas.Bool.{and_parts, ne_eqb, cases_lt}
use Rattle.std.proofs.lemmas.Bool.Decides.{nat_tests}
use Rattle.std.proofs.lemmas.List.{length-take-le}
use Rattle.ap_symbol.specs.Rendering.{is_escaped_lem}
use Rattle.ap_stream.specs.Blanks.{is_white}
use Rattle.ap_stream.specs.Chars.{Char, char_at}
use Rattle.ap_stream.proofs.Cut.{char_size, char_cut, first_byte}
use Rattle.ap_format.specs.Pieces.{white_size}
use Rattle.ap_format.specs.Standing.{IsBare, AreCopied}
use Rattle.ap_format.proofs.Runs.{white_dark}
use Rattle.std.proofs.Math.Seq.{take-add}
use Rattle.ap_format.proofs.Cuts.{high_dark, bare_copied, copied_on, spaced_copied}

is_false : (v : Bool) → not v ≡ true → v ≡ false
is_false true h = absurd (cc)
is_false false h = refl

pub high_plain : (c : ℕ) → 128 ≤ c → is_escaped_lem c ≡ false
high_plain c high = rw (
  no 94 (omega arith),
  no 36 (omega arith),
  no 47 (omega arith),
  no 60 (omega arith),
  no 62 (omega arith),
  no 123 (omega arith),
  no 125 (omega arith),
  no 92 (omega arith),
  no 91 (omega arith),
  no 93 (omega arith),
  no 64 (omega arith),
  no 42 (omega arith),
  no 35 (omega arith),
  no 43 (omega arith),
  no 126 (omega arith),
) refl
  where
    no : (d : ℕ) → d < 128 → eqb c d ≡ false
    no d small = ne_eqb c d (λ e. omega (arith, e, small, high))

-- an ASCII character
pub bare_ascii : (bytes : List ℕ) → 0 < length bytes → get_or bytes 0 0 < 128 →
    (not (is_white (get_or bytes 0 0)) && not (is_escaped_lem (get_or bytes 0 0))) ≡ true →
    IsBare (take 1 bytes)
unfolding char_at
bare_ascii [] some low h = absurd (omega (arith, some))
bare_ascii (b ∷ bs) some low h =
    let parts = and_parts (not (is_white b)) (not (is_escaped_lem b)) h in
    let t : ltb b 128 ≡ true = grind (arith, nat_tests, low) in
    record {
      letter = b;
      whole = rw t refl;
      plain = is_false (is_escaped_lem b) parts.1;
      dark = white_dark b [] (is_false (is_white b) parts.0);
    }

-- any other character
pub bare_high : (bytes : List ℕ) (c n : ℕ) → char_at bytes ≡ Char c n → 0 < length bytes →
    128 ≤ get_or bytes 0 0 → IsBare (take n bytes)
bare_high [] c n h some high = absurd (omega (arith, some))
bare_high (b ∷ bs) c n h some high =
    let fits = char_size (b ∷ bs) c n h in
    let size : length (take n (b ∷ bs)) ≡ n = length-take-le n (b ∷ bs) fits.1 in
    record {
      letter = c;
      whole = ap char_at (sym (append-nil (take n (b ∷ bs)))) ∙ char_cut (b ∷ bs) [] c n h
          ∙ ap (Char c) (sym size);
      plain = by (cases_lt c 128);
      dark = dark_by n fits.0;
    }
  where
    by : (c < 128) ⊎ (128 ≤ c) → is_escaped_lem c ≡ false
    by (inl small) = absurd (let e = (first_byte b bs c n h small).0 in
        omega (arith, e, small, high))
    by (inr big) = high_plain c big

    dark_by : (m : ℕ) → 0 < m → white_size (take m (b ∷ bs)) ≡ 0
    dark_by zero s = absurd (omega (arith, s))
    dark_by (suc m) s = white_dark b (take m bs)
        (high_dark b (let t : ltb b 128 ≡ false = grind (arith, nat_tests, high) in t))

-- at the front of bytes
pub bare_front : (bytes : List ℕ) (n : ℕ) → 0 < n → n ≤ length bytes → IsBare (take n bytes) →
    AreCopied (take n bytes)
bare_front bytes n some within bare =
    let size = length-take-le n bytes within in
    bare_copied (take n bytes) (omega (arith, size, some)) bare

-- with a space before it
pub spaced_front : (bytes : List ℕ) (n : ℕ) → 0 < length bytes → get_or bytes 0 0 ≡ 32 → 0 < n →
    n ≤ length (drop 1 bytes) → IsBare (take n (drop 1 bytes)) → AreCopied (take (1 + n) bytes)
spaced_front [] n some is more within bare = absurd (omega (arith, some))
spaced_front (b ∷ bs) n some is more within bare =
    let one : suc n ≡ 1 + n = omega arith in
    let size = length-take-le n bs within in
    let same : 32 ∷ take n bs ≡ take (1 + n) (b ∷ bs) =
    ap (λ a. a ∷ take n bs) (sym is) ∙ ap (λ k. take k (b ∷ bs)) one in
    subst AreCopied same (spaced_copied (take n bs) (omega (arith, size, more)) bare)

-- one behind the other
pub copied_more : (bytes : List ℕ) (at size : ℕ) → (0 < at → AreCopied (take at bytes)) →
    AreCopied (take size (drop at bytes)) → AreCopied (take (at + size) bytes)
copied_more bytes zero size before next =
    let same : size ≡ 0 + size = omega arith in
    subst (λ n. AreCopied (take n bytes)) same next
copied_more bytes (suc at) size before next =
    subst AreCopied (sym (take-add (suc at) size bytes))
    (copied_on (take (suc at) bytes) (take size (drop (suc at) bytes)) (before (omega arith)) next)
