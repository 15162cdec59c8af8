-- The piece at the front of a text.
use Rattle.std.specs.Prelude.{◌≡◌, ◌≢◌, ℕ, zero, suc, ◌+◌, ◌<◌, ◌≤◌, nat_lt, List, [], ◌∷◌, ◌++◌, take, drop, length, Bool, true, false, cond, ltb, refl, encode_utf8}
use Rattle.std.proofs.Common.{arith, ap, sym, ◌∙◌, append_assoc, length-append}
use Rattle.std.proofs.lemmas.Bool.Decides.{nat_tests}
use Rattle.std.proofs.lemmas.List.{append-nil}
use Rattle.std.proofs.Math.Seq.{drop-append_seam, take-append_seam}
use Rattle.ap_symbol.specs.Rendering.{letter_bytes, is_escaped_lem}
use Rattle.ap_stream.specs.Blanks.{is_white}
use Rattle.ap_stream.specs.Chars.{Front, Part, NotChar, Char, char_at, is_tail, is_second}
use Rattle.ap_stream.proofs.CharLaws.{char_stays}
use Rattle.ap_stream.specs.Reading.{counted}
use Rattle.ap_stream.specs.Told.{Told, Ending, Clean, Cut, behind, ends_in}
use Rattle.ap_stream.specs.declared.fault.StreamFault.TheVariants.{Malformed, Limit}
use Rattle.ap_stream.specs.declared.fault.MalformedKind.TheVariants.{NotUtf8, Unfinished}
use Rattle.ap_stream.specs.declared.fault.LimitKind.TheVariants.{ItemTooLong}
use Rattle.ap_stream.proofs.Cut.{char_bytes}
use Rattle.ap_format.specs.Pieces.{Run, Letter, Pieces, nothing, stopped, followed, run_max, white_size, cut, pieces_of}
use Rattle.ap_format.proofs.PieceLaws.{run_max_is}
use Rattle.ap_format.specs.Deformatted.{written, des_from}
use Rattle.ap_format.specs.Standing.{IsWhite, IsBare, AreCopied}
use Rattle.ap_format.proofs.Runs.{white_parts, white_more, first_dark, dark_front, white_low}

cut_skip : (place n : ℕ) (bs : List ℕ) → cut place n bs ≡ cut place 0 (drop n bs)
unfolding cut
cut_skip place zero bs = refl
cut_skip place (suc n) [] = refl
cut_skip place (suc n) (b ∷ bs) = cut_skip place n bs

cut_past : (place : ℕ) (p x : List ℕ) → cut place (length p) (p ++ x) ≡ cut place 0 x
cut_past place p x = cut_skip place (length p) (p ++ x) ∙ ap (cut place 0) (drop-append_seam p x)

-- a byte that isn't ASCII begins no white space
pub high_dark : (b : ℕ) → ltb b 128 ≡ false → is_white b ≡ false
high_dark b h = by (is_white b) refl
  where
    by : (v : Bool) → is_white b ≡ v → is_white b ≡ false
    by true e = absurd (let low = white_low b e in let t : ltb b 128 ≡ true =
        grind (arith, nat_tests, low) in cc)
    by false e = e

-- the start of a character, and bytes that begin none, begin with no ASCII character

high_by : (v : Bool) (b : ℕ) (g f : Front) → ltb b 128 ≡ v → cond v (Char b 1) g ≡ f →
    f ≢ Char b 1 → ltb b 128 ≡ false
high_by true b g f e h differs = absurd (differs (sym h))
high_by false b g f e h differs = e

pub part_dark : (b : ℕ) (bs : List ℕ) → char_at (b ∷ bs) ≡ Part → is_white b ≡ false
unfolding char_at
part_dark b bs h = high_dark b (high_by (ltb b 128) b _ Part refl h (λ e. cc))

pub bad_dark : (b : ℕ) (bs : List ℕ) → char_at (b ∷ bs) ≡ NotChar → is_white b ≡ false
unfolding char_at
bad_dark b bs h = high_dark b (high_by (ltb b 128) b _ NotChar refl h (λ e. cc))

pub nil_part : char_at [] ≡ Part
unfolding char_at
nil_part = refl

-- the start of a character has three bytes at most
part_cond : (v : Bool) (f g : Front) → (f ≡ Part → ⊥) → (g ≡ Part → ⊥) → cond v f g ≡ Part → ⊥
part_cond true f g h k e = h e
part_cond false f g h k e = k e

pub part_short : (p : List ℕ) → char_at p ≡ Part → length p ≤ 3
unfolding char_at
part_short [] h = omega arith
part_short (a ∷ []) h = omega arith
part_short (a ∷ b ∷ []) h = omega arith
part_short (a ∷ b ∷ c ∷ []) h = omega arith
part_short (a ∷ b ∷ c ∷ d ∷ p) h =
    absurd (part_cond (ltb a 128) (Char a 1) _ (λ e. cc)
    (part_cond (ltb a 194) NotChar _ (λ e. cc)
    (part_cond (ltb a 224) _ _ (part_cond (is_tail b) _ NotChar (λ e. cc) (λ e. cc))
    (part_cond (ltb a 240) _ _
    (part_cond (is_second a b) _ NotChar (part_cond (is_tail c) _ NotChar (λ e. cc) (λ e. cc))
    (λ e. cc))
    (part_cond (ltb a 245) _ NotChar
    (part_cond (is_second a b) _ NotChar
    (part_cond (is_tail c) _ NotChar (part_cond (is_tail d) _ NotChar (λ e. cc) (λ e. cc))
    (λ e. cc)) (λ e. cc)) (λ e. cc))))) h)

-- a run of white space that no white space follows

under : (n : ℕ) → n ≤ run_max → nat_lt run_max n ≡ false
under n h = grind (arith, nat_tests)

over : (n : ℕ) → run_max < n → nat_lt run_max n ≡ true
over n h = grind (arith, nat_tests)

pub run_front : (place : ℕ) (p y : List ℕ) → IsWhite p → 0 < length p → length p ≤ run_max →
    white_size y ≡ 0 → pieces_of place (p ++ y)
    ≡ followed (Run p) (pieces_of (counted (place + length p)) y)
unfolding pieces_of cut
run_front place [] y white some short dark = absurd (omega (arith, some))
run_front place (b ∷ q) y white some short dark =
    let parts = white_parts b q white in
    let size : white_size (b ∷ (q ++ y)) ≡ length (b ∷ q) =
    white_more (b ∷ q) y white ∙ omega (arith, dark) in
    let bytes : take (length (b ∷ q)) (b ∷ (q ++ y)) ≡ b ∷ q = take-append_seam (b ∷ q) y in
    let few : nat_lt run_max (length (b ∷ q)) ≡ false = under (length (b ∷ q)) short in
    rw (parts.0, size, few, bytes)
    (ap (followed (Run (b ∷ q))) (cut_past (counted (place + length (b ∷ q))) q y))

-- a run that is too long, whatever follows
pub run_long : (place : ℕ) (p x : List ℕ) → IsWhite p → run_max < length p →
    pieces_of place (p ++ x) ≡ stopped (Limit ItemTooLong place)
unfolding pieces_of cut
run_long place [] x white long = absurd (omega (arith, long))
run_long place (b ∷ q) x white long =
    let parts = white_parts b q white in
    let size = white_more (b ∷ q) x white in
    let many : nat_lt run_max (white_size (b ∷ (q ++ x))) ≡ true =
    over (white_size (b ∷ (q ++ x))) (omega (arith, long, size)) in
    rw (parts.0, many) refl

-- a whole character that is no white space
pub letter_front : (place : ℕ) (p x : List ℕ) (c : ℕ) → char_at p ≡ Char c (length p) →
    white_size p ≡ 0 → 0 < length p → pieces_of place (p ++ x)
    ≡ followed (Letter c) (pieces_of (counted (place + length p)) x)
unfolding pieces_of cut
letter_front place [] x c whole dark some = absurd (omega (arith, some))
letter_front place (b ∷ q) x c whole dark some =
    let there : char_at (b ∷ (q ++ x)) ≡ Char c (length (b ∷ q)) =
    rw whole at (char_stays (b ∷ q) x) in
    rw (first_dark b q dark, there)
    (ap (followed (Letter c)) (cut_past (counted (place + length (b ∷ q))) q x))

-- bytes that begin no character, whatever follows
pub bad_front : (place : ℕ) (p x : List ℕ) → char_at p ≡ NotChar → 0 < length p →
    pieces_of place (p ++ x) ≡ stopped (Malformed NotUtf8 place)
unfolding pieces_of cut
bad_front place [] x bad some = absurd (omega (arith, some))
bad_front place (b ∷ q) x bad some =
    let there : char_at (b ∷ (q ++ x)) ≡ NotChar = rw bad at (char_stays (b ∷ q) x) in
    rw (bad_dark b q bad, there) refl

-- the start of a character at the end
pub part_end : (place : ℕ) (p : List ℕ) → char_at p ≡ Part → 0 < length p →
    pieces_of place p ≡ stopped (Malformed Unfinished place)
unfolding pieces_of cut
part_end place [] part some = absurd (omega (arith, some))
part_end place (b ∷ q) part some = rw (part_dark b q part, part) refl

pub none_left : (place : ℕ) → pieces_of place [] ≡ nothing
unfolding pieces_of cut
none_left place = refl

-- what comes of them

pub written_limit : (place : ℕ) (e : Ending) → written (stopped (Limit ItemTooLong place)) e
    ≡ ends_in [] (Limit ItemTooLong place)
written_limit place Clean = refl
written_limit place Cut = refl

pub written_bad : (place : ℕ) (e : Ending) → written (stopped (Malformed NotUtf8 place)) e
    ≡ ends_in [] (Malformed NotUtf8 place)
written_bad place Clean = refl
written_bad place Cut = refl

-- of a character that is written as it is
pub bare_bytes : (p : List ℕ) (c : ℕ) → char_at p ≡ Char c (length p) → encode_utf8 c ≡ p
bare_bytes p c h = char_bytes p c (length p) h ∙ ap (take (length p)) (sym (append-nil p))
    ∙ take-append_seam p []

pub counted_on : (place m n : ℕ) → counted (counted (place + m) + n) ≡ counted (place + (m + n))
counted_on place m n = omega arith

pub behind_behind : (a b : List ℕ) (t : Told) → behind a (behind b t) ≡ behind (a ++ b) t
behind_behind a b t = ap (λ s. record { text = s; fault = t.fault }) (sym (append_assoc a b t.text))

-- Bytes that are written as they are: a character, one behind the other, and one with a space
-- before it.

plain_bytes : (c : ℕ) (p : List ℕ) → is_escaped_lem c ≡ false → encode_utf8 c ≡ p →
    letter_bytes c ≡ p
plain_bytes c p plain e = rw plain e

pub bare_copied : (p : List ℕ) → 0 < length p → IsBare p → AreCopied p
bare_copied p some bare place x e =
    ap (λ (q : Pieces). written q e) (letter_front place p x bare.letter bare.whole bare.dark some)
    ∙ ap (λ s. behind s (des_from (counted (place + length p)) x e))
    (plain_bytes bare.letter p bare.plain (bare_bytes p bare.letter bare.whole))

pub copied_on : (p q : List ℕ) → AreCopied p → AreCopied q → AreCopied (p ++ q)
copied_on p q h k place x e =
    let size = length-append p q in
    let there : counted (counted (place + length p) + length q)
    ≡ counted (place + length (p ++ q)) = omega (arith, size) in
    ap (λ (t : List ℕ). des_from place t e) (append_assoc p q x) ∙ h place (q ++ x) e
    ∙ ap (behind p) (k (counted (place + length p)) x e)
    ∙ behind_behind p q (des_from (counted (counted (place + length p) + length q)) x e)
    ∙ ap (λ n. behind (p ++ q) (des_from n x e)) there

one_white : IsWhite (32 ∷ [])
unfolding white_size
one_white = refl

one_short : 1 ≤ run_max
one_short = omega (arith, run_max_is)

pub spaced_copied : (p : List ℕ) → 0 < length p → IsBare p → AreCopied (32 ∷ p)
spaced_copied p some bare place x e =
    let there : counted (counted (place + 1) + length p) ≡ counted (place + length (32 ∷ p)) =
    omega arith in
    ap (λ (q : Pieces). written q e)
    (run_front place (32 ∷ []) (p ++ x) one_white (omega arith) one_short
    (dark_front p x some bare.dark))
    ∙ ap (behind (32 ∷ [])) (bare_copied p some bare (counted (place + 1)) x e)
    ∙ ap (λ n. behind (32 ∷ p) (des_from n x e)) there
