-- A blank: white space and superblanks.
use Rattle.std.specs.Prelude.{◌≡◌, ℕ, zero, suc, ◌+◌, ◌<◌, List, [], ◌∷◌, ◌++◌, length, drop, Bool, true, false, cond, eqb, ◌||◌, refl}
use Rattle.std.proofs.Common.{arith, ap, sym, ◌∙◌}
use Rattle.std.proofs.Math.Seq.{drop-append_seam, drop-append-add}
use Rattle.ap_stream.specs.Chars.{Part, NotChar, Char, char_at}
use Rattle.ap_stream.proofs.CharLaws.{char_stays}
use Rattle.ap_stream.specs.Blanks.{is_white, begins_blank, Close, longer, closes, escapes, closing, Run, further, behind_close, blank, inside, Within, Bad, Closed, Open, Inside, BadChar, Done}

-- the laws that a reader goes by

pub further_further : (m n : ℕ) (r : Run) → further m (further n r) ≡ further (m + n) r
further_further m n Open = refl
further_further m n Inside = refl
further_further m n BadChar = refl
further_further m n (Done k) = ap Done (omega arith)

pub further_zero : (r : Run) → further 0 r ≡ r
further_zero Open = refl
further_zero Inside = refl
further_zero BadChar = refl
further_zero (Done k) = ap Done (omega arith)

pub closing_skip : (e : Bool) (n : ℕ) (bs : List ℕ) → closing e n bs ≡ closing e 0 (drop n bs)
unfolding closing
closing_skip e zero bs = refl
closing_skip e (suc n) [] = refl
closing_skip e (suc n) (b ∷ bs) = closing_skip e n bs

pub blank_skip : (n : ℕ) (bs : List ℕ) → blank n bs ≡ blank 0 (drop n bs)
unfolding blank
blank_skip zero bs = refl
blank_skip (suc n) [] = refl
blank_skip (suc n) (b ∷ bs) = blank_skip n bs

pub blank_white : (b : ℕ) (bs : List ℕ) → is_white b ≡ true →
    blank 0 (b ∷ bs) ≡ further 1 (blank 0 bs)
unfolding blank
blank_white b bs h = rw h refl

pub blank_bracket : (bs : List ℕ) → blank 0 (91 ∷ bs) ≡ further 1 (inside false bs)
unfolding blank
blank_bracket bs = refl

pub blank_done : (b : ℕ) (bs : List ℕ) → is_white b ≡ false → eqb b 91 ≡ false →
    blank 0 (b ∷ bs) ≡ Done 0
unfolding blank
blank_done b bs h k = rw (h, k) refl

behind_longer : (n : ℕ) (c : Close) (f g : ℕ → Run) → ((k : ℕ) → f (n + k) ≡ g k) →
    behind_close (longer n c) f ≡ further n (behind_close c g)
behind_longer n Within f g h = refl
behind_longer n Bad f g h = refl
behind_longer n (Closed m) f g h = ap (further (n + m)) (h m) ∙ sym (further_further n m (g m))

blank_past : (p x : List ℕ) (k : ℕ) → blank (length p + k) (p ++ x) ≡ blank k x
blank_past p x k = blank_skip (length p + k) (p ++ x) ∙ ap (blank 0) (drop-append-add p x k)
    ∙ sym (blank_skip k x)

pub blank_at : (p x : List ℕ) → blank (length p) (p ++ x) ≡ blank 0 x
blank_at p x = blank_skip (length p) (p ++ x) ∙ ap (blank 0) (drop-append_seam p x)

behind_by : (b : Bool) (n : ℕ) (k : Close) (f g : ℕ → Run) → ((m : ℕ) → f (n + m) ≡ g m) →
    (r : Run) → f n ≡ r →
    behind_close (cond b (Closed n) (longer n k)) f
    ≡ cond b (further n r) (further n (behind_close k g))
behind_by true n k f g h r e = ap (further n) e
behind_by false n k f g h r e = behind_longer n k f g h

no_char : (c n : ℕ) → char_at [] ≡ Char c n → ⊥
unfolding char_at
no_char c n h = cc

no_bad : char_at [] ≡ NotChar → ⊥
unfolding char_at
no_bad h = cc

-- the first character within a superblank
closing_char : (e : Bool) (a : ℕ) (r x : List ℕ) (c : ℕ) →
    char_at (a ∷ r) ≡ Char c (length (a ∷ r)) →
    closing e 0 (a ∷ (r ++ x))
    ≡ cond (closes e c) (Closed (length (a ∷ r)))
    (longer (length (a ∷ r)) (closing (escapes e c) 0 x))
unfolding closing
closing_char e a r x c h =
    let there : char_at (a ∷ (r ++ x)) ≡ Char c (length (a ∷ r)) = rw h at (char_stays (a ∷ r) x) in
    let on : closing (escapes e c) (length r) (r ++ x) ≡ closing (escapes e c) 0 x =
    closing_skip (escapes e c) (length r) (r ++ x)
    ∙ ap (closing (escapes e c) 0) (drop-append_seam r x) in
    rw (there, on) refl

-- a character within a superblank
pub inside_char : (e : Bool) (p x : List ℕ) (c : ℕ) → char_at p ≡ Char c (length p) →
    inside e (p ++ x) ≡ cond (closes e c) (further (length p) (blank 0 x))
    (further (length p) (inside (escapes e c) x))
inside_char e [] x c h = absurd (no_char c 0 h)
inside_char e (a ∷ r) x c h = rw (closing_char e a r x c h)
    (behind_by (closes e c) (length (a ∷ r)) (closing (escapes e c) 0 x)
    (λ n. blank n (a ∷ (r ++ x))) (λ n. blank n x) (blank_past (a ∷ r) x) (blank 0 x)
    (blank_at (a ∷ r) x))

pub inside_bad : (e : Bool) (p x : List ℕ) → char_at p ≡ NotChar → inside e (p ++ x) ≡ BadChar
unfolding closing
inside_bad e [] x h = absurd (no_bad h)
inside_bad e (a ∷ r) x h =
    let there : char_at (a ∷ (r ++ x)) ≡ NotChar = rw h at (char_stays (a ∷ r) x) in rw there refl

pub inside_part : (e : Bool) (p : List ℕ) → char_at p ≡ Part → inside e p ≡ Inside
unfolding closing
inside_part e [] h = refl
inside_part e (a ∷ r) h = rw h refl

-- a blank has a byte
pub blank_some : (b : ℕ) (bs : List ℕ) (n : ℕ) → begins_blank b ≡ true →
    blank 0 (b ∷ bs) ≡ Done n → 0 < n
unfolding blank
blank_some b bs n begins h = by_white (is_white b) (eqb b 91) begins h
  where
    more : (r : Run) → further 1 r ≡ Done n → 0 < n
    more Open h = absurd (cc)
    more Inside h = absurd (cc)
    more BadChar h = absurd (cc)
    more (Done m) h = let size : 1 + m ≡ n = cc in omega (arith, size)

    by_white : (v w : Bool) → (v || w) ≡ true →
        cond v (further 1 (blank 0 bs))
        (cond w (further 1 (behind_close (closing false 0 bs) (λ n. blank n bs))) (Done 0))
        ≡ Done n → 0 < n
    by_white true w t h = more (blank 0 bs) h
    by_white false true t h = more (behind_close (closing false 0 bs) (λ n. blank n bs)) h
    by_white false false t h = absurd (cc)
