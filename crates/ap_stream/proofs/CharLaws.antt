-- The character at the front of bytes that may go on.
use Rattle.std.specs.Prelude.{◌≡◌, ℕ, ◌+◌, ◌<◌, ◌≤◌, List, [], ◌∷◌, ◌++◌, length, Bool, true, false, cond, ltb, refl}
use Rattle.std.proofs.Common.{arith, ◌∙◌, length-append}
use Rattle.ap_stream.specs.Chars.{Front, is_tail, is_second, tail2, tail3, tail4, char_at, Part, NotChar, Char}

-- what is decided stays so, whatever follows
abbrev pub Stays : Front → Front → Type 0
Stays Part g = Unit {0}
Stays NotChar g = g ≡ NotChar
Stays (Char c n) g = g ≡ Char c n

-- a character has no more bytes than are there, and at least one
abbrev pub Fits : Front → ℕ → Type 0
Fits Part n = Unit {0}
Fits NotChar n = Unit {0}
Fits (Char c size) n = (0 < size) × (size ≤ n)

-- a character that wasn't whole before its last byte has all the bytes
abbrev pub Ends : Front → Front → ℕ → Type 0
Ends Part Part n = Unit {0}
Ends Part NotChar n = Unit {0}
Ends Part (Char c size) n = size ≡ n
Ends NotChar g n = Unit {0}
Ends (Char c size) g n = Unit {0}

stays_cond : (b : Bool) (f g f' g' : Front) → Stays f f' → Stays g g' →
    Stays (cond b f g) (cond b f' g')
stays_cond true f g f' g' h k = h
stays_cond false f g f' g' h k = k

stays_refl : (f : Front) → Stays f f
stays_refl Part = tt
stays_refl NotChar = refl
stays_refl (Char c n) = refl

stays2 : (a : ℕ) (p x : List ℕ) → Stays (tail2 a p) (tail2 a (p ++ x))
stays2 a [] x = tt
stays2 a (b ∷ bs) x = stays_refl _

stays3 : (a : ℕ) (p x : List ℕ) → Stays (tail3 a p) (tail3 a (p ++ x))
stays3 a [] x = tt
stays3 a (b ∷ []) [] = stays_refl _
stays3 a (b ∷ []) (c ∷ x) = stays_cond (is_second a b) Part NotChar _ NotChar tt refl
stays3 a (b ∷ c ∷ bs) x = stays_refl _

stays4 : (a : ℕ) (p x : List ℕ) → Stays (tail4 a p) (tail4 a (p ++ x))
stays4 a [] x = tt
stays4 a (b ∷ []) [] = stays_refl _
stays4 a (b ∷ []) (c ∷ []) = stays_cond (is_second a b) Part NotChar _ NotChar tt refl
stays4 a (b ∷ []) (c ∷ d ∷ x) = stays_cond (is_second a b) Part NotChar _ NotChar tt refl
stays4 a (b ∷ c ∷ []) [] = stays_refl _
stays4 a (b ∷ c ∷ []) (d ∷ x) =
    stays_cond (is_second a b) _ NotChar _ NotChar
    (stays_cond (is_tail c) Part NotChar _ NotChar tt refl) refl
stays4 a (b ∷ c ∷ d ∷ bs) x = stays_refl _

pub char_stays : (p x : List ℕ) → Stays (char_at p) (char_at (p ++ x))
unfolding char_at
char_stays [] x = tt
char_stays (a ∷ bs) x = stays_cond (ltb a 128) (Char a 1) _ (Char a 1) _ refl
    (stays_cond (ltb a 194) NotChar _ NotChar _ refl
    (stays_cond (ltb a 224) _ _ _ _ (stays2 a bs x)
    (stays_cond (ltb a 240) _ _ _ _ (stays3 a bs x)
    (stays_cond (ltb a 245) _ NotChar _ NotChar (stays4 a bs x) refl))))

fits_cond : (b : Bool) (f g : Front) (n : ℕ) → Fits f n → Fits g n → Fits (cond b f g) n
fits_cond true f g n h k = h
fits_cond false f g n h k = k

pub char_fits : (p : List ℕ) → Fits (char_at p) (length p)
unfolding char_at
char_fits [] = tt
char_fits (a ∷ []) = fits_cond (ltb a 128) _ _ _ (omega arith, omega arith)
    (fits_cond (ltb a 194) NotChar _ _ tt
    (fits_cond (ltb a 224) Part _ _ tt
    (fits_cond (ltb a 240) Part _ _ tt (fits_cond (ltb a 245) Part NotChar _ tt tt))))
char_fits (a ∷ b ∷ []) =
    fits_cond (ltb a 128) _ _ _ (omega arith, omega arith)
    (fits_cond (ltb a 194) NotChar _ _ tt
    (fits_cond (ltb a 224) _ _ _ (fits_cond (is_tail b) _ NotChar _ (omega arith, omega arith) tt)
    (fits_cond (ltb a 240) _ _ _ (fits_cond (is_second a b) Part NotChar _ tt tt)
    (fits_cond (ltb a 245) _ NotChar _ (fits_cond (is_second a b) Part NotChar _ tt tt) tt))))
char_fits (a ∷ b ∷ c ∷ []) =
    fits_cond (ltb a 128) _ _ _ (omega arith, omega arith)
    (fits_cond (ltb a 194) NotChar _ _ tt
    (fits_cond (ltb a 224) _ _ _ (fits_cond (is_tail b) _ NotChar _ (omega arith, omega arith) tt)
    (fits_cond (ltb a 240) _ _ _
    (fits_cond (is_second a b) _ NotChar _
    (fits_cond (is_tail c) _ NotChar _ (omega arith, omega arith) tt) tt)
    (fits_cond (ltb a 245) _ NotChar _
    (fits_cond (is_second a b) _ NotChar _
    (fits_cond (is_tail c) Part NotChar _ tt tt) tt) tt))))
char_fits (a ∷ b ∷ c ∷ d ∷ bs) =
    fits_cond (ltb a 128) _ _ _ (omega arith, omega arith)
    (fits_cond (ltb a 194) NotChar _ _ tt
    (fits_cond (ltb a 224) _ _ _ (fits_cond (is_tail b) _ NotChar _ (omega arith, omega arith) tt)
    (fits_cond (ltb a 240) _ _ _
    (fits_cond (is_second a b) _ NotChar _
    (fits_cond (is_tail c) _ NotChar _ (omega arith, omega arith) tt) tt)
    (fits_cond (ltb a 245) _ NotChar _
    (fits_cond (is_second a b) _ NotChar _
    (fits_cond (is_tail c) _ NotChar _
    (fits_cond (is_tail d) _ NotChar _ (omega arith, omega arith) tt) tt) tt) tt))))

ends_cond : (b : Bool) (f g f' g' : Front) (n : ℕ) → Ends f f' n → Ends g g' n →
    Ends (cond b f g) (cond b f' g') n
ends_cond true f g f' g' n h k = h
ends_cond false f g f' g' n h k = k

ends_refl : (f : Front) (n : ℕ) → Ends f f n
ends_refl Part n = tt
ends_refl NotChar n = tt
ends_refl (Char c m) n = tt

-- behind a first byte: no char, or one that ends
ends_more : (b : Bool) (g : Front) (n : ℕ) → Ends Part g n → Ends Part (cond b g NotChar) n
ends_more true g n h = h
ends_more false g n h = tt

pub char_ends : (p : List ℕ) (b : ℕ) → 0 < length p →
    Ends (char_at p) (char_at (p ++ b ∷ [])) (length p + 1)
unfolding char_at
char_ends [] b some = absurd (omega arith)
char_ends (a ∷ []) b some =
    ends_cond (ltb a 128) _ _ _ _ _ tt
    (ends_cond (ltb a 194) NotChar _ NotChar _ _ tt
    (ends_cond (ltb a 224) Part _ _ _ _ (ends_more (is_tail b) (Char _ 2) _ (omega arith))
    (ends_cond (ltb a 240) Part _ _ _ _ (ends_more (is_second a b) Part _ tt)
    (ends_cond (ltb a 245) Part NotChar _ NotChar _ (ends_more (is_second a b) Part _ tt) tt))))
char_ends (a ∷ c ∷ []) b some =
    ends_cond (ltb a 128) _ _ _ _ _ tt
    (ends_cond (ltb a 194) NotChar _ NotChar _ _ tt (ends_cond (ltb a 224) _ _ _ _ _ (ends_refl _ _)
    (ends_cond (ltb a 240) _ _ _ _ _
    (ends_cond (is_second a c) Part NotChar _ NotChar _
    (ends_more (is_tail b) (Char _ 3) _ (omega arith)) tt)
    (ends_cond (ltb a 245) _ NotChar _ NotChar _
    (ends_cond (is_second a c) Part NotChar _ NotChar _
    (ends_more (is_tail b) Part _ tt) tt) tt))))
char_ends (a ∷ c ∷ d ∷ []) b some =
    ends_cond (ltb a 128) _ _ _ _ _ tt
    (ends_cond (ltb a 194) NotChar _ NotChar _ _ tt (ends_cond (ltb a 224) _ _ _ _ _ (ends_refl _ _)
    (ends_cond (ltb a 240) _ _ _ _ _ (ends_refl _ _)
    (ends_cond (ltb a 245) _ NotChar _ NotChar _
    (ends_cond (is_second a c) _ NotChar _ NotChar _
    (ends_cond (is_tail d) Part NotChar _ NotChar _
    (ends_more (is_tail b) (Char _ 4) _ (omega arith)) tt) tt) tt))))
char_ends (a ∷ c ∷ d ∷ e ∷ p) b some =
    ends_cond (ltb a 128) _ _ _ _ _ tt
    (ends_cond (ltb a 194) NotChar _ NotChar _ _ tt (ends_cond (ltb a 224) _ _ _ _ _ (ends_refl _ _)
    (ends_cond (ltb a 240) _ _ _ _ _ (ends_refl _ _)
    (ends_cond (ltb a 245) _ NotChar _ NotChar _ (ends_refl _ _) tt))))

-- one byte is a character by itself, or the start of one, or none
pub one_ends : (b c n : ℕ) → char_at (b ∷ []) ≡ Char c n → n ≡ 1
one_ends b c n h = let k : Fits (Char c n) 1 = rw h at (char_fits (b ∷ [])) in omega (arith, k)

-- the last byte of a character is its last
pub char_length : (p : List ℕ) (b c n : ℕ) → char_at p ≡ Part → char_at (p ++ b ∷ []) ≡ Char c n →
    n ≡ length (p ++ b ∷ [])
char_length [] b c n h k = one_ends b c n k
char_length (a ∷ p) b c n h k =
    let e : Ends Part (Char c n) (length (a ∷ p) + 1) =
    rw (h, k) at (char_ends (a ∷ p) b (omega arith)) in e ∙ rw length-append refl
