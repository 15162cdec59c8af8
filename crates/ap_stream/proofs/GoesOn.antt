-- Bytes that lack something of a symbol, a word, a superblank or a chunk go on to a whole one.
use Rattle.std.specs.Prelude.{◌≡◌, ◌≢◌, ℕ, zero, suc, ◌+◌, ◌-◌, ◌*◌, ◌<◌, ◌≤◌, List, [], ◌∷◌, ◌++◌, drop, take, length, Bool, true, false, cond, eqb, ltb, ◌&&◌, ◌⊎◌, not, refl}
use Rattle.std.proofs.Common.{arith, ap, sym, subst, ◌∙◌, append_assoc, length-append, inl, inr}
use Rattle.std.proofs.lemmas.Bool.{eqb-true, and_parts, ne_eqb, cases_eq, cases_lt}
use Rattle.std.proofs.lemmas.Bool.Decides.{nat_tests}
use Rattle.std.proofs.lemmas.List.{append-nil, length-drop, length-take-le, take-append-drop, take_all}
use Rattle.ap_symbol.specs.TagNames.{is_reserved_lem}
use Rattle.ap_symbol.specs.TextWord.{escaped_symbol}
use Rattle.ap_symbol.specs.declared.symbol.Symbol.{Symbol}
use Rattle.ap_symbol.specs.declared.symbol.Symbol.TheVariants as symbol
use Rattle.ap_stream.specs.declared.fault.MalformedKind.TheVariants.{Stray, BadTag, EmptyWord}
use Rattle.ap_stream.specs.Chars.{Front, Part, NotChar, Char, char_at, tail2, tail3, tail4, is_tail, is_second}
use Rattle.ap_stream.specs.Units.{Form, Name, Runs, Breaks, Stops, name, behind_name, Sign, Awaits, Bars, Reads, Slash, Dollar, Brace, sign, of_bare, of_name, of_escape, bare_of, is_barred, begins_tag, in_surface, is_none, may_part, may_end, early, Rest, Lacks, Wrong, Ends, rest, longer}
use Rattle.ap_stream.proofs.UnitLaws.{name_char, sign_bare, sign_escape, sign_tag, rest_symbol, rest_slash, rest_dollar, rest_brace}
use Rattle.ap_stream.proofs.Cut.{char_size, char_cut, first_byte, sign_cut_at, sign_ends, EndsIn}
use Rattle.ap_stream.proofs.SignLaws.{front_reads}

-- a character

pub record CharGoesOn (p : List ℕ) : Type 0 where
  pub more : List ℕ
  pub c : ℕ
  pub whole : char_at (p ++ more) ≡ Char c (length (p ++ more))

above : (a n : ℕ) → ltb a n ≡ false → n ≤ a
above a n h = grind (arith, nat_tests)

below : (a n : ℕ) → ltb a n ≡ true → a < n
below a n h = grind (arith, nat_tests)

-- which second byte a first one may have
second_of : (a : ℕ) → 224 ≤ a → a < 245 → (s : ℕ) × (is_second a s ≡ true)
second_of a l h = by (cases_eq a 237) (cases_eq a 244)
  where
    by : (a ≡ 237) ⊎ (a ≢ 237) → (a ≡ 244) ⊎ (a ≢ 244) → (s : ℕ) × (is_second a s ≡ true)
    by (inl e) k = (128, ap (λ q. is_second q 128) e)
    by (inr n) (inl e) = (128, ap (λ q. is_second q 128) e)
    by (inr n) (inr m) = (
      160,
      let u : eqb a 237 ≡ false = ne_eqb a 237 n in
          let v : eqb a 244 ≡ false = ne_eqb a 244 m in rw (u, v) (same (eqb a 224) (eqb a 240)),
    )
      where
        same : (u v : Bool) → cond u true (cond v true true) ≡ true
        same true v = refl
        same false true = refl
        same false false = refl

module _ (a : ℕ) (l : ltb a 128 ≡ false) (m : ltb a 194 ≡ false) where
  goes2 : (bs : List ℕ) → ltb a 224 ≡ true → tail2 a bs ≡ Part → CharGoesOn (a ∷ bs)
  unfolding char_at
  goes2 [] t h =
      record { more = 128 ∷ []; c = 64 * (a - 192) + (128 - 128); whole = rw (l, m, t) refl }
  goes2 (b ∷ bs) t h = absurd (by (is_tail b) h)
    where
      by : (v : Bool) → cond v (Char (64 * (a - 192) + (b - 128)) 2) NotChar ≡ Part → ⊥
      by true h = cc
      by false h = cc

  goes3 : (bs : List ℕ) → ltb a 224 ≡ false → ltb a 240 ≡ true → tail3 a bs ≡ Part →
      CharGoesOn (a ∷ bs)
  unfolding char_at
  goes3 [] t u h =
      let s = second_of a (above a 224 t) (let k = below a 240 u in omega (arith, k)) in
      record {
        more = s.0 ∷ 128 ∷ [];
        c = 64 * (64 * (a - 224) + (s.0 - 128)) + (128 - 128);
        whole = rw (l, m, t, u, s.1) refl;
      }
  goes3 (b ∷ []) t u h = by (is_second a b) refl h
    where
      by : (v : Bool) → is_second a b ≡ v → cond v Part NotChar ≡ Part → CharGoesOn (a ∷ b ∷ [])
      by true e h = record {
        more = 128 ∷ [];
        c = 64 * (64 * (a - 224) + (b - 128)) + (128 - 128);
        whole = rw (l, m, t, u, e) refl;
      }
      by false e h = absurd (cc)
  goes3 (b ∷ d ∷ bs) t u h = absurd (by (is_second a b) (is_tail d) h)
    where
      by : (v w : Bool) → cond v (cond w (Char (64 * (64 * (a - 224) + (b - 128)) + (d - 128)) 3)
          NotChar) NotChar ≡ Part → ⊥
      by true true h = cc
      by true false h = cc
      by false w h = cc

  goes4 : (bs : List ℕ) → ltb a 224 ≡ false → ltb a 240 ≡ false → ltb a 245 ≡ true →
      tail4 a bs ≡ Part → CharGoesOn (a ∷ bs)
  unfolding char_at
  goes4 [] t u w h =
      let s = second_of a (above a 224 t) (below a 245 w) in
      record {
        more = s.0 ∷ 128 ∷ 128 ∷ [];
        c = 64 * (64 * (64 * (a - 240) + (s.0 - 128)) + (128 - 128)) + (128 - 128);
        whole = rw (l, m, t, u, w, s.1) refl;
      }
  goes4 (b ∷ []) t u w h = by (is_second a b) refl h
    where
      by : (v : Bool) → is_second a b ≡ v → cond v Part NotChar ≡ Part → CharGoesOn (a ∷ b ∷ [])
      by true e h = record {
        more = 128 ∷ 128 ∷ [];
        c = 64 * (64 * (64 * (a - 240) + (b - 128)) + (128 - 128)) + (128 - 128);
        whole = rw (l, m, t, u, w, e) refl;
      }
      by false e h = absurd (cc)
  goes4 (b ∷ d ∷ []) t u w h = by (is_second a b) (is_tail d) refl refl h
    where
      by : (v z : Bool) → is_second a b ≡ v → is_tail d ≡ z →
          cond v (cond z Part NotChar) NotChar ≡ Part → CharGoesOn (a ∷ b ∷ d ∷ [])
      by true true e f h = record {
        more = 128 ∷ [];
        c = 64 * (64 * (64 * (a - 240) + (b - 128)) + (d - 128)) + (128 - 128);
        whole = rw (l, m, t, u, w, e, f) refl;
      }
      by true false e f h = absurd (cc)
      by false z e f h = absurd (cc)
  goes4 (b ∷ d ∷ f ∷ bs) t u w h = absurd (by (is_second a b) (is_tail d) (is_tail f) h)
    where
      by : (x y z : Bool) → cond x (cond y (cond z
          (Char (64 * (64 * (64 * (a - 240) + (b - 128)) + (d - 128)) + (f - 128)) 4)
          NotChar) NotChar) NotChar ≡ Part → ⊥
      by true true true h = cc
      by true true false h = cc
      by true false z h = cc
      by false y z h = cc

pub char_goes_on : (p : List ℕ) → char_at p ≡ Part → CharGoesOn p
unfolding char_at
char_goes_on [] h = record { more = 97 ∷ []; c = 97; whole = refl }
char_goes_on (a ∷ bs) h =
    first (ltb a 128) (ltb a 194) (ltb a 224) (ltb a 240) (ltb a 245) refl refl refl refl refl h
  where
    first : (v w x y z : Bool) → ltb a 128 ≡ v → ltb a 194 ≡ w → ltb a 224 ≡ x → ltb a 240 ≡ y →
        ltb a 245 ≡ z → cond v (Char a 1) (cond w NotChar (cond x (tail2 a bs)
        (cond y (tail3 a bs) (cond z (tail4 a bs) NotChar)))) ≡ Part → CharGoesOn (a ∷ bs)
    first true w x y z l m t u s h = absurd (cc)
    first false true x y z l m t u s h = absurd (cc)
    first false false true y z l m t u s h = goes2 a l m bs t h
    first false false false true z l m t u s h = goes3 a l m bs t u h
    first false false false false true l m t u s h = goes4 a l m bs t u s h
    first false false false false false l m t u s h = absurd (cc)

-- it isn't ASCII where a byte of it is there
pub part_high : (b : ℕ) (bs more : List ℕ) (c n : ℕ) → char_at (b ∷ bs) ≡ Part →
    char_at ((b ∷ bs) ++ more) ≡ Char c n → 128 ≤ c
unfolding char_at
part_high b bs more c n h e = elim (cases_lt c 128) [
  | inl small ↦
      let same : b ≡ c = (first_byte b (bs ++ more) c n e small).0 in
      let t : ltb b 128 ≡ true = grind (arith, nat_tests, same, small) in
      absurd (let k : Char b 1 ≡ Part = rw t at h in cc)
  | inr high ↦ high
]

pub part_byte : (b : ℕ) (bs : List ℕ) → char_at (b ∷ bs) ≡ Part → 128 ≤ b
unfolding char_at
part_byte b bs h = elim (cases_lt b 128) [
  | inl small ↦
      let t : ltb b 128 ≡ true = grind (arith, nat_tests, small) in
      absurd (let k : Char b 1 ≡ Part = rw t at h in cc)
  | inr high ↦ high
]

pub apart : (c d : ℕ) → 128 ≤ c → d < 128 → eqb c d ≡ false
apart c d high small = ne_eqb c d (λ e. omega (arith, e, high, small))

-- a tag's name

pub record NameGoesOn (p : List ℕ) : Type 0 where
  pub more : List ℕ
  pub n : ℕ
  pub whole : name 0 (p ++ more) ≡ Stops n 62
  pub some : 0 < n
  pub size : n + 1 ≡ length (p ++ more)

-- where it isn't empty, or may be so far
pub record NameEndsOn (p : List ℕ) : Type 0 where
  pub more : List ℕ
  pub n : ℕ
  pub whole : name 0 (p ++ more) ≡ Stops n 62
  pub size : n + 1 ≡ length (p ++ more)

free_name : (c : ℕ) → 128 ≤ c → is_reserved_lem c ≡ false
free_name c h = rw (
  apart c 9 h (omega arith),
  apart c 10 h (omega arith),
  apart c 13 h (omega arith),
  apart c 32 h (omega arith),
  apart c 94 h (omega arith),
  apart c 36 h (omega arith),
  apart c 47 h (omega arith),
  apart c 60 h (omega arith),
  apart c 62 h (omega arith),
  apart c 123 h (omega arith),
  apart c 125 h (omega arith),
  apart c 92 h (omega arith),
  apart c 91 h (omega arith),
  apart c 93 h (omega arith),
) refl

angle_ends : name 0 (62 ∷ []) ≡ Stops 0 62
unfolding name char_at
angle_ends = refl

letter_ends : name 0 (97 ∷ 62 ∷ []) ≡ Stops 1 62
unfolding name char_at
letter_ends = refl

name_front : (bs y : List ℕ) (d m : ℕ) → char_at bs ≡ Char d m → is_reserved_lem d ≡ false →
    name 0 (take m bs ++ y) ≡ behind_name m (name 0 y)
name_front bs y d m h r =
    let l : length (take m bs) ≡ m = length-take-le m bs (char_size bs d m h).1 in
    let alone : char_at (take m bs) ≡ Char d (length (take m bs)) =
    ap char_at (sym (append-nil (take m bs))) ∙ char_cut bs [] d m h ∙ ap (Char d) (sym l) in
    name_char (take m bs) y d alone ∙ rw r (ap (λ n. behind_name n (name 0 y)) l)

name_all : (p y : List ℕ) (d : ℕ) → char_at p ≡ Char d (length p) → is_reserved_lem d ≡ false →
    name 0 (p ++ y) ≡ behind_name (length p) (name 0 y)
name_all p y d h r = name_char p y d h ∙ rw r refl

char_runs : (bs : List ℕ) (c m : ℕ) → char_at bs ≡ Char c m → name 0 bs ≡ Runs →
    (is_reserved_lem c ≡ false) × (name 0 (drop m bs) ≡ Runs)
char_runs bs c m e h = by (is_reserved_lem c) refl
  where
    whole : take m bs ++ drop m bs ≡ bs
    whole = take-append-drop m bs

    l : length (take m bs) ≡ m
    l = length-take-le m bs (char_size bs c m e).1

    alone : char_at (take m bs) ≡ Char c (length (take m bs))
    alone = ap char_at (sym (append-nil (take m bs))) ∙ char_cut bs [] c m e ∙ ap (Char c) (sym l)

    is : name 0 bs ≡ cond (is_reserved_lem c) (Stops 0 c)
        (behind_name (length (take m bs)) (name 0 (drop m bs)))
    is = ap (name 0) (sym whole) ∙ name_char (take m bs) (drop m bs) c alone

    behind : (n : ℕ) (r : Name) → behind_name n r ≡ Runs → r ≡ Runs
    behind n Runs h = refl
    behind n Breaks h = absurd (cc)
    behind n (Stops k d) h = absurd (cc)

    by : (v : Bool) → is_reserved_lem c ≡ v →
        (is_reserved_lem c ≡ false) × (name 0 (drop m bs) ≡ Runs)
    by true r = let k : name 0 bs ≡ Stops 0 c = rw r at is in
        absurd (let z : Stops 0 c ≡ Runs = sym k ∙ h in cc)
    by false r =
        let k : name 0 bs ≡ behind_name (length (take m bs)) (name 0 (drop m bs)) = rw r at is in
        (r, behind (length (take m bs)) (name 0 (drop m bs)) (sym k ∙ h))

name_ends_on : (k : ℕ) (p : List ℕ) → length p ≤ k → name 0 p ≡ Runs → NameEndsOn p
unfolding name
name_ends_on k [] short h =
    record { more = 62 ∷ []; n = 0; whole = angle_ends; size = refl }
name_ends_on zero (b ∷ bs) short h = absurd (omega (arith, short))
name_ends_on (suc k) (b ∷ bs) short h =
    by (char_at (b ∷ bs)) refl (λ p l e. name_ends_on k p l e)
  where
    by : (f : Front) → char_at (b ∷ bs) ≡ f →
        ((p : List ℕ) → length p ≤ k → name 0 p ≡ Runs → NameEndsOn p) → NameEndsOn (b ∷ bs)
    by Part e go =
        let g = char_goes_on (b ∷ bs) e in
        let free = free_name g.c (part_high b bs g.more g.c (length ((b ∷ bs) ++ g.more)) e g.whole)
        in
        let l = length-append ((b ∷ bs) ++ g.more) (62 ∷ []) in
        record {
          more = g.more ++ 62 ∷ [];
          n = length ((b ∷ bs) ++ g.more) + 0;
          whole = ap (name 0) (sym (append_assoc (b ∷ bs) g.more (62 ∷ [])))
              ∙ name_all ((b ∷ bs) ++ g.more) (62 ∷ []) g.c g.whole free
              ∙ ap (behind_name (length ((b ∷ bs) ++ g.more))) angle_ends;
          size = let q = ap length (append_assoc (b ∷ bs) g.more (62 ∷ [])) in omega (arith, l, q);
        }
    by NotChar e go = absurd (let k : Breaks ≡ Runs = (rw e at h) in cc)
    by (Char c m) e go =
        let r = char_runs (b ∷ bs) c m e h in
        let s = char_size (b ∷ bs) c m e in
        let l = length-drop m (b ∷ bs) in
        let g = go (drop m (b ∷ bs)) (omega (arith, l, s.0, s.1, short)) r.1 in
        let whole : take m (b ∷ bs) ++ (drop m (b ∷ bs) ++ g.more) ≡ (b ∷ bs) ++ g.more =
        sym (append_assoc (take m (b ∷ bs)) (drop m (b ∷ bs)) g.more)
        ∙ ap (λ (q : List ℕ). q ++ g.more) (take-append-drop m (b ∷ bs)) in
        let i = length-append (drop m (b ∷ bs)) g.more in
        let j = length-append (b ∷ bs) g.more in
        let z = g.size in
        record {
          more = g.more;
          n = m + g.n;
          whole = ap (name 0) (sym whole)
              ∙ name_front (b ∷ bs) (drop m (b ∷ bs) ++ g.more) c m e r.0
              ∙ ap (behind_name m) g.whole;
          size = omega (arith, i, j, l, s.1, z);
        }

pub name_goes_on : (p : List ℕ) → name 0 p ≡ Runs → NameGoesOn p
name_goes_on [] h = record {
  more = 97 ∷ 62 ∷ [];
  n = 1;
  whole = letter_ends;
  some = omega arith;
  size = refl;
}
name_goes_on (b ∷ bs) h =
    let g = name_ends_on (length (b ∷ bs)) (b ∷ bs) (omega arith) h in
    let z = g.size in
    let l = length-append (b ∷ bs) g.more in
    let w = g.whole in
    record {
      more = g.more;
      n = g.n;
      whole = g.whole;
      some = some_more b bs g.more g.n h g.whole z;
      size = g.size;
    }
  where
    -- it ends behind what is there
    some_more : (b : ℕ) (bs more : List ℕ) (n : ℕ) → name 0 (b ∷ bs) ≡ Runs →
        name 0 ((b ∷ bs) ++ more) ≡ Stops n 62 → n + 1 ≡ length ((b ∷ bs) ++ more) → 0 < n
    some_more b bs [] n h w z = absurd (let k : Runs ≡ Stops n 62 =
        sym h ∙ ap (name 0) (sym (append-nil (b ∷ bs))) ∙ w in cc)
    some_more b bs (a ∷ more) n h w z =
        let l = length-append (b ∷ bs) (a ∷ more) in omega (arith, z, l)

-- a symbol

pub record SignGoesOn (surface : Bool) (p : List ℕ) : Type 0 where
  pub more : List ℕ
  pub symbol : Symbol
  pub whole : sign surface (p ++ more) ≡ Reads symbol (length (p ++ more))

letter_read : (surface : Bool) (x : List ℕ) → sign surface (97 ∷ x) ≡ Reads (symbol.Letter 97) 1
unfolding sign char_at
letter_read true x = refl
letter_read false x = refl

-- a character that isn't ASCII is a letter in every word
high_reads : (surface : Bool) (c n : ℕ) → 128 ≤ c →
    (s : Symbol) × (of_bare surface (Char c n) ≡ Reads s n)
high_reads surface c n h = (
  bare_of surface c,
  rw (
    apart c 47 h (omega arith),
    apart c 36 h (omega arith),
    apart c 123 h (omega arith),
    apart c 94 h (omega arith),
    apart c 62 h (omega arith),
    apart c 125 h (omega arith),
    apart c 91 h (omega arith),
    apart c 93 h (omega arith),
    apart c 60 h (omega arith),
    apart c 64 h (omega arith),
  ) (by _ surface),
)
  where
    by : (s : Symbol) (v : Bool) → cond (v && false) (Bars Stray) (Reads s n) ≡ Reads s n
    by s true = refl
    by s false = refl

pub sign_goes_on : (surface : Bool) (p : List ℕ) → sign surface p ≡ Awaits → SignGoesOn surface p
unfolding sign
sign_goes_on surface [] h =
    record { more = 97 ∷ []; symbol = symbol.Letter 97; whole = letter_read surface [] }
sign_goes_on surface (b ∷ bs) h = by_escape (eqb b 92) refl h
  where
    escaped : b ≡ 92 → (f : Front) → char_at bs ≡ f → of_escape f ≡ Awaits →
        SignGoesOn surface (b ∷ bs)
    escaped is Part e h =
        let g = char_goes_on bs e in
        let size : 1 + length (bs ++ g.more) ≡ length ((b ∷ bs) ++ g.more) = omega arith in
        record {
          more = g.more;
          symbol = escaped_symbol g.c;
          whole = ap (λ q. sign surface (q ∷ (bs ++ g.more))) is
              ∙ ap (λ (q : List ℕ). sign surface (92 ∷ q)) (sym (append-nil (bs ++ g.more)))
              ∙ sign_escape surface (bs ++ g.more) [] (Char g.c (length (bs ++ g.more)))
              (ap char_at (append-nil (bs ++ g.more)) ∙ g.whole) ∙ ap (Reads (escaped_symbol g.c)) size;
        }
    escaped is NotChar e h = absurd (cc)
    escaped is (Char c n) e h = absurd (cc)

    unset : (v : Bool) → not v ≡ true → v ≡ false
    unset true h = absurd (cc)
    unset false h = refl

    named : begins_tag surface b ≡ true → (r : Name) → name 0 bs ≡ r → of_name bs r ≡ Awaits →
        SignGoesOn surface (b ∷ bs)
    named t Runs e h =
        let p = and_parts (eqb b 60) (not surface) t in
        let g = name_goes_on bs e in
        let full : eqb g.n 0 ≡ false = ne_eqb g.n 0 (λ z. let s = g.some in omega (arith, z, s)) in
        let size : 2 + g.n ≡ length ((b ∷ bs) ++ g.more) =
        let z = g.size in omega (arith, z) in
        record {
          more = g.more;
          symbol = symbol.Tag (take g.n (bs ++ g.more));
          whole = ap (λ v. sign v (b ∷ (bs ++ g.more))) (unset surface p.1)
              ∙ ap (λ q. sign false (q ∷ (bs ++ g.more))) (eqb-true b 60 p.0)
              ∙ sign_tag (bs ++ g.more) (Stops g.n 62) g.whole ∙ rw full
              (ap (Reads (symbol.Tag (take g.n (bs ++ g.more)))) size);
        }
    named t Breaks e h = absurd (cc)
    named t (Stops n c) e h = absurd (stopped (eqb c 62 && not (eqb n 0)) h)
      where
        stopped : (v : Bool) → cond v (Reads (symbol.Tag (take n bs)) (2 + n)) (Bars BadTag)
            ≡ Awaits → ⊥
        stopped true h = cc
        stopped false h = cc

    bare : (f : Front) → char_at (b ∷ bs) ≡ f → of_bare surface f ≡ Awaits →
        SignGoesOn surface (b ∷ bs)
    bare Part e h =
        let g = char_goes_on (b ∷ bs) e in
        let high : 128 ≤ g.c =
        part_high b bs g.more g.c (length ((b ∷ bs) ++ g.more)) e g.whole in
        let first : 128 ≤ b = part_byte b bs e in
        let r = high_reads surface g.c (length ((b ∷ bs) ++ g.more)) high in
        record {
          more = g.more;
          symbol = r.0;
          whole = ap (sign surface) (sym (append-nil ((b ∷ bs) ++ g.more)))
              ∙ sign_bare surface ((b ∷ bs) ++ g.more) []
              (Char g.c (length ((b ∷ bs) ++ g.more))) (omega arith)
              (apart b 92 first (omega arith)) (λ _. apart b 60 first (omega arith))
              (ap char_at (append-nil ((b ∷ bs) ++ g.more)) ∙ g.whole) ∙ r.1;
        }
    bare NotChar e h = absurd (cc)
    bare (Char c n) e h =
        absurd (by (eqb c 47) (eqb c 36) (eqb c 123) (is_barred surface c) h)
      where
        by : (u v w z : Bool) → cond u Slash (cond v Dollar (cond w Brace
            (cond z (Bars Stray) (Reads (bare_of surface c) n)))) ≡ Awaits → ⊥
        by true v w z h = cc
        by false true w z h = cc
        by false false true z h = cc
        by false false false true h = cc
        by false false false false h = cc

    by_tag : (v : Bool) → begins_tag surface b ≡ v →
        cond v (of_name bs (name 0 bs)) (of_bare surface (char_at (b ∷ bs))) ≡ Awaits →
        SignGoesOn surface (b ∷ bs)
    by_tag true e h = named e (name 0 bs) refl h
    by_tag false e h = bare (char_at (b ∷ bs)) refl h

    by_escape : (v : Bool) → eqb b 92 ≡ v → cond v (of_escape (char_at bs))
        (cond (begins_tag surface b) (of_name bs (name 0 bs))
        (of_bare surface (char_at (b ∷ bs)))) ≡ Awaits → SignGoesOn surface (b ∷ bs)
    by_escape true e h = escaped (eqb-true b 92 e) (char_at bs) refl h
    by_escape false e h = by_tag (begins_tag surface b) refl h

-- the rest of a unit, or of a chunk's name

pub record RestGoesOn (form : Form) (words : List (List Symbol)) (word : List Symbol) (bs : List ℕ)
    : Type 0 where
  pub more : List ℕ
  pub all : List (List Symbol)
  pub whole : rest form words word 0 (bs ++ more) ≡ Ends all (length (bs ++ more))

may_go : (several part : Bool) (r u v : Rest) → several ≡ true → part ≡ true →
    cond several (cond part r u) v ≡ r
may_go several part r u v e f = rw (e, f) refl

module _ (form : Form) where
  -- a letter more
  with_letter : (words : List (List Symbol)) (word : List Symbol) →
      ((w : List Symbol) → is_none w ≡ false → RestGoesOn form words w []) →
      RestGoesOn form words word []
  with_letter words word go =
      let g = go (word ++ symbol.Letter 97 ∷ []) (none_more word) in
      record {
        more = 97 ∷ g.more;
        all = g.all;
        whole = rest_symbol form words word (97 ∷ []) g.more (symbol.Letter 97) (omega arith)
            (letter_read (in_surface form words) g.more) ∙ ap (longer 1) g.whole
            ∙ ap (Ends g.all) (omega arith);
      }
    where
      none_more : (w : List Symbol) → is_none (w ++ symbol.Letter 97 ∷ []) ≡ false
      none_more [] = refl
      none_more (s ∷ w) = refl

  by_brace : (words : List (List Symbol)) (word : List Symbol) → form.braced ≡ true →
      RestGoesOn form words word []
  by_brace words word b = record {
    more = 123 ∷ [];
    all = words ++ word ∷ [];
    whole = rest_brace form words word [] ∙ rw b refl;
  }

  by_dollar : (words : List (List Symbol)) (word : List Symbol) →
      may_end form words word ≡ true → RestGoesOn form words word []
  by_dollar words word m = record {
    more = 36 ∷ [];
    all = words ++ word ∷ [];
    whole = rest_dollar form words word [] ∙ rw m refl;
  }

  by_slash : (words : List (List Symbol)) (word : List Symbol) → form.several ≡ true →
      may_part words word ≡ true → RestGoesOn form (words ++ word ∷ []) [] [] →
      RestGoesOn form words word []
  by_slash words word s m g = record {
    more = 47 ∷ g.more;
    all = g.all;
    whole = rest_slash form words word g.more
        ∙ may_go form.several (may_part words word) _ _ _ s m ∙ ap (longer 1) g.whole
        ∙ ap (Ends g.all) (omega arith);
  }

  alone : form.braced ≡ false → form.several ≡ false → (words : List (List Symbol))
      (word : List Symbol) → is_none word ≡ false → RestGoesOn form words word []
  alone b s words word n = by_dollar words word (rw (b, s, n) refl)

  behind_words : form.braced ≡ false → form.several ≡ true → (words : List (List Symbol))
      (word : List Symbol) → is_none words ≡ false → RestGoesOn form words word []
  behind_words b s words word n = by_dollar words word (rw (b, s, n) refl)

  first_word : form.braced ≡ false → form.several ≡ true → (word : List Symbol) →
      is_none word ≡ false → RestGoesOn form [] word []
  first_word b s word n =
      by_slash [] word s (rw n refl) (behind_words b s (word ∷ []) [] refl)

  end_on : (words : List (List Symbol)) (word : List Symbol) → RestGoesOn form words word []
  end_on words word = by form.braced form.several refl refl
    where
      if_letter : ((w : List Symbol) → is_none w ≡ false → RestGoesOn form words w []) →
          RestGoesOn form words word []
      if_letter go = with_letter words word go

      several : form.braced ≡ false → form.several ≡ true → (ws : List (List Symbol)) →
          words ≡ ws → RestGoesOn form words word []
      several b s [] e = subst (λ (q : List (List Symbol)). RestGoesOn form q word []) (sym e)
          (with_letter [] word (λ w n. first_word b s w n))
      several b s (w ∷ ws) e = behind_words b s words word (ap is_none e)

      by : (v w : Bool) → form.braced ≡ v → form.several ≡ w → RestGoesOn form words word []
      by true w b s = by_brace words word b
      by false true b s = several b s words refl
      by false false b s = if_letter (λ w n. alone b s words w n)

  lacks_longer : (n : ℕ) (r : Rest) → longer n r ≡ Lacks → r ≡ Lacks
  lacks_longer n Lacks h = refl
  lacks_longer n (Wrong kind) h = absurd (cc)
  lacks_longer n (Ends all m) h = absurd (cc)

  -- a symbol that has begun
  awaited : (words : List (List Symbol)) (word : List Symbol) (p : List ℕ) → 0 < length p →
      sign (in_surface form words) p ≡ Awaits → RestGoesOn form words word p
  awaited words word p some h =
      let g = sign_goes_on (in_surface form words) p h in
      let e = end_on words (word ++ g.symbol ∷ []) in
      let all : List ℕ = p ++ g.more in
      let l = length-append p g.more in
      let there : (x : List ℕ) → sign (in_surface form words) ((p ++ g.more) ++ x)
      ≡ Reads g.symbol (length (p ++ g.more)) =
      λ x. whole_on (in_surface form words) (p ++ g.more) x g.symbol g.whole
      (omega (arith, some, l)) in
      let size : length (p ++ g.more) + length e.more ≡ length (p ++ (g.more ++ e.more)) =
      let a = length-append (p ++ g.more) e.more in
      let b = ap length (append_assoc p g.more e.more) in omega (arith, a, b) in
      record {
        more = g.more ++ e.more;
        all = e.all;
        whole = ap (rest form words word 0) (sym (append_assoc p g.more e.more))
            ∙ rest_symbol form words word (p ++ g.more) e.more g.symbol
            (omega (arith, some, l)) (there e.more)
            ∙ ap (longer (length (p ++ g.more))) e.whole ∙ ap (Ends e.all) size;
      }
    where
      whole_on : (surface : Bool) (p x : List ℕ) (s : Symbol) →
          sign surface p ≡ Reads s (length p) → 0 < length p →
          sign surface (p ++ x) ≡ Reads s (length p)
      whole_on surface [] x s e some = absurd (omega (arith, some))
      whole_on surface (b ∷ bs) x s e some =
          ap (λ (q : List ℕ). sign surface (q ++ x))
          (sym (take_all (length (b ∷ bs)) (b ∷ bs) (omega arith)))
          ∙ (sign_cut_at surface b bs x s (length (b ∷ bs)) e).0

  pub rest_goes_on : (k : ℕ) (words : List (List Symbol)) (word : List Symbol) (bs : List ℕ) →
      length bs ≤ k → rest form words word 0 bs ≡ Lacks → RestGoesOn form words word bs
  unfolding rest
  rest_goes_on k words word [] short h = end_on words word
  rest_goes_on zero words word (b ∷ bs) short h = absurd (omega (arith, short))
  rest_goes_on (suc k) words word (b ∷ bs) short h =
      by (sign (in_surface form words) (b ∷ bs)) refl
      (sign_ends (in_surface form words) b bs) (λ ws w q l e. rest_goes_on k ws w q l e)
    where
      slash : b ≡ 47 → RestGoesOn form (words ++ word ∷ []) [] bs → form.several ≡ true →
          may_part words word ≡ true → RestGoesOn form words word (b ∷ bs)
      slash is g s m = record {
        more = g.more;
        all = g.all;
        whole = ap (λ q. rest form words word 0 (q ∷ (bs ++ g.more))) is
            ∙ rest_slash form words word (bs ++ g.more)
            ∙ may_go form.several (may_part words word) _ _ _ s m ∙ ap (longer 1) g.whole
            ∙ ap (Ends g.all) (omega arith);
      }

      slash_at : b ≡ 47 → (u v : Bool) → form.several ≡ u → may_part words word ≡ v →
          ((ws : List (List Symbol)) (w : List Symbol) (q : List ℕ) → length q ≤ k →
          rest form ws w 0 q ≡ Lacks → RestGoesOn form ws w q) →
          cond u (cond v (longer 1 (rest form (words ++ word ∷ []) [] 0 bs)) (Wrong EmptyWord))
          (Wrong Stray) ≡ Lacks → RestGoesOn form words word (b ∷ bs)
      slash_at is true true s m go h =
          slash is (go (words ++ word ∷ []) [] bs (omega (arith, short))
          (lacks_longer 1 (rest form (words ++ word ∷ []) [] 0 bs) h)) s m
      slash_at is true false s m go h = absurd (cc)
      slash_at is false v s m go h = absurd (cc)

      reads : (s : Symbol) (n : ℕ) → sign (in_surface form words) (b ∷ bs) ≡ Reads s n →
          ((ws : List (List Symbol)) (w : List Symbol) (q : List ℕ) → length q ≤ k →
          rest form ws w 0 q ≡ Lacks → RestGoesOn form ws w q) →
          RestGoesOn form words word (b ∷ bs)
      reads s n e go =
          let f = sign_cut_at (in_surface form words) b bs [] s n e in
          let l = length-drop n (b ∷ bs) in
          let left : rest form words (word ++ s ∷ []) 0 (drop n (b ∷ bs)) ≡ Lacks =
          lacks_longer n (rest form words (word ++ s ∷ []) 0 (drop n (b ∷ bs)))
          (sym (front_reads form words word (b ∷ bs) s n e f.1 (omega arith)) ∙ h) in
          let g = go words (word ++ s ∷ []) (drop n (b ∷ bs))
          (omega (arith, l, f.1, f.2, short)) left in
          let len : length (take n (b ∷ bs)) ≡ n = length-take-le n (b ∷ bs) f.2 in
          let tail : List ℕ = drop n (b ∷ bs) ++ g.more in
          let all : take n (b ∷ bs) ++ (drop n (b ∷ bs) ++ g.more) ≡ (b ∷ bs) ++ g.more =
          sym (append_assoc (take n (b ∷ bs)) (drop n (b ∷ bs)) g.more)
          ∙ ap (λ (q : List ℕ). q ++ g.more) (take-append-drop n (b ∷ bs)) in
          let there : sign (in_surface form words) (take n (b ∷ bs) ++ tail)
          ≡ Reads s (length (take n (b ∷ bs))) =
          (sign_cut_at (in_surface form words) b bs tail s n e).0 ∙ ap (Reads s) (sym len) in
          let size : length (take n (b ∷ bs)) + length (drop n (b ∷ bs) ++ g.more)
          ≡ length ((b ∷ bs) ++ g.more) =
          sym (length-append (take n (b ∷ bs)) (drop n (b ∷ bs) ++ g.more)) ∙ ap length all in
          record {
            more = g.more;
            all = g.all;
            whole = ap (rest form words word 0) (sym all)
                ∙ rest_symbol form words word (take n (b ∷ bs)) tail s (omega (arith, len, f.1))
                there ∙ ap (longer (length (take n (b ∷ bs)))) g.whole ∙ ap (Ends g.all) size;
          }

      dollar : (v : Bool) → cond v (Ends (words ++ word ∷ []) 1) (Wrong (early form)) ≡ Lacks → ⊥
      dollar true h = cc
      dollar false h = cc

      brace : (v : Bool) → cond v (Ends (words ++ word ∷ []) 1) (Wrong Stray) ≡ Lacks → ⊥
      brace true h = cc
      brace false h = cc

      by : (s : Sign) → sign (in_surface form words) (b ∷ bs) ≡ s → EndsIn b s →
          ((ws : List (List Symbol)) (w : List Symbol) (q : List ℕ) → length q ≤ k →
          rest form ws w 0 q ≡ Lacks → RestGoesOn form ws w q) →
          RestGoesOn form words word (b ∷ bs)
      by Awaits e i go = awaited words word (b ∷ bs) (omega arith) e
      by (Bars kind) e i go = absurd (let z : Wrong kind ≡ Lacks = (rw e at h) in cc)
      by (Reads s n) e i go = reads s n e go
      by Slash e i go = slash_at i form.several (may_part words word) refl refl go (rw e at h)
      by Dollar e i go = absurd (dollar (may_end form words word) (rw e at h))
      by Brace e i go = absurd (brace form.braced (rw e at h))
