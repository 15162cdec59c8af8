use Rattle.std.proofs.Common.{◌≡◌, ℕ, ◌<◌, Bool, true, false, cond, eqb, ◌==◌, ◌||◌, not, List, [], ◌∷◌, ◌++◌, length, get_or, refl, ap, sym, subst, append_assoc, length-append, arith, ◌∙◌, drop, inl, inr}
use Rattle.std.proofs.Math.Utf8.{encode}
use Rattle.std.proofs.lemmas.Str.{encode_same, char_from_byte, length-encode, len_utf8_bounds}
use Rattle.std.proofs.lemmas.Bool.{ne_eqb, and_parts, true≢false, cases_lt, not-true}
use Rattle.std.specs.List.{list_any, list_all}
use Rattle.ap_symbol.specs.declared.symbol.Symbol.{Symbol}
use Rattle.ap_symbol.specs.declared.symbol.Symbol.TheVariants.{Letter, Tag, Blank, Join, Queue, Alarm, Star, At}
use Rattle.ap_symbol.specs.TagNames.{is_reserved_lem, is_tag_name}
use Rattle.ap_symbol.specs.Rendering.{is_escaped_lem, tag_bytes, symbol_bytes, rendering}
use Rattle.ap_symbol.specs.Words.{is_white, is_proper, AreProper}

or-false : (x y : Bool) → (x || y) ≡ false → (x ≡ false) × (y ≡ false)
or-false true y e = absurd (true≢false e)
or-false false y e = (refl, e)

-- what a symbol's first byte tells of it
abbrev shape : ℕ → ℕ
shape b = cond (eqb b 60) 1
    (cond (eqb b 32) 2 (cond (eqb b 43) 3
    (cond (eqb b 35) 4 (cond (eqb b 126) 5 (cond (eqb b 42) 6 (cond (eqb b 64) 7 0))))))

abbrev shape_of : Symbol → ℕ
shape_of (Letter c) = 0
shape_of (Tag name) = 1
shape_of Blank = 2
shape_of Join = 3
shape_of Queue = 4
shape_of Alarm = 5
shape_of Star = 6
shape_of At = 7

shape-zero : (b : ℕ) → (b ≡ 60 → ⊥) → (b ≡ 32 → ⊥) → (b ≡ 43 → ⊥) → (b ≡ 35 → ⊥) → (b ≡ 126 → ⊥) →
    (b ≡ 42 → ⊥) → (b ≡ 64 → ⊥) → shape b ≡ 0
shape-zero b h1 h2 h3 h4 h5 h6 h7 =
    rw (
      ne_eqb b 60 h1,
      ne_eqb b 32 h2,
      ne_eqb b 43 h3,
      ne_eqb b 35 h4,
      ne_eqb b 126 h5,
      ne_eqb b 42 h6,
      ne_eqb b 64 h7,
    ) refl

-- a letter that is neither escaped nor white space has the shape of a letter
shape-plain : (c : ℕ) → is_escaped_lem c ≡ false → is_white c ≡ false → shape c ≡ 0
shape-plain c plain visible = shape-zero c
    (λ e. true≢false (subst (λ (n : ℕ). is_escaped_lem n ≡ false) e plain))
    (λ e. true≢false (subst (λ (n : ℕ). is_white n ≡ false) e visible))
    (λ e. true≢false (subst (λ (n : ℕ). is_escaped_lem n ≡ false) e plain))
    (λ e. true≢false (subst (λ (n : ℕ). is_escaped_lem n ≡ false) e plain))
    (λ e. true≢false (subst (λ (n : ℕ). is_escaped_lem n ≡ false) e plain))
    (λ e. true≢false (subst (λ (n : ℕ). is_escaped_lem n ≡ false) e plain))
    (λ e. true≢false (subst (λ (n : ℕ). is_escaped_lem n ≡ false) e plain))

encode-some : (c : ℕ) (r : List ℕ) → 0 < length (encode c ++ r)
encode-some c r = omega (arith, length-append (encode c) r, length-encode c, len_utf8_bounds c)

shape-encode : (c : ℕ) (r : List ℕ) → is_escaped_lem c ≡ false → is_white c ≡ false →
    shape (get_or (encode c ++ r) 0 0) ≡ 0
shape-encode c r plain visible = elim (cases_lt (get_or (encode c ++ r) 0 0) 128) [
  | inl ascii ↦ subst (λ (n : ℕ). shape n ≡ 0)
      (char_from_byte (encode c ++ r) r c refl ascii (encode-some c r))
      (shape-plain c plain visible)
  | inr wide ↦ shape-zero (get_or (encode c ++ r) 0 0) (λ e. absurd (omega arith))
      (λ e. absurd (omega arith)) (λ e. absurd (omega arith)) (λ e. absurd (omega arith))
      (λ e. absurd (omega arith)) (λ e. absurd (omega arith)) (λ e. absurd (omega arith))
]

shape-letter : (p : Bool) (c : ℕ) (r : List ℕ) → is_escaped_lem c ≡ p → is_white c ≡ false →
    shape (get_or (cond p (92 ∷ encode c) (encode c) ++ r) 0 0) ≡ 0
shape-letter true c r escaped visible = refl
shape-letter false c r plain visible = shape-encode c r plain visible

shape-symbol : (s : Symbol) (r : List ℕ) → is_proper s ≡ true →
    shape (get_or (symbol_bytes s ++ r) 0 0) ≡ shape_of s
shape-symbol (Letter c) r proper =
    shape-letter (is_escaped_lem c) c r refl
    (not-true (is_white c) ((and_parts (not (is_white c)) true proper).0))
shape-symbol (Tag name) r proper = refl
shape-symbol Blank r proper = refl
shape-symbol Join r proper = refl
shape-symbol Queue r proper = refl
shape-symbol Alarm r proper = refl
shape-symbol Star r proper = refl
shape-symbol At r proper = refl

-- the backslash before an escaped letter begins no other letter
escape-alone : (d : ℕ) (r t : List ℕ) → is_escaped_lem d ≡ false → 92 ∷ r ≡ encode d ++ t → ⊥
escape-alone d r t plain e =
    let first : get_or (encode d ++ t) 0 0 ≡ 92 = ap (λ (l : List ℕ). get_or l 0 0) (sym e) in
    let letter : d ≡ 92 = char_from_byte (encode d ++ t) t d refl (omega arith)
    (encode-some d t) ∙ first in
    true≢false (subst (λ (n : ℕ). is_escaped_lem n ≡ false) letter plain)

letters-same : (p q : Bool) (c d : ℕ) (r t : List ℕ) → is_escaped_lem c ≡ p → is_escaped_lem d ≡ q
    → cond p (92 ∷ encode c) (encode c) ++ r ≡ cond q (92 ∷ encode d) (encode d) ++ t →
    (c ≡ d) × (r ≡ t)
letters-same true true c d r t hc hd e = encode_same c d r t (ap (λ (l : List ℕ). drop 1 l) e)
letters-same true false c d r t hc hd e = absurd (escape-alone d (encode c ++ r) t hd e)
letters-same false true c d r t hc hd e = absurd (escape-alone c (encode d ++ t) r hc (sym e))
letters-same false false c d r t hc hd e = encode_same c d r t e

-- a tag's name ends before the first `>`
names-same : (a b r t : List ℕ) → list_any is_reserved_lem a ≡ false →
    list_any is_reserved_lem b ≡ false
    → a ++ 62 ∷ r ≡ b ++ 62 ∷ t → (a ≡ b) × (r ≡ t)
names-same [] [] r t ha hb e = (refl, ap (λ (l : List ℕ). drop 1 l) e)
names-same [] (y ∷ b) r t ha hb e =
    let first : y ≡ 62 = ap (λ (l : List ℕ). get_or l 0 0) (sym e) in
    absurd (true≢false (subst (λ (n : ℕ). is_reserved_lem n ≡ false) first
    ((or-false (is_reserved_lem y) (list_any is_reserved_lem b) hb).0)))
names-same (x ∷ a) [] r t ha hb e =
    let first : x ≡ 62 = ap (λ (l : List ℕ). get_or l 0 0) e in
    absurd (true≢false (subst (λ (n : ℕ). is_reserved_lem n ≡ false) first
    ((or-false (is_reserved_lem x) (list_any is_reserved_lem a) ha).0)))
names-same (x ∷ a) (y ∷ b) r t ha hb e =
    let tails : a ++ 62 ∷ r ≡ b ++ 62 ∷ t = ap (λ (l : List ℕ). drop 1 l) e in
    let first : x ≡ y = ap (λ (l : List ℕ). get_or l 0 0) e in
    let rest = names-same a b r t ((or-false (is_reserved_lem x) (list_any is_reserved_lem a) ha).1)
    ((or-false (is_reserved_lem y) (list_any is_reserved_lem b) hb).1) tails in
    (ap (λ z. z ∷ a) first ∙ ap (λ l. y ∷ l) rest.0, rest.1)

named-free : (name : List ℕ) → is_proper (Tag name) ≡ true → list_any is_reserved_lem name ≡ false
named-free name proper =
    let named : is_tag_name name ≡ true = (and_parts true (is_tag_name name) proper).1 in
    not-true (list_any is_reserved_lem name)
    ((and_parts (not (length name == 0)) (not (list_any is_reserved_lem name)) named).1)

tags-same : (a b r t : List ℕ) → list_any is_reserved_lem a ≡ false →
    list_any is_reserved_lem b ≡ false
    → tag_bytes a ++ r ≡ tag_bytes b ++ t → (Tag a ≡ Tag b) × (r ≡ t)
tags-same a b r t ha hb e =
    let inner : (a ++ 62 ∷ []) ++ r ≡ (b ++ 62 ∷ []) ++ t = ap (λ (l : List ℕ). drop 1 l) e in
    let both : a ++ 62 ∷ r ≡ b ++ 62 ∷ t = sym (append_assoc a (62 ∷ []) r) ∙ inner
    ∙ append_assoc b (62 ∷ []) t in
    let same = names-same a b r t ha hb both in
    (ap Tag same.0, same.1)

-- equal bytes begin with equal symbols
symbols-same : (s t : Symbol) (r u : List ℕ) → is_proper s ≡ true → is_proper t ≡ true →
    shape_of s ≡ shape_of t
    → symbol_bytes s ++ r ≡ symbol_bytes t ++ u → (s ≡ t) × (r ≡ u)
symbols-same (Letter c) (Letter d) r u hs ht k e = let same =
    letters-same (is_escaped_lem c) (is_escaped_lem d) c d r u refl refl e in
    (ap Letter same.0, same.1)
symbols-same (Tag a) (Tag b) r u hs ht k e = tags-same a b r u (named-free a hs) (named-free b ht) e
symbols-same Blank Blank r u hs ht k e = (refl, ap (λ (l : List ℕ). drop 1 l) e)
symbols-same Join Join r u hs ht k e = (refl, ap (λ (l : List ℕ). drop 1 l) e)
symbols-same Queue Queue r u hs ht k e = (refl, ap (λ (l : List ℕ). drop 1 l) e)
symbols-same Alarm Alarm r u hs ht k e = (refl, ap (λ (l : List ℕ). drop 1 l) e)
symbols-same Star Star r u hs ht k e = (refl, ap (λ (l : List ℕ). drop 1 l) e)
symbols-same At At r u hs ht k e = (refl, ap (λ (l : List ℕ). drop 1 l) e)
symbols-same s t r u hs ht k e = absurd (omega arith)

letter-some : (p : Bool) (c : ℕ) (r : List ℕ) → 0 < length (cond p (92 ∷ encode c) (encode c) ++ r)
letter-some true c r = omega arith
letter-some false c r = encode-some c r

symbol-some : (s : Symbol) (r : List ℕ) → 0 < length (symbol_bytes s ++ r)
symbol-some (Letter c) r = letter-some (is_escaped_lem c) c r
symbol-some (Tag name) r = omega arith
symbol-some Blank r = omega arith
symbol-some Join r = omega arith
symbol-some Queue r = omega arith
symbol-some Alarm r = omega arith
symbol-some Star r = omega arith
symbol-some At r = omega arith

-- words with equal bytes are equal
pub one-rendering : (a b : List Symbol) → AreProper a → AreProper b →
    rendering a ≡ rendering b → a ≡ b
one-rendering [] [] ha hb e = refl
one-rendering [] (t ∷ b) ha hb e = absurd (omega (arith, symbol-some t (rendering b), ap length e))
one-rendering (s ∷ a) [] ha hb e = absurd (omega (arith, symbol-some s (rendering a), ap length e))
one-rendering (s ∷ a) (t ∷ b) ha hb e =
    let hs = and_parts (is_proper s) (list_all is_proper a) ha in
    let ht = and_parts (is_proper t) (list_all is_proper b) hb in
    let kinds : shape_of s ≡ shape_of t = sym (shape-symbol s (rendering a) hs.0)
    ∙ ap (λ (l : List ℕ). shape (get_or l 0 0)) e ∙ shape-symbol t (rendering b) ht.0 in
    let same = symbols-same s t (rendering a) (rendering b) hs.0 ht.0 kinds e in
    ap (λ z. z ∷ a) same.0 ∙ ap (λ l. t ∷ l) (one-rendering a b hs.1 ht.1 same.1)
