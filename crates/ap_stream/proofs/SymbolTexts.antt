-- The bytes of a symbol, by the notation, are those that a reader takes for it.
use Rattle.std.specs.Prelude.{◌≡◌, ℕ, suc, ◌+◌, ◌<◌, List, [], ◌∷◌, ◌++◌, drop, take, length, Bool, true, false, cond, eqb, ◌&&◌, ◌||◌, not, refl, encode_utf8}
use Rattle.std.proofs.Common.{arith, ap, sym, subst, ◌∙◌}
use Rattle.std.proofs.lemmas.Bool.{eqb-true, and_parts, ne_eqb}
use Rattle.std.proofs.lemmas.Bool.Decides.{nat_tests}
use Rattle.std.proofs.Math.Seq.{take-add}
use Rattle.ap_symbol.specs.TextWord.{escaped_symbol}
use Rattle.ap_symbol.specs.declared.symbol.Symbol.{Symbol}
use Rattle.ap_symbol.specs.declared.symbol.Symbol.TheVariants as symbol
use Rattle.ap_stream.specs.declared.fault.MalformedKind.TheVariants.{Stray, BadTag}
use Rattle.ap_stream.specs.Chars.{Front, Part, NotChar, Char, char_at}
use Rattle.ap_stream.specs.Notation.{must_be_escaped, bare_in, IsSymbolText, bare_character, escaped_character, named_tag}
use Rattle.ap_stream.specs.Units.{Name, Runs, Breaks, Stops, name, Sign, Awaits, Bars, Reads, Slash, Dollar, Brace, sign, of_bare, of_name, of_escape, bare_of, is_barred, begins_tag}
use Rattle.ap_stream.proofs.UnitLaws.{sign_bare, sign_escape}
use Rattle.ap_stream.proofs.Back.{char_back, some_bytes, not_first, tag_sign}
use Rattle.ap_stream.proofs.Cut.{char_bytes, char_code, first_byte}
use Rattle.ap_stream.proofs.WordsRead.{NameIs, named_by}

-- a character that stands bare in a word

neither : (a b : Bool) → (a || b) ≡ false → (a ≡ false) × (b ≡ false)
neither true b h = absurd (cc)
neither false b h = (refl, h)

record IsFree (surface : Bool) (c : ℕ) : Type 0 where
  caret : eqb c 94 ≡ false
  dollar : eqb c 36 ≡ false
  slash : eqb c 47 ≡ false
  open_angle : eqb c 60 ≡ false
  angle : eqb c 62 ≡ false
  open_brace : eqb c 123 ≡ false
  brace : eqb c 125 ≡ false
  open_bracket : eqb c 91 ≡ false
  bracket : eqb c 93 ≡ false
  escape : eqb c 92 ≡ false
  at : (surface && eqb c 64) ≡ false

free_of : (surface : Bool) (c : ℕ) → must_be_escaped surface c ≡ false → IsFree surface c
free_of surface c h =
    let a = neither (eqb c 94) _ h in
    let b = neither (eqb c 36) _ a.1 in
    let d = neither (eqb c 47) _ b.1 in
    let e = neither (eqb c 60) _ d.1 in
    let f = neither (eqb c 62) _ e.1 in
    let g = neither (eqb c 123) _ f.1 in
    let i = neither (eqb c 125) _ g.1 in
    let j = neither (eqb c 91) _ i.1 in
    let k = neither (eqb c 93) _ j.1 in
    let l = neither (eqb c 92) _ k.1 in
    record {
      caret = a.0;
      dollar = b.0;
      slash = d.0;
      open_angle = e.0;
      angle = f.0;
      open_brace = g.0;
      brace = i.0;
      open_bracket = j.0;
      bracket = k.0;
      escape = l.0;
      at = l.1;
    }

free_escape : (surface : Bool) (c : ℕ) → IsFree surface c → must_be_escaped surface c ≡ false
free_escape surface c f = rw (
  f.caret,
  f.dollar,
  f.slash,
  f.open_angle,
  f.angle,
  f.open_brace,
  f.brace,
  f.open_bracket,
  f.bracket,
  f.escape,
) f.at

free_reads : (surface : Bool) (c n : ℕ) → IsFree surface c →
    of_bare surface (Char c n) ≡ Reads (bare_in surface c) n
free_reads true c n f =
    let at : eqb c 64 ≡ false = f.at in
    rw (
      f.slash,
      f.dollar,
      f.open_brace,
      f.caret,
      f.angle,
      f.brace,
      f.open_bracket,
      f.bracket,
      f.open_angle,
      at,
    ) refl
free_reads false c n f = rw (
  f.slash,
  f.dollar,
  f.open_brace,
  f.caret,
  f.angle,
  f.brace,
  f.open_bracket,
  f.bracket,
) refl

bare_same : (surface : Bool) (c : ℕ) → bare_of surface c ≡ bare_in surface c
bare_same true c = refl
bare_same false c = refl

-- the bytes of a symbol are read as it, whatever follows

pub text_some : (surface : Bool) (s : Symbol) (p : List ℕ) → IsSymbolText surface s p → 0 < length p
text_some surface s p (bare_character c code free is e) =
    subst (λ (q : List ℕ). 0 < length q) (sym e) (some_bytes c [] code)
text_some surface s p (escaped_character c code is e) =
    subst (λ (q : List ℕ). 0 < length q) (sym e) (omega arith)
text_some surface s p (named_tag name bare named is e) =
    subst (λ (q : List ℕ). 0 < length q) (sym e) (omega arith)

as_text : (surface : Bool) (s t : Symbol) (p q x : List ℕ) → s ≡ t → p ≡ q →
    sign surface (q ++ x) ≡ Reads t (length q) → sign surface (p ++ x) ≡ Reads s (length p)
as_text surface s t p q x e f h = ap (λ (z : List ℕ). sign surface (z ++ x)) f ∙ h
    ∙ ap (Reads t) (ap length (sym f)) ∙ ap (λ z. Reads z (length p)) (sym e)

pub text_sign : (surface : Bool) (s : Symbol) (p x : List ℕ) → IsSymbolText surface s p →
    sign surface (p ++ x) ≡ Reads s (length p)
text_sign surface s p x (bare_character c code free is e) =
    let f = free_of surface c free in
    as_text surface s (bare_in surface c) p (encode_utf8 c) x is e
    (sign_bare surface (encode_utf8 c) x (Char c (length (encode_utf8 c))) (some_bytes c [] code)
    (not_first c 92 code (omega arith) f.escape)
    (λ _. not_first c 60 code (omega arith) f.open_angle) (char_back c x code)
    ∙ free_reads surface c (length (encode_utf8 c)) f)
text_sign surface s p x (escaped_character c code is e) =
    as_text surface s (escaped_symbol c) p (92 ∷ encode_utf8 c) x is e
    (sign_escape surface (encode_utf8 c) x (Char c (length (encode_utf8 c))) (char_back c x code)
    ∙ ap (Reads (escaped_symbol c)) (omega arith))
text_sign surface s p x (named_tag name bare named is e) =
    let tag : sign false ((60 ∷ (name ++ 62 ∷ [])) ++ x)
    ≡ Reads (symbol.Tag name) (length (60 ∷ (name ++ 62 ∷ []))) =
    subst (λ (q : List ℕ). sign false ((60 ∷ (q ++ 62 ∷ [])) ++ x)
    ≡ Reads (symbol.Tag q) (length (60 ∷ (q ++ 62 ∷ [])))) (sym named.1)
    (tag_sign named.0 x named.2 named.3) in
    as_text surface s (symbol.Tag name) p (60 ∷ (name ++ 62 ∷ [])) x is e
    (ap (λ v. sign v ((60 ∷ (name ++ 62 ∷ [])) ++ x)) bare ∙ tag)

-- what is read of a symbol are its bytes

abbrev SignText : Bool → List ℕ → Sign → Type 0
SignText surface bs Awaits = Unit {0}
SignText surface bs (Bars kind) = Unit {0}
SignText surface bs (Reads s n) = IsSymbolText surface s (take n bs)
SignText surface bs Slash = Unit {0}
SignText surface bs Dollar = Unit {0}
SignText surface bs Brace = Unit {0}

text_cond : (surface : Bool) (bs : List ℕ) (v : Bool) (s t : Sign) →
    (v ≡ true → SignText surface bs s) → (v ≡ false → SignText surface bs t) →
    SignText surface bs (cond v s t)
text_cond surface bs true s t h k = h refl
text_cond surface bs false s t h k = k refl

text_escape : (surface : Bool) (b : ℕ) (bs : List ℕ) (f : Front) → b ≡ 92 → char_at bs ≡ f →
    SignText surface (b ∷ bs) (of_escape f)
text_escape surface b bs Part is e = tt
text_escape surface b bs NotChar is e = tt
text_escape surface b bs (Char c n) is e =
    let grown : 1 + n ≡ suc n = omega arith in
    escaped_character c (char_code bs c n e) refl
    (ap (λ q. take q (b ∷ bs)) grown ∙ ap (λ q. q ∷ take n bs) is
    ∙ ap (λ (q : List ℕ). 92 ∷ q) (sym (char_bytes bs c n e)))

-- behind the name stands >
angle_there : (bs : List ℕ) (n size : ℕ) → char_at (drop n bs) ≡ Char 62 size →
    take (2 + n) (60 ∷ bs) ≡ 60 ∷ (take n bs ++ 62 ∷ [])
unfolding char_at
angle_there bs n size e =
    let grown : 2 + n ≡ suc (n + 1) = omega arith in
    ap (λ q. take q (60 ∷ bs)) grown ∙ ap (λ (q : List ℕ). 60 ∷ q) (take-add n 1 bs
    ∙ ap (λ (q : List ℕ). take n bs ++ q) (by (drop n bs) e))
  where
    by : (q : List ℕ) → char_at q ≡ Char 62 size → take 1 q ≡ 62 ∷ []
    by [] e = absurd (cc)
    by (b ∷ q) e = ap (λ z. z ∷ []) (first_byte b q 62 size e (omega arith)).0

text_name : (surface : Bool) (b : ℕ) (bs : List ℕ) (r : Name) → b ≡ 60 → surface ≡ false →
    NameIs bs r → SignText surface (b ∷ bs) (of_name bs r)
text_name surface b bs Runs is u h = tt
text_name surface b bs Breaks is u h = tt
text_name surface b bs (Stops n c) is u h =
    text_cond surface (b ∷ bs) (eqb c 62 && not (eqb n 0)) (Reads (symbol.Tag (take n bs)) (2 + n))
    (Bars BadTag) (λ t. by (and_parts (eqb c 62) (not (eqb n 0)) t)) (λ _. tt)
  where
    positive : (n : ℕ) → not (eqb n 0) ≡ true → 0 < n
    positive n e = grind (arith, nat_tests, e)

    by : (eqb c 62 ≡ true) × (not (eqb n 0) ≡ true) →
        IsSymbolText surface (symbol.Tag (take n bs)) (take (2 + n) (b ∷ bs))
    by p = named_tag (take n bs) u (h.characters, h.is, h.named, h.some (positive n p.1)) refl
        (ap (λ q. take (2 + n) (q ∷ bs)) is ∙ angle_there bs n h.size
        (h.ends ∙ ap (λ z. Char z h.size) (eqb-true c 62 p.0)))

module _ (b : ℕ) (bs : List ℕ) (c n : ℕ) (e : char_at (b ∷ bs) ≡ Char c n) where
  -- a test of a byte below 128 says of a character what it says of its first byte
  differs : (d : ℕ) → d < 128 → eqb b d ≡ false → eqb c d ≡ false
  differs d small u = ne_eqb c d (λ is. let k = (first_byte b bs c n e (omega (arith, is, small))).0
      in let same : b ≡ d = k ∙ is in let t : eqb b d ≡ true = grind (arith, nat_tests, same) in
      absurd (cc))

  unopened : (surface : Bool) → begins_tag surface b ≡ false →
      (surface && (eqb c 60 || eqb c 64)) ≡ false →
      (eqb c 60 ≡ false) × ((surface && eqb c 64) ≡ false)
  unopened true u v = neither (eqb c 60) (eqb c 64) v
  unopened false u v = (differs 60 (omega arith) (and_true (eqb b 60) u), refl)
    where
      and_true : (v : Bool) → (v && true) ≡ false → v ≡ false
      and_true true h = h
      and_true false h = refl

  barred_free : (surface : Bool) → eqb b 92 ≡ false → begins_tag surface b ≡ false →
      eqb c 47 ≡ false → eqb c 36 ≡ false → eqb c 123 ≡ false → is_barred surface c ≡ false →
      IsFree surface c
  barred_free surface u v slash dollar brace barred =
      let i = neither (eqb c 94) _ barred in
      let j = neither (eqb c 62) _ i.1 in
      let k = neither (eqb c 125) _ j.1 in
      let l = neither (eqb c 91) _ k.1 in
      let m = neither (eqb c 93) _ l.1 in
      let o = unopened surface v m.1 in
      record {
        caret = i.0;
        dollar = dollar;
        slash = slash;
        open_angle = o.0;
        angle = j.0;
        open_brace = brace;
        brace = k.0;
        open_bracket = l.0;
        bracket = m.0;
        escape = differs 92 (omega arith) u;
        at = o.1;
      }

text_bare : (surface : Bool) (b : ℕ) (bs : List ℕ) (f : Front) → eqb b 92 ≡ false →
    begins_tag surface b ≡ false → char_at (b ∷ bs) ≡ f →
    SignText surface (b ∷ bs) (of_bare surface f)
text_bare surface b bs Part u v e = tt
text_bare surface b bs NotChar u v e = tt
text_bare surface b bs (Char c n) u v e =
    text_cond surface (b ∷ bs) (eqb c 47) Slash _ (λ _. tt)
    (λ i. text_cond surface (b ∷ bs) (eqb c 36) Dollar _ (λ _. tt)
    (λ j. text_cond surface (b ∷ bs) (eqb c 123) Brace _ (λ _. tt)
    (λ k. text_cond surface (b ∷ bs) (is_barred surface c) (Bars Stray)
    (Reads (bare_of surface c) n) (λ _. tt)
    (λ l. bare_character c (char_code (b ∷ bs) c n e)
    (free_escape surface c (barred_free b bs c n e surface u v i j k l)) (bare_same surface c)
    (sym (char_bytes (b ∷ bs) c n e))))))

any_text : (surface : Bool) (bs : List ℕ) → SignText surface bs (sign surface bs)
unfolding sign
any_text surface [] = tt
any_text surface (b ∷ bs) =
    text_cond surface (b ∷ bs) (eqb b 92) (of_escape (char_at bs)) _
    (λ t. text_escape surface b bs (char_at bs) (eqb-true b 92 t) refl)
    (λ u. text_cond surface (b ∷ bs) (begins_tag surface b) (of_name bs (name 0 bs))
    (of_bare surface (char_at (b ∷ bs)))
    (λ t. let p = and_parts (eqb b 60) (not surface) t in
    text_name surface b bs (name 0 bs) (eqb-true b 60 p.0) (unset surface p.1) (named_by 0 bs))
    (λ v. text_bare surface b bs (char_at (b ∷ bs)) u v refl))
  where
    unset : (v : Bool) → not v ≡ true → v ≡ false
    unset true h = absurd (cc)
    unset false h = refl

pub sign_text : (surface : Bool) (bs : List ℕ) (s : Symbol) (n : ℕ) → sign surface bs ≡ Reads s n →
    IsSymbolText surface s (take n bs)
sign_text surface bs s n e = subst (SignText surface bs) e (any_text surface bs)
