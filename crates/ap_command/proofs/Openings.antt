-- The superblanks of a generated text are as many as the brackets that open one.
use Rattle.std.specs.Prelude.{◌≡◌, ◌≢◌, ℕ, suc, ◌+◌, ◌<◌, ◌≤◌, ◌⊎◌, Bool, true, false, not, ◌&&◌, cond, eqb, List, [], ◌∷◌, ◌++◌, length, drop, encode_utf8, refl}
use Rattle.std.proofs.Common.{arith, ap, sym, ◌∙◌, inl, inr, append_assoc, length-append, get_or, drop-cons, add-one}
use Rattle.std.proofs.lemmas.Bool.{cases_eq, cases_lt, ne_eqb}
use Rattle.std.proofs.lemmas.List.{drop_all}
use Rattle.std.proofs.str.Laws.{one, two, three, four}
use Rattle.ap_stream.specs.Blanks.{blank, is_white, begins_blank}
use Rattle.ap_stream.specs.Dialects.{is_refused}
use Rattle.ap_stream.specs.Pieces.{HasSuperblanks, nothing, piece, IsPiece, plain, white, superblank, unit, chunk, IsToBracket, closed, bare, escaped, IsPlain}
use Rattle.ap_stream.specs.declared.dialect.Dialect.TheVariants.{Generated}
use Rattle.ap_stream.proofs.Fronts.{IsFree, bare_free}

-- the brackets that open a superblank, where the bytes stand in one or not, and behind a backslash
-- or not
abbrev pub count_from : Bool → Bool → List ℕ → ℕ
count_from inside slashed [] = 0
count_from inside true (b ∷ bs) = count_from inside false bs
count_from inside false (b ∷ bs) = cond (eqb b 92) (count_from inside true bs)
    (cond (eqb b 93) (count_from false false bs)
    (cond (eqb b 91 && not inside) (suc (count_from true false bs)) (count_from inside false bs)))

-- a byte that is none of the three is passed over
other-byte : (inside : Bool) (b : ℕ) (bs : List ℕ) → b ≢ 92 → b ≢ 93 → b ≢ 91 →
    count_from inside false (b ∷ bs) ≡ count_from inside false bs
other-byte inside b bs p q r = rw (ne_eqb b 92 p, ne_eqb b 93 q, ne_eqb b 91 r) refl

abbrev Highs : List ℕ → Type 0
Highs [] = Unit {0}
Highs (b ∷ bs) = (128 ≤ b) × Highs bs

highs-pass : (inside : Bool) (bs x : List ℕ) → Highs bs → count_from inside false (bs ++ x)
    ≡ count_from inside false x
highs-pass inside [] x h = refl
highs-pass inside (b ∷ bs) x h =
    let high : 128 ≤ b = h.0 in
    other-byte inside b (bs ++ x) (λ e. omega (arith, e, high)) (λ e. omega (arith, e, high))
    (λ e. omega (arith, e, high)) ∙ highs-pass inside bs x h.1

-- a character is one byte, or all of its bytes are high
abbrev Encoded : ℕ → List ℕ → Type 0
Encoded c bytes = ((c < 128) × (bytes ≡ c ∷ []))
    ⊎ ((128 ≤ c) × ((b : ℕ) × ((bs : List ℕ) × (bytes ≡ b ∷ bs) × (128 ≤ b) × Highs bs)))

encoded : (c : ℕ) → Encoded c (encode_utf8 c)
encoded c = by (cases_lt c 128)
  where
    more : 128 ≤ c → 2048 ≤ c → (c < 65536) ⊎ (65536 ≤ c) → Encoded c (encode_utf8 c)
    more a b (inl d) = inr (a, (_, (_, three c b d, omega (arith, b), (omega arith, (omega arith, tt)))))
    more a b (inr d) =
        inr (a, (_, (_, four c d, omega (arith, d), (omega arith, (omega arith, (omega arith, tt))))))

    next : 128 ≤ c → (c < 2048) ⊎ (2048 ≤ c) → Encoded c (encode_utf8 c)
    next a (inl b) = inr (a, (_, (_, two c a b, omega (arith, a), (omega arith, tt))))
    next a (inr b) = more a b (cases_lt c 65536)

    by : (c < 128) ⊎ (128 ≤ c) → Encoded c (encode_utf8 c)
    by (inl a) = inl (a, one c a)
    by (inr a) = next a (cases_lt c 2048)

-- a character that is none of the three is passed over, and so is any one behind a backslash
character-passes : (inside : Bool) (c : ℕ) (x : List ℕ) → c ≢ 92 → c ≢ 93 →
    (c ≡ 91 → inside ≡ true) → count_from inside false (encode_utf8 c ++ x)
    ≡ count_from inside false x
character-passes inside c x p q r = by (encode_utf8 c) (encoded c)
  where
    low : (bytes : List ℕ) → bytes ≡ c ∷ [] → (c ≡ 91) ⊎ (c ≢ 91) →
        count_from inside false (bytes ++ x) ≡ count_from inside false x
    low bytes e (inl same) =
        ap (λ bs. count_from inside false (bs ++ x)) e
        ∙ rw (ne_eqb c 92 p, ne_eqb c 93 q, r same, same) refl
    low bytes e (inr other) =
        ap (λ bs. count_from inside false (bs ++ x)) e ∙ other-byte inside c x p q other

    by : (bytes : List ℕ) → Encoded c bytes → count_from inside false (bytes ++ x)
        ≡ count_from inside false x
    by bytes (inl l) = low bytes l.1 (cases_eq c 91)
    by bytes (inr h) = ap (λ bs. count_from inside false (bs ++ x)) h.1.1.1
        ∙ highs-pass inside (h.1.0 ∷ h.1.1.0) x (h.1.1.2, h.1.1.3)

escaped-passes : (inside : Bool) (c : ℕ) (x : List ℕ) →
    count_from inside true (encode_utf8 c ++ x) ≡ count_from inside false x
escaped-passes inside c x = by (encode_utf8 c) (encoded c)
  where
    by : (bytes : List ℕ) → Encoded c bytes → count_from inside true (bytes ++ x)
        ≡ count_from inside false x
    by bytes (inl l) = ap (λ bs. count_from inside true (bs ++ x)) l.1
    by bytes (inr h) = ap (λ bs. count_from inside true (bs ++ x)) h.1.1.1
        ∙ highs-pass inside h.1.1.0 x h.1.1.3

-- behind the bracket of a superblank nothing is counted up to its end
to-bracket : (bytes x : List ℕ) → IsToBracket bytes → count_from true false (bytes ++ x)
    ≡ count_from false false x
to-bracket bytes x (closed e) = ap (λ bs. count_from true false (bs ++ x)) e
to-bracket bytes x (bare c rest code p q t e) =
    ap (λ bs. count_from true false (bs ++ x)) e
    ∙ ap (count_from true false) (append_assoc (encode_utf8 c) rest x)
    ∙ character-passes true c (rest ++ x) p q (λ s. refl) ∙ to-bracket rest x t
to-bracket bytes x (escaped c rest code t e) =
    ap (λ bs. count_from true false (bs ++ x)) e
    ∙ ap (count_from true true) (append_assoc (encode_utf8 c) rest x)
    ∙ escaped-passes true c (rest ++ x) ∙ to-bracket rest x t

-- white space is none of the three
white-passes : (b : ℕ) (x : List ℕ) → is_white b ≡ true → count_from false false (b ∷ x)
    ≡ count_from false false x
white-passes b x w = other-byte false b x (not-at 92 refl) (not-at 93 refl) (not-at 91 refl)
  where
    not-at : (n : ℕ) → is_white n ≡ false → b ≢ n
    not-at n h e = absurd (let x : true ≡ false = sym w ∙ ap is_white e ∙ h in cc)

free-not : (test : ℕ → Bool) (c n : ℕ) → test c ≡ false → test n ≡ true → c ≢ n
free-not test c n h k e = absurd (let x : false ≡ true = sym h ∙ ap test e ∙ k in cc)

plain-passes : (c : ℕ) (x : List ℕ) → IsFree Generated c → count_from false false (encode_utf8 c ++ x)
    ≡ count_from false false x
plain-passes c x f =
    character-passes false c x (free-not (λ n. eqb n 92) c 92 f.escape refl)
    (free-not (is_refused Generated) c 93 f.refused refl)
    (λ e. absurd (free-not begins_blank c 91 f.blank refl e))

plain-counted : (bytes x : List ℕ) (e : Bool) (p : IsPlain Generated bytes) → p.character.escaped ≡ e
    → count_from false false (bytes ++ x) ≡ count_from false false x
plain-counted bytes x true p e =
    ap (λ bs. count_from false false (bs ++ x)) (p.spelled
    ∙ ap (λ v. cond v (92 ∷ encode_utf8 p.character.letter) (encode_utf8 p.character.letter)) e)
    ∙ escaped-passes false p.character.letter x
plain-counted bytes x false p e =
    ap (λ bs. count_from false false (bs ++ x)) (p.spelled
    ∙ ap (λ v. cond v (92 ∷ encode_utf8 p.character.letter) (encode_utf8 p.character.letter)) e)
    ∙ plain-passes p.character.letter x (bare_free Generated p.character.letter (p.allowed e))

own-none : (own : List (List ℕ)) (x whole : List ℕ) → own ≡ [] →
    count_from false false whole ≡ count_from false false x →
    count_from false false whole ≡ length own + count_from false false x
own-none own x whole e h =
    let none : length own ≡ 0 = ap (λ (o : List (List ℕ)). length o) e in omega (arith, h, none)

-- a piece has as many superblanks as are counted in it
piece-counted : (bytes x : List ℕ) (own : List (List ℕ)) → IsPiece Generated bytes own →
    count_from false false (bytes ++ x) ≡ length own + count_from false false x
piece-counted bytes x own (plain p e) =
    own-none own x (bytes ++ x) e (plain-counted bytes x p.character.escaped p refl)
piece-counted bytes x own (white b is w e) =
    own-none own x (bytes ++ x) e
    (ap (λ bs. count_from false false (bs ++ x)) is ∙ white-passes b x w)
piece-counted bytes x own (superblank s e) =
    let all : count_from false false (bytes ++ x) ≡ suc (count_from false false x) =
    ap (λ bs. count_from false false (bs ++ x)) s.begins
    ∙ ap suc (to-bracket s.rest x s.goes_on) in
    let one : length own ≡ 1 = ap (λ (o : List (List ℕ)). length o) e in
    omega (arith, all, one)
piece-counted bytes x own (unit u e) = absurd u.text
piece-counted bytes x own (chunk c e) = absurd (let x : false ≡ true = c.chunks in cc)

-- and so has a text
pub counted : (text : List ℕ) (superblanks : List (List ℕ)) →
    HasSuperblanks Generated text superblanks → count_from false false text ≡ length superblanks
counted text superblanks (nothing e f) =
    ap (count_from false false) e ∙ ap (λ (o : List (List ℕ)). length o) (sym f)
counted text superblanks (piece front rest own more p h e f) =
    ap (count_from false false) e ∙ piece-counted front rest own p
    ∙ ap (λ (n : ℕ). length own + n) (counted rest more h) ∙ sym (length-append own more)
    ∙ ap (λ (o : List (List ℕ)). length o) (sym f)

-- at the end of the bytes all are counted
pub at-end : (inside slashed : Bool) (text : List ℕ) (at count : ℕ) → length text ≤ at →
    count + count_from inside slashed (drop at text) ≡ count_from false false text →
    count ≡ count_from false false text
at-end inside slashed text at count h e =
    let none : count_from inside slashed (drop at text) ≡ 0 =
    ap (count_from inside slashed) (drop_all at text h) in
    omega (arith, none, e)

-- what one byte more does
module _ (inside slashed i s : Bool) (b : ℕ) (bs : List ℕ) where
  pub by-slashed : slashed ≡ true → i ≡ inside → s ≡ false →
      count_from inside slashed (b ∷ bs) ≡ count_from i s bs
  by-slashed e f g = rw (e, f, g) refl

  pub by-slash : slashed ≡ false → b ≡ 92 → i ≡ inside → s ≡ true →
      count_from inside slashed (b ∷ bs) ≡ count_from i s bs
  by-slash e same f g = rw (e, same, f, g) refl

  pub by-closing : slashed ≡ false → b ≡ 93 → i ≡ false → s ≡ slashed →
      count_from inside slashed (b ∷ bs) ≡ count_from i s bs
  by-closing e same f g = rw (g, e, same, f) refl

  pub by-opening : slashed ≡ false → b ≡ 91 → inside ≡ false → i ≡ true → s ≡ slashed →
      count_from inside slashed (b ∷ bs) ≡ suc (count_from i s bs)
  by-opening e same out f g = rw (g, e, same, out, f) refl

  pub by-inner : slashed ≡ false → b ≡ 91 → inside ≡ true → i ≡ inside → s ≡ slashed →
      count_from inside slashed (b ∷ bs) ≡ count_from i s bs
  by-inner e same out f g = rw (g, f, e, same, out) refl

  pub by-other : slashed ≡ false → b ≢ 92 → b ≢ 93 → b ≢ 91 → i ≡ inside → s ≡ slashed →
      count_from inside slashed (b ∷ bs) ≡ count_from i s bs
  by-other e p q r f g = rw (g, f, e) (other-byte inside b bs p q r)

pub on-byte : (inside slashed : Bool) (text : List ℕ) (at count whole now : ℕ) → at < length text →
    count + count_from inside slashed (drop at text) ≡ whole →
    now ≡ count + count_from inside slashed (get_or text at 0 ∷ drop (at + 1) text) → now ≡ whole
on-byte inside slashed text at count whole now h e f =
    f ∙ ap (λ bs. count + count_from inside slashed bs)
    (ap (λ n. get_or text at 0 ∷ drop n text) (add-one at) ∙ sym (drop-cons text at 0 h)) ∙ e
