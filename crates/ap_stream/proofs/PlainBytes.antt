-- Bytes of a word that are as they are written.
use Rattle.std.specs.Prelude.{◌≡◌, ℕ, zero, suc, ◌+◌, ◌<◌, ◌≤◌, pred, List, [], ◌∷◌, ◌++◌, drop, take, length, get_or, Bool, true, false, cond, eqb, ltb, ◌&&◌, ◌||◌, ◌⊎◌, not, refl, encode_utf8}
use Rattle.std.specs.List.{list_any}
use Rattle.std.proofs.Common.{arith, ap, sym, subst, ◌∙◌, append_assoc, drop-drop, inl, inr}
use Rattle.std.proofs.lemmas.List.{append-nil, length-drop, drop_all}
use Rattle.std.proofs.lemmas.List.Folds.{list_any-append}
use Rattle.std.proofs.lemmas.Grind.{flat_map-append}
use Rattle.std.proofs.lemmas.Bool.{eqb-true, ne_eqb, and_parts, cases_lt}
use Rattle.std.proofs.lemmas.Str.{encode_ascii}
use Rattle.std.proofs.Math.Seq.{take-add, drop-cons}
use Rattle.ap_symbol.specs.declared.symbol.Symbol.{Symbol}
use Rattle.ap_symbol.specs.declared.symbol.Symbol.TheVariants as symbol
use Rattle.ap_symbol.specs.Rendering.{symbol_bytes, rendering}
use Rattle.ap_symbol.specs.Words.{is_white}
use Rattle.ap_symbol.specs.TagNames.{is_reserved_lem}
use Rattle.ap_symbol.specs.TextWord.{bare_symbol}
use Rattle.ap_stream.specs.declared.fault.MalformedKind.TheVariants.{Stray, BadTag}
use Rattle.ap_stream.specs.Chars.{Front, Part, NotChar, Char, char_at, tail2, tail3, tail4, is_tail, is_second}
use Rattle.ap_stream.proofs.CharLaws.{Fits, char_fits}
use Rattle.ap_stream.specs.Units.{Form, Name, Runs, Breaks, Stops, name, name_by, behind_name, Sign, Awaits, Bars, Reads, Slash, Dollar, sign, of_bare, of_name, bare_of, is_barred, begins_tag, in_surface, rest, longer, Brace}
use Rattle.ap_stream.proofs.UnitLaws.{longer_longer, longer_zero}
use Rattle.ap_stream.specs.UnitBytes.{is_stop, plain_size, Barren}
use Rattle.ap_stream.proofs.Encoding.{tail_range, second_parts, char_encodes, Encodes}
use Rattle.ap_stream.proofs.SignLaws as laws
use Rattle.ap_stream.proofs.SignLaws.{IsWhole}

-- a character that a test does not take is not one that it takes
unlike : (test : ℕ → Bool) (c d : ℕ) → test c ≡ false → test d ≡ true → eqb c d ≡ false
unlike test c d free t = ne_eqb c d (λ e. let k : test c ≡ true = ap test e ∙ t in absurd (cc))

high : (b : ℕ) → 128 ≤ b → is_stop b ≡ false
high b h = rw (
  ne_eqb b 47 (λ e. omega (arith, e)),
  ne_eqb b 36 (λ e. omega (arith, e)),
  ne_eqb b 92 (λ e. omega (arith, e)),
  ne_eqb b 9 (λ e. omega (arith, e)),
  ne_eqb b 10 (λ e. omega (arith, e)),
  ne_eqb b 13 (λ e. omega (arith, e)),
) refl

-- the bytes of a character behind its first stop nothing
abbrev Keeps : List ℕ → Front → Type 0
Keeps bytes Part = Unit {0}
Keeps bytes NotChar = Unit {0}
Keeps bytes (Char c n) = list_any is_stop (take n bytes) ≡ false

keeps_cond : (bytes : List ℕ) (b : Bool) (f g : Front) → (b ≡ true → Keeps bytes f) →
    (b ≡ false → Keeps bytes g) → Keeps bytes (cond b f g)
keeps_cond bytes true f g h k = h refl
keeps_cond bytes false f g h k = k refl

keeps2 : (a : ℕ) (bs : List ℕ) → is_stop a ≡ false → Keeps (a ∷ bs) (tail2 a bs)
keeps2 a [] h = tt
keeps2 a (b ∷ bs) h = keeps_cond _ (is_tail b) (Char _ 2) NotChar
    (λ t. rw (h, high b (tail_range b t).0) refl) (λ _. tt)

keeps3 : (a : ℕ) (bs : List ℕ) → is_stop a ≡ false → Keeps (a ∷ bs) (tail3 a bs)
keeps3 a [] h = tt
keeps3 a (b ∷ []) h = keeps_cond _ (is_second a b) Part NotChar (λ _. tt) (λ _. tt)
keeps3 a (b ∷ c ∷ bs) h =
    keeps_cond _ (is_second a b) _ NotChar
    (λ s. keeps_cond _ (is_tail c) (Char _ 3) NotChar
    (λ t. rw (h, high b (second_parts a b s).0, high c (tail_range c t).0) refl)
    (λ _. tt)) (λ _. tt)

keeps4 : (a : ℕ) (bs : List ℕ) → is_stop a ≡ false → Keeps (a ∷ bs) (tail4 a bs)
keeps4 a [] h = tt
keeps4 a (b ∷ []) h = keeps_cond _ (is_second a b) Part NotChar (λ _. tt) (λ _. tt)
keeps4 a (b ∷ c ∷ []) h =
    keeps_cond _ (is_second a b) _ NotChar
    (λ _. keeps_cond _ (is_tail c) Part NotChar (λ _. tt) (λ _. tt)) (λ _. tt)
keeps4 a (b ∷ c ∷ d ∷ bs) h =
    keeps_cond _ (is_second a b) _ NotChar
    (λ s. keeps_cond _ (is_tail c) _ NotChar (λ t. keeps_cond _ (is_tail d) (Char _ 4) NotChar
    (λ u. rw (
      h,
      high b (second_parts a b s).0,
      high c (tail_range c t).0,
      high d (tail_range d u).0,
    ) refl) (λ _. tt)) (λ _. tt)) (λ _. tt)

char_keeps : (a : ℕ) (bs : List ℕ) → is_stop a ≡ false → Keeps (a ∷ bs) (char_at (a ∷ bs))
unfolding char_at
char_keeps a bs h = keeps_cond _ (ltb a 128) (Char a 1) _ (λ _. rw h refl)
    (λ _. keeps_cond _ (ltb a 194) NotChar _ (λ _. tt)
    (λ _. keeps_cond _ (ltb a 224) _ _ (λ _. keeps2 a bs h)
    (λ _. keeps_cond _ (ltb a 240) _ _ (λ _. keeps3 a bs h)
    (λ _. keeps_cond _ (ltb a 245) _ NotChar (λ _. keeps4 a bs h) (λ _. tt)))))

-- a character and the first of its bytes

abbrev first_of : List ℕ → ℕ
first_of [] = 0
first_of (a ∷ bs) = a

first_same : (c b n : ℕ) (bs : List ℕ) → c ∷ [] ≡ take n (b ∷ bs) → c ≡ b
first_same c b zero bs e = absurd (cc)
first_same c b (suc n) bs e = ap first_of e

ascii_same : (c b n : ℕ) (bs : List ℕ) → c < 128 → encode_utf8 c ≡ take n (b ∷ bs) → c ≡ b
ascii_same c b n bs small e = first_same c b n bs (sym (encode_ascii c small) ∙ e)

char_goes_on : (c b n : ℕ) (bs : List ℕ) → encode_utf8 c ≡ take n (b ∷ bs) → is_stop b ≡ false →
    is_stop c ≡ false
char_goes_on c b n bs e h = by (cases_lt c 128)
  where
    by : (c < 128) ⊎ (128 ≤ c) → is_stop c ≡ false
    by (inl small) = ap is_stop (ascii_same c b n bs small e) ∙ h
    by (inr big) = high c big

char_no_angle : (c b n : ℕ) (bs : List ℕ) → encode_utf8 c ≡ take n (b ∷ bs) → eqb b 60 ≡ false →
    eqb c 60 ≡ false
char_no_angle c b n bs e h = by (cases_lt c 128)
  where
    by : (c < 128) ⊎ (128 ≤ c) → eqb c 60 ≡ false
    by (inl small) = ap (λ z. eqb z 60) (ascii_same c b n bs small e) ∙ h
    by (inr big) = ne_eqb c 60 (λ k. omega (arith, k, big))

-- a bare character is written as it was read

pick : (P : Symbol → Type 0) (b : Bool) (s t : Symbol) → (b ≡ true → P s) → (b ≡ false → P t) →
    P (cond b s t)
pick P true s t h k = h refl
pick P false s t h k = k refl

module _ (c n : ℕ) (bytes : List ℕ) (e : encode_utf8 c ≡ take n bytes) where
  is_code : (k : ℕ) → k < 128 → eqb c k ≡ true → k ∷ [] ≡ take n bytes
  is_code k small t = sym (encode_ascii k small) ∙ ap encode_utf8 (sym (eqb-true c k t)) ∙ e

  is_space : is_stop c ≡ false → is_white c ≡ true → eqb c 32 ≡ true
  is_space h w = rw (
    unlike is_stop c 9 h refl,
    unlike is_stop c 10 h refl,
    unlike is_stop c 13 h refl,
  ) at w

  is_letter : is_stop c ≡ false → eqb c 60 ≡ false → eqb c 123 ≡ false →
      is_barred false c ≡ false → eqb c 43 ≡ false → eqb c 35 ≡ false → eqb c 126 ≡ false →
      eqb c 42 ≡ false → eqb c 64 ≡ false →
      symbol_bytes (symbol.Letter c) ≡ take n bytes
  is_letter h angle brace bars j q a s t =
      rw (
        unlike (is_barred false) c 94 bars refl,
        unlike is_stop c 36 h refl,
        unlike is_stop c 47 h refl,
        angle,
        unlike (is_barred false) c 62 bars refl,
        brace,
        unlike (is_barred false) c 125 bars refl,
        unlike is_stop c 92 h refl,
        unlike (is_barred false) c 91 bars refl,
        unlike (is_barred false) c 93 bars refl,
        t,
        s,
        q,
        j,
        a,
      ) e

  bare_renders : is_stop c ≡ false → eqb c 60 ≡ false → eqb c 123 ≡ false →
      is_barred false c ≡ false →
      symbol_bytes (bare_symbol c) ≡ take n bytes
  bare_renders h angle brace bars =
      pick Here (is_white c) symbol.Blank _ (λ w. is_code 32 (omega arith) (is_space h w))
      (λ _. pick Here (eqb c 43) symbol.Join _ (λ t. is_code 43 (omega arith) t)
      (λ j. pick Here (eqb c 35) symbol.Queue _ (λ t. is_code 35 (omega arith) t)
      (λ q. pick Here (eqb c 126) symbol.Alarm _ (λ t. is_code 126 (omega arith) t)
      (λ a. pick Here (eqb c 42) symbol.Star _ (λ t. is_code 42 (omega arith) t)
      (λ s. pick Here (eqb c 64) symbol.At (symbol.Letter c) (λ t. is_code 64 (omega arith) t)
      (λ t. is_letter h angle brace bars j q a s t))))))
    where
      Here : Symbol → Type 0
      Here s = symbol_bytes s ≡ take n bytes

-- a name's bytes, and the character behind them

abbrev NameGoes : List ℕ → Name → Type 0
NameGoes bs Runs = Unit {0}
NameGoes bs Breaks = Unit {0}
NameGoes bs (Stops n c) = (list_any is_reserved_lem (take n bs) ≡ false)
    × ((k : ℕ) × (encode_utf8 c ≡ take k (drop n bs)))

name_goes : (skip : ℕ) (bs : List ℕ) → NameGoes (drop skip bs) (name skip bs)
unfolding name
name_goes skip [] = tt
name_goes (suc skip) (b ∷ bs) = name_goes skip bs
name_goes zero (b ∷ bs) = at (char_at (b ∷ bs)) refl (λ k. name_goes k bs)
  where
    next : (n : ℕ) → 0 < n → drop n (b ∷ bs) ≡ drop (pred n) bs
    next zero s = absurd (omega (arith, s))
    next (suc n) s = refl

    more : (c n : ℕ) → char_at (b ∷ bs) ≡ Char c n → is_reserved_lem c ≡ false → (r : Name) →
        NameGoes (drop (pred n) bs) r → NameGoes (b ∷ bs) (behind_name n r)
    more c n e free Runs h = tt
    more c n e free Breaks h = tt
    more c n e free (Stops m d) h =
        let fits : Fits (Char c n) (length (b ∷ bs)) =
        subst (λ (f : Front). Fits f (length (b ∷ bs))) e (char_fits (b ∷ bs)) in
        let on : drop n (b ∷ bs) ≡ drop (pred n) bs = next n fits.0 in
        let plain : list_any is_reserved_lem (take n (b ∷ bs)) ≡ false =
        subst (λ (f : Front). laws.KeepsPlain (b ∷ bs) f) e (laws.char_plain (b ∷ bs)) free in
        let after : list_any is_reserved_lem (take m (drop n (b ∷ bs))) ≡ false =
        ap (λ q. list_any is_reserved_lem (take m q)) on ∙ h.0 in
        let all : list_any is_reserved_lem (take n (b ∷ bs) ++ take m (drop n (b ∷ bs))) ≡ false =
        list_any-append is_reserved_lem (take n (b ∷ bs)) (take m (drop n (b ∷ bs)))
        ∙ rw (plain, after) refl in (
          ap (list_any is_reserved_lem) (take-add n m (b ∷ bs)) ∙ all,
          (
            h.1.0,
            h.1.1 ∙ ap (λ q. take h.1.0 (drop m q)) (sym on)
                ∙ ap (take h.1.0) (drop-drop m n (b ∷ bs)),
          ),
        )

    test : (c n : ℕ) → char_at (b ∷ bs) ≡ Char c n → (v : Bool) → is_reserved_lem c ≡ v →
        (r : Name) → NameGoes (drop (pred n) bs) r →
        NameGoes (b ∷ bs) (cond v (Stops 0 c) (behind_name n r))
    test c n e true v r h =
        let spelled : Encodes (b ∷ bs) (Char c n) =
        subst (λ (f : Front). Encodes (b ∷ bs) f) e (char_encodes (b ∷ bs)) in
        (refl, (n, spelled))
    test c n e false v r h = more c n e v r h

    at : (f : Front) → char_at (b ∷ bs) ≡ f → ((k : ℕ) → NameGoes (drop k bs) (name k bs)) →
        NameGoes (b ∷ bs) (name_by f (λ skip. name skip bs))
    at Part e go = tt
    at NotChar e go = tt
    at (Char c n) e go = test c n e (is_reserved_lem c) refl (name (pred n) bs) (go (pred n))

-- what no name holds stops nothing in one
unreserved : (b : ℕ) → is_reserved_lem b ≡ false → is_stop b ≡ false
unreserved b h = rw (
  unlike is_reserved_lem b 47 h refl,
  unlike is_reserved_lem b 36 h refl,
  unlike is_reserved_lem b 92 h refl,
  unlike is_reserved_lem b 9 h refl,
  unlike is_reserved_lem b 10 h refl,
  unlike is_reserved_lem b 13 h refl,
) refl

name_keeps : (bs : List ℕ) → list_any is_reserved_lem bs ≡ false → list_any is_stop bs ≡ false
name_keeps [] h = refl
name_keeps (b ∷ bs) h = by (is_reserved_lem b) refl h (name_keeps bs)
  where
    by : (v : Bool) → is_reserved_lem b ≡ v → (v || list_any is_reserved_lem bs) ≡ false →
        (list_any is_reserved_lem bs ≡ false → list_any is_stop bs ≡ false) →
        list_any is_stop (b ∷ bs) ≡ false
    by true e h go = absurd (cc)
    by false e h go = rw (unreserved b e, go h) refl

abbrev angle : List ℕ
angle = 62 ∷ []

one_byte : (k : ℕ) (bs : List ℕ) → encode_utf8 62 ≡ take k bs → bs ≡ 62 ∷ drop 1 bs
one_byte k [] e = absurd (none k (sym (encode_ascii 62 (omega arith)) ∙ e))
  where
    none : (k : ℕ) → angle ≡ take k [] → ⊥
    none zero e = absurd (cc)
    none (suc k) e = absurd (cc)
one_byte k (b ∷ bs) e = ap (λ z. z ∷ bs) (sym (ascii_same 62 b k bs (omega arith) e))

tag_bytes_are : (b n : ℕ) (bs : List ℕ) → drop n bs ≡ 62 ∷ drop 1 (drop n bs) →
    take (2 + n) (b ∷ bs) ≡ b ∷ (take n bs ++ 62 ∷ [])
tag_bytes_are b n bs e =
    let size : 2 + n ≡ suc (n + 1) = omega arith in
    ap (λ k. take k (b ∷ bs)) size
    ∙ ap (λ q. b ∷ q) (take-add n 1 bs ∙ ap (λ q. take n bs ++ take 1 q) e)

-- a symbol that is read at a byte that goes on

abbrev Plain : Bool → List ℕ → Sign → Type 0
Plain surface bytes Awaits = Unit {0}
Plain surface bytes (Bars kind) = Unit {0}
Plain surface bytes (Reads s n) = (0 < n) × (n ≤ length bytes)
    × (list_any is_stop (take n bytes) ≡ false) × (surface ≡ false → symbol_bytes s ≡ take n bytes)
Plain surface bytes Slash = ⊥
Plain surface bytes Dollar = ⊥
Plain surface bytes Brace = Unit {0}

plain_cond : (surface : Bool) (bytes : List ℕ) (b : Bool) (s t : Sign) →
    (b ≡ true → Plain surface bytes s) → (b ≡ false → Plain surface bytes t) →
    Plain surface bytes (cond b s t)
plain_cond surface bytes true s t h k = h refl
plain_cond surface bytes false s t h k = k refl

plain_tag : (surface : Bool) (b : ℕ) (bs : List ℕ) → b ≡ 60 → (r : Name) → NameGoes bs r →
    Plain surface (b ∷ bs) (of_name bs r)
plain_tag surface b bs is Runs h = tt
plain_tag surface b bs is Breaks h = tt
plain_tag surface b bs is (Stops n c) h =
    plain_cond surface (b ∷ bs) (eqb c 62 && not (eqb n 0)) (Reads (symbol.Tag (take n bs)) (2 + n))
    (Bars BadTag) (λ t. whole (eqb-true c 62 (and_parts (eqb c 62) (not (eqb n 0)) t).0)) (λ _. tt)
  where
    whole : c ≡ 62 → Plain surface (b ∷ bs) (Reads (symbol.Tag (take n bs)) (2 + n))
    whole e =
        let ends : drop n bs ≡ 62 ∷ drop 1 (drop n bs) =
        one_byte h.1.0 (drop n bs) (ap encode_utf8 (sym e) ∙ h.1.1) in
        let more : length (drop n bs) ≡ 1 + length (drop 1 (drop n bs)) =
        ap length ends ∙ omega arith in
        let size = length-drop n bs in
        let bytes : take (2 + n) (b ∷ bs) ≡ b ∷ (take n bs ++ 62 ∷ []) =
        tag_bytes_are b n bs ends in
        let name_free : list_any is_stop (take n bs ++ 62 ∷ []) ≡ false =
        list_any-append is_stop (take n bs) (62 ∷ []) ∙ rw (name_keeps (take n bs) h.0) refl in
        let free : list_any is_stop (b ∷ (take n bs ++ 62 ∷ [])) ≡ false =
        rw (is, name_free) refl in (
          omega arith,
          omega (arith, more, size),
          ap (list_any is_stop) bytes ∙ free,
          λ _. ap (λ z. z ∷ (take n bs ++ 62 ∷ [])) (sym is) ∙ sym bytes,
        )

plain_bare : (surface : Bool) (b : ℕ) (bs : List ℕ) → is_stop b ≡ false →
    begins_tag surface b ≡ false → (f : Front) → char_at (b ∷ bs) ≡ f →
    Plain surface (b ∷ bs) (of_bare surface f)
plain_bare surface b bs h tag Part e = tt
plain_bare surface b bs h tag NotChar e = tt
plain_bare surface b bs h tag (Char c n) e =
    plain_cond surface (b ∷ bs) (eqb c 47) Slash _ (λ t. stopped 47 t refl)
    (λ _. plain_cond surface (b ∷ bs) (eqb c 36) Dollar _ (λ t. stopped 36 t refl)
    (λ _. plain_cond surface (b ∷ bs) (eqb c 123) Brace _ (λ _. tt)
    (λ brace. plain_cond surface (b ∷ bs) (is_barred surface c) (Bars Stray)
    (Reads (bare_of surface c) n) (λ _. tt)
    (λ free. (
      fits.0,
      fits.1,
      subst (λ (f : Front). Keeps (b ∷ bs) f) e (char_keeps b bs h),
      λ s. rendered surface s tag brace free,
    )))))
  where
    fits : Fits (Char c n) (length (b ∷ bs))
    fits = subst (λ (f : Front). Fits f (length (b ∷ bs))) e (char_fits (b ∷ bs))

    spelled : encode_utf8 c ≡ take n (b ∷ bs)
    spelled = subst (λ (f : Front). Encodes (b ∷ bs) f) e (char_encodes (b ∷ bs))

    goes : is_stop c ≡ false
    goes = char_goes_on c b n bs spelled h

    stopped : (k : ℕ) → eqb c k ≡ true → is_stop k ≡ true → ⊥
    stopped k t s = absurd (let z : is_stop c ≡ true = ap is_stop (eqb-true c k t) ∙ s in
        let g = goes in cc)

    rendered : (v : Bool) → v ≡ false → begins_tag v b ≡ false → eqb c 123 ≡ false →
        is_barred v c ≡ false → symbol_bytes (bare_of v c) ≡ take n (b ∷ bs)
    rendered true s tag brace free = absurd (cc)
    rendered false s tag brace free =
        bare_renders c n (b ∷ bs) spelled goes
        (char_no_angle c b n bs spelled (no_angle (eqb b 60) tag)) brace free
      where
        no_angle : (v : Bool) → (v && true) ≡ false → v ≡ false
        no_angle true t = absurd (cc)
        no_angle false t = refl

sign_plain : (surface : Bool) (b : ℕ) (bs : List ℕ) → is_stop b ≡ false →
    Plain surface (b ∷ bs) (sign surface (b ∷ bs))
unfolding sign
sign_plain surface b bs h =
    let escape : eqb b 92 ≡ false = unlike is_stop b 92 h refl in
    rw escape (plain_cond surface (b ∷ bs) (begins_tag surface b) (of_name bs (name 0 bs))
    (of_bare surface (char_at (b ∷ bs)))
    (λ t. plain_tag surface b bs (eqb-true b 60 (and_parts (eqb b 60) (not surface) t).0)
    (name 0 bs) (name_goes 0 bs)) (λ t. plain_bare surface b bs h t (char_at (b ∷ bs)) refl))

-- a run of such symbols

pub plain_skip : (n : ℕ) (bs : List ℕ) → n ≤ length bs → list_any is_stop (take n bs) ≡ false →
    plain_size bs ≡ n + plain_size (drop n bs)
unfolding plain_size
plain_skip zero bs l h = omega arith
plain_skip (suc n) [] l h = absurd (omega (arith, l))
plain_skip (suc n) (b ∷ bs) l h = by (is_stop b) refl h (plain_skip n bs (omega (arith, l)))
  where
    by : (v : Bool) → is_stop b ≡ v → (v || list_any is_stop (take n bs)) ≡ false →
        (list_any is_stop (take n bs) ≡ false → plain_size bs ≡ n + plain_size (drop n bs)) →
        cond (is_stop b) 0 (suc (plain_size bs)) ≡ suc n + plain_size (drop n bs)
    by true e h go = absurd (cc)
    by false e h go = let k = go h in rw e (omega (arith, k))

-- a walk over bytes up to the first that stops

module _ (bytes : List ℕ) (at : ℕ) (on : plain_size bytes ≡ at + plain_size (drop at bytes)) where
  front : at < length bytes → drop at bytes ≡ get_or bytes at 0 ∷ drop (suc at) bytes
  front inside = drop-cons bytes at 0 inside

  pub stopped_at : at < length bytes → is_stop (get_or bytes at 0) ≡ true → at ≡ plain_size bytes
  unfolding plain_size
  stopped_at inside h =
      let here : plain_size (drop at bytes) ≡ 0 = ap plain_size (front inside) ∙ rw h refl in
      omega (arith, on, here)

  pub goes_on : at < length bytes → is_stop (get_or bytes at 0) ≡ false →
      plain_size bytes ≡ (at + 1) + plain_size (drop (at + 1) bytes)
  unfolding plain_size
  goes_on inside h =
      let one : suc at ≡ at + 1 = omega arith in
      let here : plain_size (drop at bytes) ≡ suc (plain_size (drop (suc at) bytes)) =
      ap plain_size (front inside) ∙ rw h refl in
      let there : plain_size (drop (suc at) bytes) ≡ plain_size (drop (at + 1) bytes) =
      ap (λ n. plain_size (drop n bytes)) one in
      omega (arith, on, here, there)

  pub stopped_past : length bytes ≤ at → at ≡ plain_size bytes
  unfolding plain_size
  stopped_past past = let here : plain_size (drop at bytes) ≡ 0 =
      ap plain_size (drop_all at bytes past) in omega (arith, on, here)

rendering_more : (word : List Symbol) (s : Symbol) → rendering (word ++ s ∷ []) ≡ rendering word
    ++ symbol_bytes s
rendering_more word s = flat_map-append symbol_bytes word (s ∷ [])
    ∙ ap (λ q. rendering word ++ q) (append-nil (symbol_bytes s))

-- the symbols up to the first byte that stops, and their bytes
pub record Run (form : Form) (words : List (List Symbol)) (word : List Symbol)
    (bs : List ℕ) : Type 0 where
  pub after : List Symbol
  pub on : rest form words word 0 bs
      ≡ longer (plain_size bs) (rest form words after 0 (drop (plain_size bs) bs))
  pub spelled : in_surface form words ≡ false → rendering after ≡ rendering word
      ++ take (plain_size bs) bs

pub run : (fuel : ℕ) (form : Form) (words : List (List Symbol)) (word : List Symbol) (bs : List ℕ) →
    form.braced ≡ false → length bs ≤ fuel → IsWhole (rest form words word 0 bs) →
    Run form words word bs
unfolding rest plain_size
run fuel form words word [] u l w = absurd w
run zero form words word (b ∷ bs) u l w = absurd (omega (arith, l))
run (suc fuel) form words word (b ∷ bs) u l w =
    by (is_stop b) refl (λ s n. run fuel form words (word ++ s ∷ []) (drop n (b ∷ bs)) u)
  where
    here : plain_size (b ∷ bs) ≡ 0 → Run form words word (b ∷ bs)
    here z = record {
      after = word;
      on = sym (longer_zero (rest form words word 0 (b ∷ bs)))
          ∙ ap (λ n. longer n (rest form words word 0 (drop n (b ∷ bs)))) (sym z);
      spelled = λ _. sym (append-nil (rendering word))
          ∙ ap (λ n. rendering word ++ take n (b ∷ bs)) (sym z);
    }

    further : (s : Symbol) (n : ℕ) → sign (in_surface form words) (b ∷ bs) ≡ Reads s n →
        Plain (in_surface form words) (b ∷ bs) (Reads s n)
        → ((k : length (drop n (b ∷ bs)) ≤ fuel) →
        IsWhole (rest form words (word ++ s ∷ []) 0 (drop n (b ∷ bs))) →
        Run form words (word ++ s ∷ []) (drop n (b ∷ bs))) → Run form words word (b ∷ bs)
    further s n e p go =
        let read : rest form words word 0 (b ∷ bs)
        ≡ longer n (rest form words (word ++ s ∷ []) 0 (drop n (b ∷ bs))) =
        laws.front_reads form words word (b ∷ bs) s n e p.0 (omega arith) in
        let size = length-drop n (b ∷ bs) in
        let next = go (omega (arith, size, p.0, l))
        (laws.whole_longer n _ (subst IsWhole read w)) in
        let total : plain_size (b ∷ bs) ≡ n + plain_size (drop n (b ∷ bs)) =
        plain_skip n (b ∷ bs) p.1 p.2 in
        let k : ℕ = plain_size (drop n (b ∷ bs)) in
        record {
          after = next.after;
          on = read ∙ ap (longer n) next.on
              ∙ longer_longer n k (rest form words next.after 0 (drop k (drop n (b ∷ bs))))
              ∙ ap (λ q. longer (n + k) (rest form words next.after 0 q)) (drop-drop k n (b ∷ bs))
              ∙ ap (λ m. longer m (rest form words next.after 0 (drop m (b ∷ bs)))) (sym total);
          spelled = λ bare. next.spelled bare
              ∙ ap (λ q. q ++ take k (drop n (b ∷ bs)))
              (rendering_more word s ∙ ap (λ q. rendering word ++ q) (p.3 bare))
              ∙ append_assoc (rendering word) (take n (b ∷ bs)) (take k (drop n (b ∷ bs)))
              ∙ ap (λ q. rendering word ++ q) (sym (take-add n k (b ∷ bs)))
              ∙ ap (λ m. rendering word ++ take m (b ∷ bs)) (sym total);
        }

    at : (s : Sign) → sign (in_surface form words) (b ∷ bs) ≡ s →
        Plain (in_surface form words) (b ∷ bs) s
        → ((s : Symbol) (n : ℕ) → length (drop n (b ∷ bs)) ≤ fuel →
        IsWhole (rest form words (word ++ s ∷ []) 0 (drop n (b ∷ bs))) →
        Run form words (word ++ s ∷ []) (drop n (b ∷ bs))) → Run form words word (b ∷ bs)
    at Awaits e p go = absurd (laws.front_barren form words word (b ∷ bs)
        (subst Barren (sym e) tt) w)
    at (Bars kind) e p go = absurd (laws.front_barren form words word (b ∷ bs)
        (subst Barren (sym e) tt) w)
    at (Reads s n) e p go = further s n e p (go s n)
    at Slash e p go = absurd p
    at Dollar e p go = absurd p
    at Brace e p go = absurd (laws.unbraced form words word (b ∷ bs) e (omega arith) u w)

    by : (v : Bool) → is_stop b ≡ v →
        ((s : Symbol) (n : ℕ) → length (drop n (b ∷ bs)) ≤ fuel →
        IsWhole (rest form words (word ++ s ∷ []) 0 (drop n (b ∷ bs))) →
        Run form words (word ++ s ∷ []) (drop n (b ∷ bs))) → Run form words word (b ∷ bs)
    by true e go = here (rw e refl)
    by false e go = at (sign (in_surface form words) (b ∷ bs)) refl
        (sign_plain (in_surface form words) b bs e) go
