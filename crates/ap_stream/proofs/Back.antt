-- What is written of a unit is read back.
use Rattle.std.specs.Prelude.{◌≡◌, ℕ, ◌+◌, ◌-◌, ◌*◌, ◌/◌, ◌%◌, ◌<◌, ◌≤◌, List, [], ◌∷◌, ◌++◌, take, length, Bool, true, false, cond, eqb, ltb, leb, ◌&&◌, ◌⊎◌, refl, encode_utf8}
use Rattle.std.specs.List.{flat_map}
use Rattle.std.specs.Str.{encode_utf8_all}
use Rattle.std.proofs.Common.{arith, ap, sym, subst, ◌∙◌, append_assoc, length-append, inl, inr}
use Rattle.std.proofs.lemmas.List.{append-nil}
use Rattle.std.proofs.lemmas.List.Concat.{flat_map-cons}
use Rattle.std.proofs.lemmas.Bool.{eqb-true, ne_eqb, cases_lt}
use Rattle.std.proofs.lemmas.Bool.Decides.{nat_tests}
use Rattle.std.proofs.str.Laws.{one, two, three, four, Scalar}
use Rattle.std.proofs.Math.Seq.{take-append_seam}
use Rattle.ap_symbol.specs.declared.symbol.Symbol.{Symbol}
use Rattle.ap_symbol.specs.declared.symbol.Symbol.TheVariants as symbol
use Rattle.ap_symbol.specs.Rendering.{is_escaped_lem, letter_bytes, tag_bytes, symbol_bytes, rendering}
use Rattle.ap_symbol.specs.Words.{is_white}
use Rattle.ap_symbol.specs.TextWord.{escaped_symbol}
use Rattle.ap_stream.specs.declared.dialect.Dialect.{Dialect}
use Rattle.ap_stream.specs.declared.item.Item.TheVariants as item
use Rattle.ap_stream.specs.Chars.{Char, char_at, is_tail, is_second}
use Rattle.ap_stream.specs.Units.{Form, form_of, Stops, behind_name, name, Reads, sign, of_bare, in_surface, is_none, may_part, Rest, Ends, rest, longer}
use Rattle.ap_stream.proofs.UnitLaws.{first_is, name_char, sign_bare, sign_escape, sign_tag, longer_longer, longer_zero, rest_symbol, rest_slash, rest_dollar}
use Rattle.ap_stream.proofs.InUnitLaws.{first_words, words_brace}
use Rattle.ap_stream.specs.Reading.{Whole, first, of_unit}
use Rattle.ap_stream.specs.Spelling.{unit_bytes, joined, slashed}
use Rattle.ap_symbol.specs.Coded.{AreNamed}
use Rattle.ap_stream.specs.Laws.{IsSpelt, AreSpelt, EachSpelt, AreAsMany, AreWords}

-- a character is read back

cond_true : (v p q : Bool) → (v ≡ true → p ≡ true) → (v ≡ false → q ≡ true) → cond v p q ≡ true
cond_true true p q h k = h refl
cond_true false p q h k = k refl

tail_is : (b : ℕ) → 128 ≤ b → b < 192 → is_tail b ≡ true
tail_is b l h = let p : leb 128 b ≡ true = grind (arith, nat_tests) in let q : ltb b 192 ≡ true =
    grind (arith, nat_tests) in rw (p, q) refl

second_is : (a b : ℕ) → 128 ≤ b → b < 192 → (a ≡ 224 → 160 ≤ b) → (a ≡ 237 → b < 160) →
    (a ≡ 240 → 144 ≤ b) → (a ≡ 244 → b < 144) → is_second a b ≡ true
second_is a b l h e f g k =
    rw (tail_is b l h) (cond_true (eqb a 224) _ _ (λ t. let n = e (eqb-true a 224 t) in
    grind (arith, nat_tests, n))
    (λ _. cond_true (eqb a 237) _ _ (λ t. let n = f (eqb-true a 237 t) in
    grind (arith, nat_tests, n))
    (λ _. cond_true (eqb a 240) _ _ (λ t. let n = g (eqb-true a 240 t) in
    grind (arith, nat_tests, n))
    (λ _. cond_true (eqb a 244) _ _ (λ t. let n = k (eqb-true a 244 t) in
    grind (arith, nat_tests, n)) (λ _. refl)))))

back1 : (c : ℕ) (x : List ℕ) → c < 128 → char_at (c ∷ x) ≡ Char c 1
unfolding char_at
back1 c x h = let t : ltb c 128 ≡ true = grind (arith, nat_tests) in rw t refl

back2 : (a b c : ℕ) (x : List ℕ) → 194 ≤ a → a < 224 → 128 ≤ b → b < 192 →
    64 * (a - 192) + (b - 128) ≡ c → char_at (a ∷ b ∷ x) ≡ Char c 2
unfolding char_at
back2 a b c x l h m k e =
    let t : ltb a 128 ≡ false = grind (arith, nat_tests) in let u : ltb a 194 ≡ false =
    grind (arith, nat_tests) in let v : ltb a 224 ≡ true = grind (arith, nat_tests) in
    rw (t, u, v, tail_is b m k, e) refl

back3 : (a b d c : ℕ) (x : List ℕ) → 224 ≤ a → a < 240 → is_second a b ≡ true → 128 ≤ d → d < 192 →
    64 * (64 * (a - 224) + (b - 128)) + (d - 128) ≡ c → char_at (a ∷ b ∷ d ∷ x) ≡ Char c 3
unfolding char_at
back3 a b d c x l h s m k e =
    let t : ltb a 128 ≡ false = grind (arith, nat_tests) in let u : ltb a 194 ≡ false =
    grind (arith, nat_tests) in let v : ltb a 224 ≡ false = grind (arith, nat_tests) in
    let w : ltb a 240 ≡ true = grind (arith, nat_tests) in
    rw (t, u, v, w, s, tail_is d m k, e) refl

back4 : (a b d f c : ℕ) (x : List ℕ) → 240 ≤ a → a < 245 → is_second a b ≡ true → 128 ≤ d →
    d < 192 → 128 ≤ f → f < 192 → 64 * (64 * (64 * (a - 240) + (b - 128)) + (d - 128)) + (f - 128)
    ≡ c → char_at (a ∷ b ∷ d ∷ f ∷ x) ≡ Char c 4
unfolding char_at
back4 a b d f c x l h s m k n o e =
    let t : ltb a 128 ≡ false = grind (arith, nat_tests) in let u : ltb a 194 ≡ false =
    grind (arith, nat_tests) in let v : ltb a 224 ≡ false = grind (arith, nat_tests) in
    let w : ltb a 240 ≡ false = grind (arith, nat_tests) in
    let z : ltb a 245 ≡ true = grind (arith, nat_tests) in
    rw (t, u, v, w, z, s, tail_is d m k, tail_is f n o, e) refl

abbrev IsBack : List ℕ → ℕ → List ℕ → Type 0
IsBack bytes c x = char_at (bytes ++ x) ≡ Char c (length bytes)

as_encoded : (c : ℕ) (bytes x : List ℕ) → encode_utf8 c ≡ bytes → IsBack bytes c x →
    IsBack (encode_utf8 c) c x
as_encoded c bytes x e h = subst (λ (q : List ℕ). IsBack q c x) (sym e) h

upper_bound : (c : ℕ) → Scalar c → c < 1114112
upper_bound c s = elim s [ inl low ↦ omega (arith, low) | inr high ↦ omega (arith, high.1) ]

back_two : (c : ℕ) (x : List ℕ) → 128 ≤ c → c < 2048 → IsBack (encode_utf8 c) c x
back_two c x a b = as_encoded c ((192 + c / 64) ∷ (128 + c % 64) ∷ []) x (two c a b)
    (back2 (192 + c / 64) (128 + c % 64) c x (omega (arith, a, b)) (omega (arith, a, b))
    (omega arith) (omega arith) (omega (arith, a, b)))

back_three : (c : ℕ) (x : List ℕ) → Scalar c → 2048 ≤ c → c < 65536 → IsBack (encode_utf8 c) c x
back_three c x s b d = as_encoded c ((224 + c / 4096) ∷ (128 + (c / 64) % 64) ∷ (128 + c % 64) ∷ [])
    x (three c b d)
    (back3 (224 + c / 4096) (128 + (c / 64) % 64) (128 + c % 64) c x (omega (arith, b, d))
    (omega (arith, b, d))
    (second_is (224 + c / 4096) (128 + (c / 64) % 64) (omega arith) (omega arith)
    (λ e. omega (arith, b, d, e))
    (λ e. elim s [
      | inl low ↦ omega (arith, b, d, e, low)
      | inr high ↦
          absurd (omega (arith, e, high.0))
    ])
    (λ e. absurd (omega (arith, e, d))) (λ e. absurd (omega (arith, e, d))))
    (omega arith) (omega arith) (omega (arith, b, d)))

back_four : (c : ℕ) (x : List ℕ) → Scalar c → 65536 ≤ c → IsBack (encode_utf8 c) c x
back_four c x s d =
    let m = upper_bound c s in
    as_encoded c ((240 + c / 262144) ∷ (128 + (c / 4096) % 64) ∷ (128 + (c / 64) % 64)
    ∷ (128 + c % 64) ∷ []) x (four c d)
    (back4 (240 + c / 262144) (128 + (c / 4096) % 64) (128 + (c / 64) % 64) (128 + c % 64) c x
    (omega (arith, d, m)) (omega (arith, d, m))
    (second_is (240 + c / 262144) (128 + (c / 4096) % 64) (omega arith) (omega arith)
    (λ e. absurd (omega (arith, e, d))) (λ e. absurd (omega (arith, e, d)))
    (λ e. omega (arith, d, m, e)) (λ e. omega (arith, d, m, e)))
    (omega arith) (omega arith) (omega arith) (omega arith) (omega (arith, d, m)))

pub char_back : (c : ℕ) (x : List ℕ) → Scalar c → char_at (encode_utf8 c ++ x)
    ≡ Char c (length (encode_utf8 c))
char_back c x s = first_case (cases_lt c 128)
  where
    last_case : 2048 ≤ c → (c < 65536) ⊎ (65536 ≤ c) → IsBack (encode_utf8 c) c x
    last_case b (inl d) = back_three c x s b d
    last_case b (inr d) = back_four c x s d

    next_case : 128 ≤ c → (c < 2048) ⊎ (2048 ≤ c) → IsBack (encode_utf8 c) c x
    next_case a (inl b) = back_two c x a b
    next_case a (inr b) = last_case b (cases_lt c 65536)

    first_case : (c < 128) ⊎ (128 ≤ c) → IsBack (encode_utf8 c) c x
    first_case (inl a) = as_encoded c (c ∷ []) x (one c a) (back1 c x a)
    first_case (inr a) = next_case a (cases_lt c 2048)

-- a symbol is read back

escaped_is : (c : ℕ) → is_white c ≡ false → escaped_symbol c ≡ symbol.Letter c
escaped_is c w = rw w refl

-- none of the marks, and nothing that no word holds
plain_bare : (surface : Bool) (c : ℕ) → is_escaped_lem c ≡ false → is_white c ≡ false → (n : ℕ) →
    of_bare surface (Char c n) ≡ Reads (symbol.Letter c) n
plain_bare surface c plain white n = by surface
  where
    no : (d : ℕ) → is_escaped_lem d ≡ true → eqb c d ≡ false
    no d t = ne_eqb c d (λ e. let k : is_escaped_lem c ≡ true =
        subst (λ z. is_escaped_lem z ≡ true) (sym e) t in absurd (cc))

    by : (v : Bool) → of_bare v (Char c n) ≡ Reads (symbol.Letter c) n
    by true = rw (
      no 47 refl,
      no 36 refl,
      no 94 refl,
      no 62 refl,
      no 123 refl,
      no 125 refl,
      no 91 refl,
      no 93 refl,
      no 60 refl,
      no 64 refl,
      white,
    ) refl
    by false = rw (
      no 47 refl,
      no 36 refl,
      no 94 refl,
      no 62 refl,
      no 123 refl,
      no 125 refl,
      no 91 refl,
      no 93 refl,
      white,
      no 43 refl,
      no 35 refl,
      no 126 refl,
      no 42 refl,
      no 64 refl,
    ) refl

-- a text whose front is one character that is not escaped
pub some_bytes : (c : ℕ) (x : List ℕ) → Scalar c → 0 < length (encode_utf8 c)
unfolding char_at
some_bytes c x s = by (encode_utf8 c) (char_back c [] s)
  where
    by : (p : List ℕ) → char_at (p ++ []) ≡ Char c (length p) → 0 < length p
    by [] h = absurd (cc)
    by (a ∷ p) h = omega arith

pub not_first : (c d : ℕ) → Scalar c → d < 128 → eqb c d ≡ false → first_is d (encode_utf8 c) ≡ false
unfolding char_at
not_first c d s small e = by (encode_utf8 c) (char_back c [] s)
  where
    by : (p : List ℕ) → char_at (p ++ []) ≡ Char c (length p) → first_is d p ≡ false
    by [] h = refl
    by (a ∷ p) h = ne_eqb a d (λ is. let t : ltb a 128 ≡ true = grind (arith, nat_tests) in
        let k : Char a 1 ≡ Char c (length (a ∷ p)) = rw t at h in let m : a ≡ c = cc in
        let n : eqb c d ≡ true = grind (arith, nat_tests) in absurd (cc))

pub letter_sign : (surface : Bool) (c : ℕ) (x : List ℕ) → Scalar c → is_white c ≡ false →
    sign surface (letter_bytes c ++ x) ≡ Reads (symbol.Letter c) (length (letter_bytes c))
letter_sign surface c x s white = by (is_escaped_lem c) refl
  where
    no : is_escaped_lem c ≡ false → (d : ℕ) → is_escaped_lem d ≡ true → eqb c d ≡ false
    no plain d t = ne_eqb c d (λ e. let k : is_escaped_lem c ≡ true =
        subst (λ z. is_escaped_lem z ≡ true) (sym e) t in absurd (cc))

    by : (v : Bool) → is_escaped_lem c ≡ v →
        sign surface (cond v (92 ∷ encode_utf8 c) (encode_utf8 c) ++ x)
        ≡ Reads (symbol.Letter c) (length (cond v (92 ∷ encode_utf8 c) (encode_utf8 c)))
    by true e = sign_escape surface (encode_utf8 c) x (Char c (length (encode_utf8 c)))
        (char_back c x s) ∙ rw (escaped_is c white) (ap (Reads (symbol.Letter c)) (omega arith))
    by false e = sign_bare surface (encode_utf8 c) x (Char c (length (encode_utf8 c)))
        (some_bytes c x s) (not_first c 92 s (omega arith) (no e 92 refl))
        (λ _. not_first c 60 s (omega arith) (no e 60 refl)) (char_back c x s)
        ∙ plain_bare surface c e white (length (encode_utf8 c))

-- the names of tags
pub named_on : (cs x : List ℕ) → AreNamed cs → name 0 (encode_utf8_all cs ++ (62 ∷ x))
    ≡ Stops (length (encode_utf8_all cs)) 62
unfolding name char_at
named_on [] x h = refl
named_on (c ∷ cs) x h =
    let here : char_at (encode_utf8 c) ≡ Char c (length (encode_utf8 c)) =
    ap char_at (sym (append-nil (encode_utf8 c))) ∙ char_back c [] h.0 in
    let on : name 0 (encode_utf8 c ++ (encode_utf8_all cs ++ (62 ∷ x)))
    ≡ behind_name (length (encode_utf8 c)) (name 0 (encode_utf8_all cs ++ (62 ∷ x))) =
    name_char (encode_utf8 c) (encode_utf8_all cs ++ (62 ∷ x)) c here ∙ rw h.1 refl in
    ap (name 0) (append_assoc (encode_utf8 c) (encode_utf8_all cs) (62 ∷ x)) ∙ on
    ∙ ap (behind_name (length (encode_utf8 c))) (named_on cs x h.2)
    ∙ ap (λ n. Stops n 62) (sym (length-append (encode_utf8 c) (encode_utf8_all cs)))

pub some_named : (cs : List ℕ) → AreNamed cs → 0 < length cs → 0 < length (encode_utf8_all cs)
some_named [] h s = absurd (omega arith)
some_named (c ∷ cs) h s = let n = some_bytes c [] h.0 in let l =
    length-append (encode_utf8 c) (encode_utf8_all cs) in omega (arith, n, l)

pub tag_sign : (cs x : List ℕ) → AreNamed cs → 0 < length cs →
    sign false (tag_bytes (encode_utf8_all cs) ++ x)
    ≡ Reads (symbol.Tag (encode_utf8_all cs)) (length (tag_bytes (encode_utf8_all cs)))
tag_sign cs x h some =
    let n : ℕ = length (encode_utf8_all cs) in
    let full : eqb (length (encode_utf8_all cs)) 0 ≡ false = let m = some_named cs h some in
    grind (arith, nat_tests, m) in
    let front : take (length (encode_utf8_all cs)) (encode_utf8_all cs ++ (62 ∷ x))
    ≡ encode_utf8_all cs = take-append_seam (encode_utf8_all cs) (62 ∷ x) in
    let size : 2 + length (encode_utf8_all cs) ≡ length (tag_bytes (encode_utf8_all cs)) = let l =
    length-append (encode_utf8_all cs) (62 ∷ []) in omega (arith, l) in
    ap (λ q. sign false (60 ∷ q)) (append_assoc (encode_utf8_all cs) (62 ∷ []) x)
    ∙ sign_tag (encode_utf8_all cs ++ (62 ∷ x)) (Stops (length (encode_utf8_all cs)) 62)
    (named_on cs x h)
    ∙ rw (full, front) (ap (Reads (symbol.Tag (encode_utf8_all cs))) size)

-- each symbol

blank_sign : (surface : Bool) (x : List ℕ) → sign surface (32 ∷ x) ≡ Reads symbol.Blank 1
unfolding sign char_at
blank_sign true x = refl
blank_sign false x = refl

mark_sign : (surface : Bool) (b : ℕ) (s : Symbol) (x : List ℕ) → surface ≡ false →
    sign false (b ∷ x) ≡ Reads s 1 → sign surface (b ∷ x) ≡ Reads s 1
mark_sign surface b s x e h = ap (λ v. sign v (b ∷ x)) e ∙ h

pub symbol_sign : (surface : Bool) (s : Symbol) (x : List ℕ) → IsSpelt surface s →
    sign surface (symbol_bytes s ++ x) ≡ Reads s (length (symbol_bytes s))
unfolding sign char_at
symbol_sign surface (symbol.Letter c) x h = letter_sign surface c x h.0 h.1
symbol_sign surface (symbol.Tag name) x h =
    let cs : List ℕ = h.1.0 in
    ap (λ v. sign v (tag_bytes name ++ x)) h.0
    ∙ subst (λ (q : List ℕ). sign false (tag_bytes q ++ x)
    ≡ Reads (symbol.Tag q) (length (tag_bytes q))) (sym h.1.1) (tag_sign h.1.0 x h.1.2 h.1.3)
symbol_sign surface symbol.Blank x h = blank_sign surface x
symbol_sign surface symbol.Join x h = mark_sign surface 43 symbol.Join x h refl
symbol_sign surface symbol.Queue x h = mark_sign surface 35 symbol.Queue x h refl
symbol_sign surface symbol.Alarm x h = mark_sign surface 126 symbol.Alarm x h refl
symbol_sign surface symbol.Star x h = mark_sign surface 42 symbol.Star x h refl
symbol_sign surface symbol.At x h = mark_sign surface 64 symbol.At x h refl

some_symbol : (surface : Bool) (s : Symbol) → IsSpelt surface s → 0 < length (symbol_bytes s)
some_symbol surface (symbol.Letter c) h = by (is_escaped_lem c)
  where
    by : (v : Bool) → 0 < length (cond v (92 ∷ encode_utf8 c) (encode_utf8 c))
    by true = omega arith
    by false = some_bytes c [] h.0
some_symbol surface (symbol.Tag name) h = omega arith
some_symbol surface symbol.Blank h = omega arith
some_symbol surface symbol.Join h = omega arith
some_symbol surface symbol.Queue h = omega arith
some_symbol surface symbol.Alarm h = omega arith
some_symbol surface symbol.Star h = omega arith
some_symbol surface symbol.At h = omega arith

-- a word
pub word_back : (form : Form) (words : List (List Symbol)) (word more : List Symbol) (x : List ℕ) →
    AreSpelt (in_surface form words) more →
    rest form words word 0 (rendering more ++ x)
    ≡ longer (length (rendering more)) (rest form words (word ++ more) 0 x)
word_back form words word [] x h = ap (λ q. rest form words q 0 x) (sym (append-nil word))
    ∙ sym (longer_zero (rest form words (word ++ []) 0 x))
word_back form words word (s ∷ more) x h =
    let one : rest form words word 0 (symbol_bytes s ++ (rendering more ++ x))
    ≡ longer (length (symbol_bytes s))
    (rest form words (word ++ s ∷ []) 0 (rendering more ++ x)) =
    rest_symbol form words word (symbol_bytes s) (rendering more ++ x) s
    (some_symbol (in_surface form words) s h.0)
    (symbol_sign (in_surface form words) s (rendering more ++ x) h.0) in
    ap (rest form words word 0) (ap (λ q. q ++ x) (flat_map-cons symbol_bytes s more)
    ∙ append_assoc (symbol_bytes s) (rendering more) x) ∙ one
    ∙ ap (longer (length (symbol_bytes s))) (word_back form words (word ++ s ∷ []) more x h.1)
    ∙ longer_longer (length (symbol_bytes s)) (length (rendering more))
    (rest form words ((word ++ s ∷ []) ++ more) 0 x)
    ∙ ap (λ q. longer (length (symbol_bytes s) + length (rendering more)) (rest form words q 0 x))
    (append_assoc word (s ∷ []) more)
    ∙ ap (λ n. longer n (rest form words (word ++ s ∷ more) 0 x))
    (sym (ap length (flat_map-cons symbol_bytes s more)
    ∙ length-append (symbol_bytes s) (rendering more)))

pub none_after : (words : List (List Symbol)) (word : List Symbol) →
    is_none (words ++ word ∷ []) ≡ false
none_after [] word = refl
none_after (w ∷ words) word = refl

pub not_surface : (form : Form) (words : List (List Symbol)) → is_none words ≡ false →
    in_surface form words ≡ false
not_surface form words h = rw h (by form.surface)
  where
    by : (v : Bool) → (v && false) ≡ false
    by true = refl
    by false = refl

may_go : (several part : Bool) (r u v : Rest) → several ≡ true → part ≡ true →
    cond several (cond part r u) v ≡ r
may_go several part r u v e f = rw (e, f) refl

-- the words behind the first
later_back : (form : Form) (words : List (List Symbol)) (word : List Symbol)
    (more : List (List Symbol)) (x : List ℕ) → form.braced ≡ false → form.several ≡ true →
    is_none words ≡ false → EachSpelt more →
    rest form words word 0 (flat_map slashed more ++ 36 ∷ x)
    ≡ Ends (words ++ word ∷ more) (length (flat_map slashed more) + 1)
later_back form words word [] x b s n h = rest_dollar form words word x ∙ rw (b, s, n) refl
later_back form words word (w ∷ more) x b s n h =
    let tail : List ℕ = flat_map slashed more ++ 36 ∷ x in
    let part : may_part words word ≡ true = rw n refl in
    let spelt : AreSpelt (in_surface form (words ++ word ∷ [])) w =
    subst (λ v. AreSpelt v w)
    (sym (not_surface form (words ++ word ∷ []) (none_after words word))) h.0 in
    let here : rest form (words ++ word ∷ []) [] 0
    (rendering w ++ (flat_map slashed more ++ 36 ∷ x))
    ≡ longer (length (rendering w))
    (Ends ((words ++ word ∷ []) ++ w ∷ more) (length (flat_map slashed more) + 1)) =
    word_back form (words ++ word ∷ []) [] w (flat_map slashed more ++ 36 ∷ x) spelt
    ∙ ap (longer (length (rendering w)))
    (later_back form (words ++ word ∷ []) w more x b s (none_after words word) h.1) in
    let size : 1 + (length (rendering w) + (length (flat_map slashed more) + 1))
    ≡ length (flat_map slashed (w ∷ more)) + 1 =
    let l = ap length (flat_map-cons slashed w more)
    ∙ length-append (slashed w) (flat_map slashed more) in omega (arith, l) in
    ap (rest form words word 0) (ap (λ q. q ++ 36 ∷ x) (flat_map-cons slashed w more)
    ∙ append_assoc (slashed w) (flat_map slashed more) (36 ∷ x))
    ∙ rest_slash form words word (rendering w ++ (flat_map slashed more ++ 36 ∷ x))
    ∙ may_go form.several (may_part words word) _ _ _ s part ∙ ap (longer 1) here
    ∙ ap (Ends ((words ++ word ∷ []) ++ w ∷ more)) size
    ∙ ap (λ q. Ends q (length (flat_map slashed (w ∷ more)) + 1))
    (append_assoc words (word ∷ []) (w ∷ more))

pub first_surface : (form : Form) → in_surface form [] ≡ form.surface
first_surface form = by form.surface
  where
    by : (v : Bool) → (v && true) ≡ v
    by true = refl
    by false = refl

some_is : (word : List Symbol) → 0 < length word → is_none word ≡ false
some_is [] h = absurd (omega arith)
some_is (s ∷ word) h = refl

-- from the end of the first word on
behind_first : (form : Form) (word : List Symbol) (more : List (List Symbol)) (x : List ℕ) →
    form.braced ≡ false → 0 < length word → EachSpelt more → AreAsMany form.several more →
    rest form [] word 0 (flat_map slashed more ++ 36 ∷ x)
    ≡ Ends (word ∷ more) (length (flat_map slashed more) + 1)
behind_first form word [] x b some h many = rest_dollar form [] word x
    ∙ rw (b, many, some_is word some) refl
behind_first form word (w ∷ more) x b some h many =
    let part : may_part [] word ≡ true = rw (some_is word some) refl in
    let spelt : AreSpelt (in_surface form (word ∷ [])) w =
    subst (λ v. AreSpelt v w) (sym (not_surface form (word ∷ []) refl)) h.0 in
    let here : rest form (word ∷ []) [] 0 (rendering w ++ (flat_map slashed more ++ 36 ∷ x))
    ≡ longer (length (rendering w))
    (Ends (word ∷ w ∷ more) (length (flat_map slashed more) + 1)) =
    word_back form (word ∷ []) [] w (flat_map slashed more ++ 36 ∷ x) spelt
    ∙ ap (longer (length (rendering w))) (later_back form (word ∷ []) w more x b many refl h.1) in
    let size : 1 + (length (rendering w) + (length (flat_map slashed more) + 1))
    ≡ length (flat_map slashed (w ∷ more)) + 1 =
    let l = ap length (flat_map-cons slashed w more)
    ∙ length-append (slashed w) (flat_map slashed more) in omega (arith, l) in
    ap (rest form [] word 0) (ap (λ q. q ++ 36 ∷ x) (flat_map-cons slashed w more)
    ∙ append_assoc (slashed w) (flat_map slashed more) (36 ∷ x))
    ∙ rest_slash form [] word (rendering w ++ (flat_map slashed more ++ 36 ∷ x))
    ∙ may_go form.several (may_part [] word) _ _ _ many part ∙ ap (longer 1) here
    ∙ ap (Ends (word ∷ w ∷ more)) size

pub unit_back : (dialect : Dialect) (words : List (List Symbol)) (x : List ℕ) →
    AreWords dialect words → first dialect (unit_bytes words ++ x)
    ≡ Whole (item.Unit words) (length (unit_bytes words))
unit_back dialect [] x h = absurd h
unit_back dialect (word ∷ more) x h =
    let spelt : AreSpelt (in_surface (form_of dialect) []) word =
    subst (λ v. AreSpelt v word) (sym (first_surface (form_of dialect))) h.2 in
    let tail : (joined (word ∷ more) ++ 36 ∷ []) ++ x ≡ rendering word
    ++ (flat_map slashed more ++ 36 ∷ x) = append_assoc (joined (word ∷ more)) (36 ∷ []) x
    ∙ append_assoc (rendering word) (flat_map slashed more) (36 ∷ x) in
    let whole : rest (form_of dialect) [] [] 0 (rendering word ++ (flat_map slashed more ++ 36 ∷ x))
    ≡ longer (length (rendering word))
    (Ends (word ∷ more) (length (flat_map slashed more) + 1)) =
    word_back (form_of dialect) [] [] word (flat_map slashed more ++ 36 ∷ x) spelt
    ∙ ap (longer (length (rendering word)))
    (behind_first (form_of dialect) word more x
    (words_brace dialect h.0) h.1 h.3 h.4) in
    let size : 1 + (length (rendering word) + (length (flat_map slashed more) + 1))
    ≡ length (unit_bytes (word ∷ more)) =
    let l = length-append (joined (word ∷ more)) (36 ∷ []) in let k =
    length-append (rendering word) (flat_map slashed more) in omega (arith, l, k) in
    first_words dialect ((joined (word ∷ more) ++ 36 ∷ []) ++ x) h.0
    ∙ ap (λ q. of_unit (rest (form_of dialect) [] [] 0 q)) tail ∙ ap of_unit whole
    ∙ ap (Whole (item.Unit (word ∷ more))) size
