-- The words of a unit that is read.
use Rattle.std.specs.Prelude.{◌≡◌, ℕ, zero, suc, ◌+◌, ◌-◌, ◌*◌, ◌<◌, ◌≤◌, pred, List, [], ◌∷◌, ◌++◌, drop, take, length, Bool, true, false, cond, eqb, ltb, leb, ◌&&◌, ◌⊎◌, not, refl, encode_utf8}
use Rattle.std.specs.Str.{encode_utf8_all}
use Rattle.std.proofs.Common.{arith, ap, sym, subst, ◌∙◌, inl, inr}
use Rattle.std.proofs.lemmas.Bool.{and_parts, cases_eq, cases_lt}
use Rattle.std.proofs.lemmas.Bool.Decides.{nat_tests}
use Rattle.std.proofs.Math.Seq.{take-add}
use Rattle.std.proofs.lemmas.List.{drop-drop}
use Rattle.ap_symbol.specs.declared.symbol.Symbol.{Symbol}
use Rattle.ap_symbol.specs.declared.symbol.Symbol.TheVariants as symbol
use Rattle.ap_symbol.specs.Words.{is_white}
use Rattle.ap_symbol.specs.TagNames.{is_reserved_lem}
use Rattle.ap_symbol.specs.TextWord.{escaped_symbol, bare_symbol}
use Rattle.ap_stream.specs.declared.dialect.Dialect.{Dialect}
use Rattle.ap_stream.specs.declared.dialect.Dialect.TheVariants.{Chunked}
use Rattle.ap_stream.specs.declared.fault.MalformedKind.TheVariants.{Stray, EmptyWord, BadTag}
use Rattle.ap_stream.specs.declared.item.Item.TheVariants as item
use Rattle.ap_stream.specs.Dialects.{has_words, is_refused, has_chunks, has_units}
use Rattle.ap_stream.specs.Blanks.{Run, Open, Inside, BadChar, Done, blank, begins_blank}
use Rattle.ap_stream.specs.Chars.{Front, Part, NotChar, Char, char_at, tail2, tail3, tail4, is_tail, is_second}
use Rattle.ap_stream.proofs.CharLaws.{Fits, char_fits}
use Rattle.ap_stream.specs.Units.{Form, form_of, Name, Runs, Breaks, Stops, name, name_by, behind_name, Sign, Awaits, Bars, Reads, Slash, Dollar, sign, of_bare, of_name, of_escape, bare_of, is_barred, begins_tag, in_surface, is_none, may_part, may_end, Rest, Lacks, Wrong, Ends, rest, longer, gone, Brace, early}
use Rattle.ap_symbol.specs.Kinds.{first_word}
use Rattle.ap_stream.specs.Reading.{First, Needs, Whole, Faulty, Bad, first, of_unit, of_run, of_escaped, of_char, begins_unit, plain, of_body, of_chunk, of_caret}
use Rattle.ap_symbol.specs.Coded.{IsCode, AreNamed}
use Rattle.ap_stream.specs.Laws.{IsSpelt, AreSpelt, EachSpelt, AreAsMany, AreWords}
use Rattle.ap_stream.proofs.Encoding.{tail_range, second_parts, char_encodes, Encodes}
use Rattle.ap_stream.specs.Chunks.{Body, Opens, Fails, Closes, body}
use Rattle.ap_stream.specs.declared.item.Inner.{Inner}
use Rattle.ap_stream.proofs.InUnitLaws.{words_brace, units_words, braced_chunks}

-- a character that is read has a code
abbrev Coded : Front → Type 0
Coded Part = Unit {0}
Coded NotChar = Unit {0}
Coded (Char c n) = IsCode c

coded_cond : (b : Bool) (f g : Front) → (b ≡ true → Coded f) → (b ≡ false → Coded g) →
    Coded (cond b f g)
coded_cond true f g h k = h refl
coded_cond false f g h k = k refl

below : (a n : ℕ) → ltb a n ≡ true → a < n
below a n h = grind (arith, nat_tests)

above : (a n : ℕ) → ltb a n ≡ false → n ≤ a
above a n h = grind (arith, nat_tests)

second_237 : (b : ℕ) → is_second 237 b ≡ true → b < 160
second_237 b h = let p = (and_parts (is_tail b) (ltb b 160) h).1 in grind (arith, nat_tests, p)

second_244 : (b : ℕ) → is_second 244 b ≡ true → b < 144
second_244 b h = let p = (and_parts (is_tail b) (ltb b 144) h).1 in grind (arith, nat_tests, p)

small : (c : ℕ) → c < 55296 → IsCode c
small c h = inl h

coded3 : (a b c : ℕ) → 224 ≤ a → a < 240 → is_second a b ≡ true → 128 ≤ c → c < 192 →
    IsCode (64 * (64 * (a - 224) + (b - 128)) + (c - 128))
coded3 a b c l m s n o = by (cases_lt a 237)
  where
    r : (128 ≤ b) × (b < 192)
    r = second_parts a b s

    last : (a ≡ 237) ⊎ ((a ≡ 237) → ⊥) → 237 ≤ a →
        IsCode (64 * (64 * (a - 224) + (b - 128)) + (c - 128))
    last (inl e) k = let t = second_237 b (subst (λ z. is_second z b ≡ true) e s) in
        inl (omega (arith, t, e, n, o, (second_parts a b s).0))
    last (inr ne) k = inr (
      omega (
        arith,
        k,
        ne,
        m,
        n,
        o,
        (second_parts a b s).0,
        (second_parts a b s).1,
      ),
      omega (arith, k, ne, m, n, o, (second_parts a b s).0, (second_parts a b s).1),
    )

    by : (a < 237) ⊎ (237 ≤ a) → IsCode (64 * (64 * (a - 224) + (b - 128)) + (c - 128))
    by (inl k) = inl (omega (arith, k, l, n, o, (second_parts a b s).0, (second_parts a b s).1))
    by (inr k) = last (cases_eq a 237) k

coded4 : (a b c d : ℕ) → 240 ≤ a → a < 245 → is_second a b ≡ true → (a ≡ 240 → 144 ≤ b) → 128 ≤ c →
    c < 192 → 128 ≤ d → d < 192 →
    IsCode (64 * (64 * (64 * (a - 240) + (b - 128)) + (c - 128)) + (d - 128))
coded4 a b c d l m s low n o p q = inr (by_low (cases_eq a 240), by_high (cases_eq a 244))
  where
    by_low : (a ≡ 240) ⊎ ((a ≡ 240) → ⊥) →
        57344 ≤ 64 * (64 * (64 * (a - 240) + (b - 128)) + (c - 128)) + (d - 128)
    by_low (inl e) = let t = low e in omega (arith, t, e)
    by_low (inr ne) = omega (arith, ne, l)

    by_high : (a ≡ 244) ⊎ ((a ≡ 244) → ⊥) →
        64 * (64 * (64 * (a - 240) + (b - 128)) + (c - 128)) + (d - 128) < 1114112
    by_high (inl e) = let t = second_244 b (subst (λ z. is_second z b ≡ true) e s) in
        omega (arith, t, e, o, q)
    by_high (inr ne) = omega (arith, ne, m, o, q, (second_parts a b s).1)

second_240 : (b : ℕ) → is_second 240 b ≡ true → 144 ≤ b
second_240 b h = let p = (and_parts (is_tail b) (leb 144 b) h).1 in grind (arith, nat_tests, p)

coded_tail2 : (a : ℕ) (bs : List ℕ) → 194 ≤ a → a < 224 → Coded (tail2 a bs)
coded_tail2 a [] l m = tt
coded_tail2 a (b ∷ bs) l m =
    coded_cond (is_tail b) (Char _ 2) NotChar (λ t. let r = tail_range b t in
    small (64 * (a - 192) + (b - 128)) (omega (arith, l, m, r.0, r.1))) (λ _. tt)

coded_tail3 : (a : ℕ) (bs : List ℕ) → 224 ≤ a → a < 240 → Coded (tail3 a bs)
coded_tail3 a [] l m = tt
coded_tail3 a (b ∷ []) l m = coded_cond (is_second a b) Part NotChar (λ _. tt) (λ _. tt)
coded_tail3 a (b ∷ c ∷ bs) l m =
    coded_cond (is_second a b) _ NotChar
    (λ s. coded_cond (is_tail c) (Char _ 3) NotChar (λ t. let u = tail_range c t in
    coded3 a b c l m s u.0 u.1) (λ _. tt)) (λ _. tt)

coded_tail4 : (a : ℕ) (bs : List ℕ) → 240 ≤ a → a < 245 → Coded (tail4 a bs)
coded_tail4 a [] l m = tt
coded_tail4 a (b ∷ []) l m = coded_cond (is_second a b) Part NotChar (λ _. tt) (λ _. tt)
coded_tail4 a (b ∷ c ∷ []) l m =
    coded_cond (is_second a b) _ NotChar
    (λ _. coded_cond (is_tail c) Part NotChar (λ _. tt) (λ _. tt)) (λ _. tt)
coded_tail4 a (b ∷ c ∷ d ∷ bs) l m =
    coded_cond (is_second a b) _ NotChar
    (λ s. coded_cond (is_tail c) _ NotChar (λ t. coded_cond (is_tail d) (Char _ 4) NotChar
    (λ v. let u = tail_range c t in let w = tail_range d v in
    coded4 a b c d l m s (λ e. second_240 b (subst (λ z. is_second z b ≡ true) e s)) u.0 u.1 w.0
    w.1) (λ _. tt)) (λ _. tt)) (λ _. tt)

pub char_coded : (bs : List ℕ) → Coded (char_at bs)
unfolding char_at
char_coded [] = tt
char_coded (a ∷ bs) = coded_cond (ltb a 128) (Char a 1) _
    (λ h. small a (let k = below a 128 h in omega (arith, k)))
    (λ _. coded_cond (ltb a 194) NotChar _ (λ _. tt)
    (λ l. coded_cond (ltb a 224) _ _ (λ m. coded_tail2 a bs (above a 194 l) (below a 224 m))
    (λ n. coded_cond (ltb a 240) _ _ (λ m. coded_tail3 a bs (above a 224 n) (below a 240 m))
    (λ p. coded_cond (ltb a 245) _ NotChar
    (λ q. coded_tail4 a bs (above a 240 p) (below a 245 q)) (λ _. tt)))))

-- the symbol that is read is one that bytes spell

spelt_escaped : (surface : Bool) (c : ℕ) → IsCode c → IsSpelt surface (escaped_symbol c)
spelt_escaped surface c code = by (is_white c) refl
  where
    by : (v : Bool) → is_white c ≡ v → IsSpelt surface (cond v symbol.Blank (symbol.Letter c))
    by true e = tt
    by false e = (code, e)

pick : (P : Symbol → Type 0) (b : Bool) (s t : Symbol) → (b ≡ true → P s) → (b ≡ false → P t) →
    P (cond b s t)
pick P true s t h k = h refl
pick P false s t h k = k refl

spelt_bare : (c : ℕ) → IsCode c → IsSpelt false (bare_symbol c)
spelt_bare c code =
    pick (IsSpelt false) (is_white c) symbol.Blank _ (λ _. tt)
    (λ w. pick (IsSpelt false) (eqb c 43) symbol.Join _ (λ _. refl)
    (λ _. pick (IsSpelt false) (eqb c 35) symbol.Queue _ (λ _. refl)
    (λ _. pick (IsSpelt false) (eqb c 126) symbol.Alarm _ (λ _. refl)
    (λ _. pick (IsSpelt false) (eqb c 42) symbol.Star _ (λ _. refl)
    (λ _. pick (IsSpelt false) (eqb c 64) symbol.At (symbol.Letter c) (λ _. refl)
    (λ _. (code, w)))))))

-- a name is the bytes of characters, behind which this one stands
pub record IsNamed (bs : List ℕ) (n c : ℕ) : Type 0 where
  pub characters : List ℕ
  pub is : take n bs ≡ encode_utf8_all characters
  pub named : AreNamed characters
  pub some : 0 < n → 0 < length characters
  pub size : ℕ
  pub ends : char_at (drop n bs) ≡ Char c size

abbrev pub NameIs : List ℕ → Name → Type 0
NameIs bs Runs = Unit {0}
NameIs bs Breaks = Unit {0}
NameIs bs (Stops n c) = IsNamed bs n c

pub named_by : (skip : ℕ) (bs : List ℕ) → NameIs (drop skip bs) (name skip bs)
unfolding name
named_by skip [] = tt
named_by (suc skip) (b ∷ bs) = named_by skip bs
named_by zero (b ∷ bs) = at (char_at (b ∷ bs)) refl (λ k. named_by k bs)
  where
    more : (c n : ℕ) → char_at (b ∷ bs) ≡ Char c n → is_reserved_lem c ≡ false → (r : Name) →
        NameIs (drop (pred n) bs) r → NameIs (b ∷ bs) (behind_name n r)
    more c n e free Runs h = tt
    more c n e free Breaks h = tt
    more c n e free (Stops m d) h =
        let fits : Fits (Char c n) (length (b ∷ bs)) =
        subst (λ (f : Front). Fits f (length (b ∷ bs))) e (char_fits (b ∷ bs)) in
        let code : Coded (Char c n) = subst Coded e (char_coded (b ∷ bs)) in
        let spelled : Encodes (b ∷ bs) (Char c n) =
        subst (λ (f : Front). Encodes (b ∷ bs) f) e (char_encodes (b ∷ bs)) in
        let on : drop n (b ∷ bs) ≡ drop (pred n) bs = next n fits.0 in
        record {
          characters = c ∷ h.characters;
          is = take-add n m (b ∷ bs) ∙ ap (λ q. q ++ take m (drop n (b ∷ bs))) (sym spelled)
              ∙ ap (λ q. encode_utf8 c ++ take m q) on ∙ ap (λ q. encode_utf8 c ++ q) h.is;
          named = (code, free, h.named);
          some = λ _. omega arith;
          size = h.size;
          ends = ap char_at (sym (drop-drop m n (b ∷ bs)) ∙ ap (drop m) on) ∙ h.ends;
        }
      where
        next : (n : ℕ) → 0 < n → drop n (b ∷ bs) ≡ drop (pred n) bs
        next zero s = absurd (omega (arith, s))
        next (suc n) s = refl

    test : (c n : ℕ) → char_at (b ∷ bs) ≡ Char c n → (v : Bool) → is_reserved_lem c ≡ v →
        (r : Name) → NameIs (drop (pred n) bs) r →
        NameIs (b ∷ bs) (cond v (Stops 0 c) (behind_name n r))
    test c n e true v r h = record {
      characters = [];
      is = refl;
      named = tt;
      some =
          λ s. absurd (omega (arith, s));
      size = n;
      ends = e;
    }
    test c n e false v r h = more c n e v r h

    at : (f : Front) → char_at (b ∷ bs) ≡ f → ((k : ℕ) → NameIs (drop k bs) (name k bs)) →
        NameIs (b ∷ bs) (name_by f (λ skip. name skip bs))
    at Part e go = tt
    at NotChar e go = tt
    at (Char c n) e go = test c n e (is_reserved_lem c) refl (name (pred n) bs) (go (pred n))

-- a symbol that is read

abbrev SignSpelt : Bool → Sign → Type 0
SignSpelt surface Awaits = Unit {0}
SignSpelt surface (Bars kind) = Unit {0}
SignSpelt surface (Reads s n) = IsSpelt surface s
SignSpelt surface Slash = Unit {0}
SignSpelt surface Dollar = Unit {0}
SignSpelt surface Brace = Unit {0}

sign_cond : (surface b : Bool) (s t : Sign) → (b ≡ true → SignSpelt surface s) →
    (b ≡ false → SignSpelt surface t) → SignSpelt surface (cond b s t)
sign_cond surface true s t h k = h refl
sign_cond surface false s t h k = k refl

spelt_escape : (surface : Bool) (f : Front) → Coded f → SignSpelt surface (of_escape f)
spelt_escape surface Part h = tt
spelt_escape surface NotChar h = tt
spelt_escape surface (Char c n) h = spelt_escaped surface c h

spelt_of : (surface : Bool) (c : ℕ) → IsCode c → IsSpelt surface (bare_of surface c)
spelt_of true c code = spelt_escaped true c code
spelt_of false c code = spelt_bare c code

spelt_of_bare : (surface : Bool) (f : Front) → Coded f → SignSpelt surface (of_bare surface f)
spelt_of_bare surface Part h = tt
spelt_of_bare surface NotChar h = tt
spelt_of_bare surface (Char c n) h =
    sign_cond surface (eqb c 47) Slash _ (λ _. tt)
    (λ _. sign_cond surface (eqb c 36) Dollar _ (λ _. tt)
    (λ _. sign_cond surface (eqb c 123) Brace _ (λ _. tt)
    (λ _. sign_cond surface (is_barred surface c) (Bars Stray) (Reads (bare_of surface c) n)
    (λ _. tt) (λ _. spelt_of surface c h))))

spelt_name : (surface : Bool) (bs : List ℕ) (r : Name) → surface ≡ false → NameIs bs r →
    SignSpelt surface (of_name bs r)
spelt_name surface bs Runs u h = tt
spelt_name surface bs Breaks u h = tt
spelt_name surface bs (Stops n c) u h =
    sign_cond surface (eqb c 62 && not (eqb n 0)) (Reads (symbol.Tag (take n bs)) (2 + n))
    (Bars BadTag)
    (λ t. (
      u,
      (
        h.characters,
        h.is,
        h.named,
        h.some (let e = (and_parts (eqb c 62) (not (eqb n 0)) t).1 in positive n e),
      ),
    )) (λ _. tt)
  where
    positive : (n : ℕ) → not (eqb n 0) ≡ true → 0 < n
    positive n e = grind (arith, nat_tests, e)

no_surface : (b : ℕ) (surface : Bool) → begins_tag surface b ≡ true → surface ≡ false
no_surface b surface h = unset surface (and_parts (eqb b 60) (not surface) h).1
  where
    unset : (v : Bool) → not v ≡ true → v ≡ false
    unset true h = absurd (cc)
    unset false h = refl

sign_spelt : (surface : Bool) (bs : List ℕ) → SignSpelt surface (sign surface bs)
unfolding sign
sign_spelt surface [] = tt
sign_spelt surface (b ∷ bs) =
    sign_cond surface (eqb b 92) (of_escape (char_at bs)) _
    (λ _. spelt_escape surface (char_at bs) (char_coded bs))
    (λ _. sign_cond surface (begins_tag surface b) (of_name bs (name 0 bs))
    (of_bare surface (char_at (b ∷ bs)))
    (λ t. spelt_name surface bs (name 0 bs) (no_surface b surface t) (named_by 0 bs))
    (λ _. spelt_of_bare surface (char_at (b ∷ bs)) (char_coded (b ∷ bs))))

-- words

spelt_more : (surface : Bool) (word : List Symbol) (s : Symbol) → AreSpelt surface word →
    IsSpelt surface s → AreSpelt surface (word ++ s ∷ [])
spelt_more surface [] s h k = (k, tt)
spelt_more surface (x ∷ word) s h k = (h.0, spelt_more surface word s h.1 k)

each_more : (words : List (List Symbol)) (word : List Symbol) → EachSpelt words →
    AreSpelt false word → EachSpelt (words ++ word ∷ [])
each_more [] word h k = (k, tt)
each_more (x ∷ words) word h k = (h.0, each_more words word h.1 k)

-- the words before and the symbols of the next one
abbrev SoFar : Form → List (List Symbol) → List Symbol → Type 0
SoFar form [] word = AreSpelt form.surface word
SoFar form (first ∷ words) word = (0 < length first) × AreSpelt form.surface first × EachSpelt words
    × (form.several ≡ true) × AreSpelt false word

abbrev Whole_words : Form → List (List Symbol) → Type 0
Whole_words form [] = ⊥
Whole_words form (word ∷ words) = (0 < length word) × AreSpelt form.surface word × EachSpelt words
    × AreAsMany form.several words

far_symbol : (form : Form) (words : List (List Symbol)) (word : List Symbol) (s : Symbol) →
    SoFar form words word → IsSpelt (in_surface form words) s → SoFar form words (word ++ s ∷ [])
far_symbol form [] word s h k =
    spelt_more form.surface word s h (subst (λ v. IsSpelt v s) (and_one form.surface) k)
  where
    and_one : (v : Bool) → (v && true) ≡ v
    and_one true = refl
    and_one false = refl
far_symbol form (first ∷ words) word s h k = (
  h.0,
  h.1,
  h.2,
  h.3,
  spelt_more false word s h.4
      (subst (λ v. IsSpelt v s) (and_none form.surface) k),
)
  where
    and_none : (v : Bool) → (v && false) ≡ false
    and_none true = refl
    and_none false = refl

far_slash : (form : Form) (words : List (List Symbol)) (word : List Symbol) →
    SoFar form words word → form.several ≡ true → may_part words word ≡ true →
    SoFar form (words ++ word ∷ []) []
far_slash form [] word h several part = (some word part, h, tt, several, tt)
  where
    some : (w : List Symbol) → not (true && is_none w) ≡ true → 0 < length w
    some [] e = absurd (cc)
    some (s ∷ w) e = omega arith
far_slash form (first ∷ words) word h several part =
    (h.0, h.1, each_more words word h.2 h.4, several, tt)

far_end : (form : Form) (words : List (List Symbol)) (word : List Symbol) → SoFar form words word →
    may_end form words word ≡ true → Whole_words form (words ++ word ∷ [])
far_end form [] word h may =
    by form.several refl (and_parts (not form.braced) _ may).1
  where
    by : (v : Bool) → form.several ≡ v → cond form.several (not true) (not (is_none word)) ≡ true →
        (0 < length word) × AreSpelt form.surface word × Unit {0} × (form.several ≡ false)
    by true e may = absurd (let k : cond true (not true) (not (is_none word)) ≡ true =
        rw e at may in cc)
    by false e may = (some word (rw e at may), h, tt, e)
      where
        some : (w : List Symbol) → not (is_none w) ≡ true → 0 < length w
        some [] e = absurd (cc)
        some (s ∷ w) e = omega arith
far_end form (first ∷ words) word h may = (h.0, h.1, each_more words word h.2 h.4, many words)
  where
    many : (ws : List (List Symbol)) → AreAsMany form.several (ws ++ word ∷ [])
    many [] = h.3
    many (w ∷ ws) = h.3

-- the first word, which a chunk's name is
abbrev FirstSpelt : Form → List (List Symbol) → Type 0
FirstSpelt form [] = ⊥
FirstSpelt form (word ∷ words) = AreSpelt form.surface word

far_first : (form : Form) (words : List (List Symbol)) (word : List Symbol) →
    SoFar form words word → FirstSpelt form (words ++ word ∷ [])
far_first form [] word h = h
far_first form (first ∷ words) word h = h.1

abbrev Good : Form → Rest → Type 0
Good form Lacks = Unit {0}
Good form (Wrong kind) = Unit {0}
Good form (Ends words n) = (form.braced ≡ false → Whole_words form words) × FirstSpelt form words

good_longer : (form : Form) (n : ℕ) (r : Rest) → Good form r → Good form (longer n r)
good_longer form n Lacks h = tt
good_longer form n (Wrong kind) h = tt
good_longer form n (Ends words m) h = h

good_cond : (form : Form) (b : Bool) (r t : Rest) → (b ≡ true → Good form r) →
    (b ≡ false → Good form t) → Good form (cond b r t)
good_cond form true r t h k = h refl
good_cond form false r t h k = k refl

rest_good : (form : Form) (words : List (List Symbol)) (word : List Symbol) (skip : ℕ) (bs : List ℕ)
    → SoFar form words word → Good form (rest form words word skip bs)
unfolding rest
rest_good form words word skip [] h = tt
rest_good form words word (suc skip) (b ∷ bs) h = rest_good form words word skip bs h
rest_good form words word zero (b ∷ bs) h =
    by (sign (in_surface form words) (b ∷ bs)) (sign_spelt (in_surface form words) (b ∷ bs))
    (λ ws w k f. rest_good form ws w k bs f)
  where
    by : (s : Sign) → SignSpelt (in_surface form words) s →
        ((ws : List (List Symbol)) (w : List Symbol) (k : ℕ) → SoFar form ws w →
        Good form (rest form ws w k bs)) →
        Good form (gone form words word s (λ ws w k. rest form ws w k bs))
    by Awaits k go = tt
    by (Bars kind) k go = tt
    by (Reads s n) k go = good_longer form n (rest form words (word ++ s ∷ []) (pred n) bs)
        (go words (word ++ s ∷ []) (pred n) (far_symbol form words word s h k))
    by Slash k go = good_cond form form.several _ (Wrong Stray)
        (λ several. good_cond form (may_part words word)
        (longer 1 (rest form (words ++ word ∷ []) [] 0 bs)) (Wrong EmptyWord)
        (λ part. good_longer form 1 (rest form (words ++ word ∷ []) [] 0 bs)
        (go (words ++ word ∷ []) [] 0 (far_slash form words word h several part)))
        (λ _. tt)) (λ _. tt)
    by Dollar k go = good_cond form (may_end form words word) (Ends (words ++ word ∷ []) 1)
        (Wrong (early form))
        (λ may. (λ _. far_end form words word h may, far_first form words word h)) (λ _. tt)
    by Brace k go = good_cond form form.braced (Ends (words ++ word ∷ []) 1) (Wrong Stray)
        (λ b. (λ f. absurd (cc), far_first form words word h)) (λ _. tt)

-- the name of a chunk that is read
pub name_spelt : (bs : List ℕ) (words : List (List Symbol)) (n : ℕ) →
    rest (form_of Chunked) [] [] 0 bs ≡ Ends words n → AreSpelt false (first_word words)
name_spelt bs words n e =
    by words (subst (Good (form_of Chunked)) e (rest_good (form_of Chunked) [] [] 0 bs tt))
  where
    by : (ws : List (List Symbol)) → Good (form_of Chunked) (Ends ws n) →
        AreSpelt false (first_word ws)
    by [] h = tt
    by (word ∷ ws) h = h.1

-- an item

abbrev Fine : Dialect → First → Type 0
Fine dialect Needs = Unit {0}
Fine dialect (Whole (item.Plain c) n) = Unit {0}
Fine dialect (Whole (item.Blank bytes) n) = Unit {0}
Fine dialect (Whole (item.Unit words) n) = AreWords dialect words
Fine dialect (Whole (item.Chunk c) n) = Unit {0}
Fine dialect (Faulty kind) = Unit {0}

fine_cond : (dialect : Dialect) (b : Bool) (f g : First) → (b ≡ true → Fine dialect f) →
    (b ≡ false → Fine dialect g) → Fine dialect (cond b f g)
fine_cond dialect true f g h k = h refl
fine_cond dialect false f g h k = k refl

fine_run : (dialect : Dialect) (bytes : List ℕ) (r : Run) → Fine dialect (of_run bytes r)
fine_run dialect bytes Open = tt
fine_run dialect bytes Inside = tt
fine_run dialect bytes BadChar = tt
fine_run dialect bytes (Done n) = tt

fine_escaped : (dialect : Dialect) (f : Front) → Fine dialect (of_escaped f)
fine_escaped dialect Part = tt
fine_escaped dialect NotChar = tt
fine_escaped dialect (Char c n) = tt

fine_char : (dialect : Dialect) (f : Front) → Fine dialect (of_char dialect f)
fine_char dialect Part = tt
fine_char dialect NotChar = tt
fine_char dialect (Char c n) =
    fine_cond dialect (is_refused dialect c) (Faulty (Bad Stray)) (Whole (plain c false) n)
    (λ _. tt) (λ _. tt)

whole_words : (dialect : Dialect) (words : List (List Symbol)) → has_words dialect ≡ true →
    Whole_words (form_of dialect) words → AreWords dialect words
whole_words dialect [] has h = h
whole_words dialect (word ∷ words) has h = (has, h.0, h.1, h.2, h.3)

fine_unit : (dialect : Dialect) (r : Rest) → has_words dialect ≡ true → Good (form_of dialect) r →
    Fine dialect (of_unit r)
fine_unit dialect Lacks has h = tt
fine_unit dialect (Wrong kind) has h = tt
fine_unit dialect (Ends words n) has h =
    whole_words dialect words has (h.0 (words_brace dialect has))

fine_body : (dialect : Dialect) (name : List Symbol) (parts : List Inner) (n : ℕ) (b : Body) →
    Fine dialect (of_body name parts n b)
fine_body dialect name parts n Opens = tt
fine_body dialect name parts n (Fails kind) = tt
fine_body dialect name parts n (Closes more m) = tt

fine_chunk : (dialect : Dialect) (bytes : List ℕ) (r : Rest) → Fine dialect (of_chunk bytes r)
fine_chunk dialect bytes Lacks = tt
fine_chunk dialect bytes (Wrong kind) = tt
fine_chunk dialect bytes (Ends words n) = fine_body dialect (first_word words) [] (1 + n)
    (body n bytes)

fine_caret : (dialect : Dialect) (bytes : List ℕ) (r : Rest) → has_units dialect ≡ true →
    Good (form_of dialect) r → Fine dialect (of_caret dialect bytes r)
fine_caret dialect bytes r has h =
    fine_cond dialect (has_chunks dialect) (of_chunk bytes r) (of_unit r)
    (λ _. fine_chunk dialect bytes r)
    (λ c. fine_unit dialect r (units_words dialect has (braced_chunks dialect ∙ c)) h)

first_fine : (dialect : Dialect) (text : List ℕ) → Fine dialect (first dialect text)
unfolding first
first_fine dialect [] = tt
first_fine dialect (b ∷ bs) =
    fine_cond dialect (begins_blank b) (of_run (b ∷ bs) (blank 0 (b ∷ bs))) _
    (λ _. fine_run dialect (b ∷ bs) (blank 0 (b ∷ bs)))
    (λ _. fine_cond dialect (eqb b 92) (of_escaped (char_at bs)) _
    (λ _. fine_escaped dialect (char_at bs))
    (λ _. fine_cond dialect (begins_unit dialect b)
    (of_caret dialect bs (rest (form_of dialect) [] [] 0 bs)) (of_char dialect (char_at (b ∷ bs)))
    (λ t. fine_caret dialect bs (rest (form_of dialect) [] [] 0 bs)
    (and_parts (has_units dialect) (eqb b 94) t).0 (rest_good (form_of dialect) [] [] 0 bs tt))
    (λ _. fine_char dialect (char_at (b ∷ bs)))))

pub unit_words : (dialect : Dialect) (text : List ℕ) (words : List (List Symbol)) (n : ℕ) →
    first dialect text ≡ Whole (item.Unit words) n → AreWords dialect words
unit_words dialect text words n e =
    subst (λ (f : First). Fine dialect f) e (first_fine dialect text)
