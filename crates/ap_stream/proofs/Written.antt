-- What stages write: words that are spelt, and bare characters that stay bare.
use Rattle.std.specs.Prelude.{◌≡◌, ℕ, zero, suc, ◌<◌, Bool, true, false, ◌||◌, eqb, List, [], ◌∷◌, ◌++◌, take, drop, refl, encode_utf8, if◌then◌else◌}
use Rattle.std.specs.List.{flat_map}
use Rattle.std.specs.Str.{encode_utf8_all}
use Rattle.std.proofs.Common.{arith, ap, sym, subst, ◌∙◌, append_assoc, inl, inr}
use Rattle.std.proofs.lemmas.Bool.{ne_eqb}
use Rattle.std.proofs.lemmas.List.Concat.{flat_map-cons}
use Rattle.std.proofs.lemmas.Str.{encode_ascii}
use Rattle.ap_symbol.specs.Coded.{IsCode, AreNamed, AreCoded}
use Rattle.ap_symbol.specs.Lists.{IsIn}
use Rattle.ap_symbol.specs.Rendering.{is_escaped_lem, letter_bytes, tag_bytes, symbol_bytes, rendering}
use Rattle.ap_symbol.specs.TagNames.{is_reserved_lem}
use Rattle.ap_symbol.specs.Words.{is_white, AreProper}
use Rattle.ap_symbol.specs.declared.symbol.Symbol.{Symbol}
use Rattle.ap_symbol.specs.declared.symbol.Symbol.TheVariants as symbol
use Rattle.ap_stream.specs.declared.dialect.Dialect.{Dialect}
use Rattle.ap_stream.specs.declared.dialect.Dialect.TheVariants.{Raw, Analysed, Lexical, Generated}
use Rattle.ap_stream.specs.Dialects.{is_reserved, is_reserved_generated}
use Rattle.ap_stream.specs.Laws.{IsSpelt, AreSpelt, EachSpelt}
use Rattle.ap_stream.specs.Pieces.{HasSuperblanks, nothing, piece, plain, IsPlain, is_bare, StayBare}
use Rattle.ap_stream.specs.Spelling.{slashed, joined as joined_words}
use Rattle.ap_stream.proofs.EachKept.{space_has_none}
use Rattle.ap_stream.proofs.Fronts.{IsFree, bare_free, free_bare}
use Rattle.ap_stream.proofs.Joined.{joined}
use Rattle.ap_stream.proofs.Spelt.{words_are_spelt}

-- words that are spelt

pub spelt_append : (a b : List Symbol) → AreSpelt false a → AreSpelt false b →
    AreSpelt false (a ++ b)
spelt_append [] b h k = k
spelt_append (x ∷ a) b h k = (h.0, spelt_append a b h.1 k)

pub spelt_take : (surface : Bool) (n : ℕ) (word : List Symbol) → AreSpelt surface word →
    AreSpelt surface (take n word)
spelt_take surface zero word h = tt
spelt_take surface (suc n) [] h = tt
spelt_take surface (suc n) (x ∷ word) h = (h.0, spelt_take surface n word h.1)

pub spelt_drop : (n : ℕ) (word : List Symbol) → AreSpelt false word → AreSpelt false (drop n word)
spelt_drop zero word h = h
spelt_drop (suc n) [] h = tt
spelt_drop (suc n) (x ∷ word) h = spelt_drop n word h.1

pub each_spelt : (words : List (List Symbol)) →
    ((w : List Symbol) → IsIn w words → AreProper w × AreCoded w) → EachSpelt words
each_spelt [] h = tt
each_spelt (word ∷ words) h = let k = h word (inl refl) in
    (words_are_spelt word k.0 k.1, each_spelt words (λ w i. h w (inr i)))

-- characters that stay bare

either_none : (a b : Bool) → (a || b) ≡ false → (a ≡ false) × (b ≡ false)
either_none true b h = absurd (cc)
either_none false b h = (refl, h)

-- a character that a test does not take is not one that it takes
unlike : (test : ℕ → Bool) (c d : ℕ) → test c ≡ false → test d ≡ true → eqb c d ≡ false
unlike test c d free t = ne_eqb c d (λ e. let k : test c ≡ true = ap test e ∙ t in absurd (cc))

pub raw_stays : StayBare Raw Analysed
raw_stays c h =
    let f = bare_free Raw c h in
    let n = either_none (eqb c 94) (is_reserved c) f.refused in
    free_bare Analysed c (record { blank = f.blank; escape = f.escape; unit = n.0; refused = n.1 })

unreserved : (c : ℕ) → eqb c 94 ≡ false → is_reserved c ≡ false → is_reserved_generated c ≡ false
unreserved c caret free =
    rw (
      caret,
      unlike is_reserved c 36 free refl,
      unlike is_reserved c 123 free refl,
      unlike is_reserved c 125 free refl,
      unlike is_reserved c 93 free refl,
    ) refl

pub lexical_stays : StayBare Lexical Generated
lexical_stays c h = let f = bare_free Lexical c h in
    free_bare Generated c (record {
      blank = f.blank;
      escape = f.escape;
      unit = refl;
      refused =
          unreserved c f.unit f.refused;
    })

-- plain characters have free superblanks

plain_none : (dialect : Dialect) (bytes text : List ℕ) → IsPlain dialect bytes →
    HasSuperblanks dialect text [] → HasSuperblanks dialect (bytes ++ text) []
plain_none dialect bytes text p h = piece bytes text [] [] (plain p refl) h refl refl

pub bare_has_none : (dialect : Dialect) (c : ℕ) (text : List ℕ) → c < 128 → is_bare dialect c ≡ true
    → HasSuperblanks dialect text [] → HasSuperblanks dialect (c ∷ text) []
bare_has_none dialect c text small t h =
    plain_none dialect (c ∷ []) text
    (record {
      character = record { letter = c; escaped = false };
      code =
          inl (omega (arith, small));
      allowed = λ _. t;
      spelled = sym (encode_ascii c small);
    }) h

-- a word in the dialect of generation
letter_free : (c : ℕ) → is_escaped_lem c ≡ false → is_white c ≡ false → IsFree Generated c
letter_free c e w =
    record {
      blank = rw (
        unlike is_white c 32 w refl,
        unlike is_white c 9 w refl,
        unlike is_white c 10 w refl,
        unlike is_white c 13 w refl,
        unlike is_escaped_lem c 91 e refl,
      ) refl;
      escape = unlike is_escaped_lem c 92 e refl;
      unit = refl;
      refused = rw (
        unlike is_escaped_lem c 94 e refl,
        unlike is_escaped_lem c 36 e refl,
        unlike is_escaped_lem c 123 e refl,
        unlike is_escaped_lem c 125 e refl,
        unlike is_escaped_lem c 93 e refl,
      ) refl;
    }

letter_none : (c : ℕ) (text : List ℕ) → IsCode c → is_white c ≡ false →
    HasSuperblanks Generated text [] → HasSuperblanks Generated (letter_bytes c ++ text) []
letter_none c text code w h = by (is_escaped_lem c) refl
  where
    by : (v : Bool) → is_escaped_lem c ≡ v →
        HasSuperblanks Generated ((if v then 92 ∷ encode_utf8 c else encode_utf8 c) ++ text) []
    by true e = plain_none Generated (92 ∷ encode_utf8 c) text
        (record {
          character = record { letter = c; escaped = true };
          code = code;
          allowed =
              λ u. absurd (cc);
          spelled = refl;
        }) h
    by false e = plain_none Generated (encode_utf8 c) text
        (record {
          character = record { letter = c; escaped = false };
          code = code;
          allowed =
              λ _. free_bare Generated c (letter_free c e w);
          spelled = refl;
        }) h

named_free : (c : ℕ) → is_reserved_lem c ≡ false → IsFree Generated c
named_free c n =
    record {
      blank = rw (
        unlike is_reserved_lem c 32 n refl,
        unlike is_reserved_lem c 9 n refl,
        unlike is_reserved_lem c 10 n refl,
        unlike is_reserved_lem c 13 n refl,
        unlike is_reserved_lem c 91 n refl,
      ) refl;
      escape = unlike is_reserved_lem c 92 n refl;
      unit = refl;
      refused = rw (
        unlike is_reserved_lem c 94 n refl,
        unlike is_reserved_lem c 36 n refl,
        unlike is_reserved_lem c 123 n refl,
        unlike is_reserved_lem c 125 n refl,
        unlike is_reserved_lem c 93 n refl,
      ) refl;
    }

named_none : (cs text : List ℕ) → AreNamed cs → HasSuperblanks Generated text [] →
    HasSuperblanks Generated (encode_utf8_all cs ++ text) []
named_none [] text h k = k
named_none (c ∷ cs) text h k =
    let front = plain_none Generated (encode_utf8 c) (encode_utf8_all cs ++ text)
    (record {
      character = record { letter = c; escaped = false };
      code = h.0;
      allowed =
          λ _. free_bare Generated c (named_free c h.1);
      spelled = refl;
    })
    (named_none cs text h.2 k) in
    subst (λ (q : List ℕ). HasSuperblanks Generated q [])
    (sym (append_assoc (encode_utf8 c) (encode_utf8_all cs) text)) front

tag_none : (cs text : List ℕ) → AreNamed cs → HasSuperblanks Generated text [] →
    HasSuperblanks Generated (tag_bytes (encode_utf8_all cs) ++ text) []
tag_none cs text h k =
    let inner = named_none cs (62 ∷ text) h
    (bare_has_none Generated 62 text (omega arith) refl k) in
    bare_has_none Generated 60 ((encode_utf8_all cs ++ 62 ∷ []) ++ text) (omega arith) refl
    (subst (λ (q : List ℕ). HasSuperblanks Generated q [])
    (sym (append_assoc (encode_utf8_all cs) (62 ∷ []) text)) inner)

symbol_none : (s : Symbol) (text : List ℕ) → IsSpelt false s → HasSuperblanks Generated text [] →
    HasSuperblanks Generated (symbol_bytes s ++ text) []
symbol_none (symbol.Letter c) text h k = letter_none c text h.0 h.1 k
symbol_none (symbol.Tag name) text h k =
    subst (λ (q : List ℕ). HasSuperblanks Generated (tag_bytes q ++ text) []) (sym h.1.1)
    (tag_none h.1.0 text h.1.2 k)
symbol_none symbol.Blank text h k = space_has_none Generated text k
symbol_none symbol.Join text h k = bare_has_none Generated 43 text (omega arith) refl k
symbol_none symbol.Queue text h k = bare_has_none Generated 35 text (omega arith) refl k
symbol_none symbol.Alarm text h k = bare_has_none Generated 126 text (omega arith) refl k
symbol_none symbol.Star text h k = bare_has_none Generated 42 text (omega arith) refl k
symbol_none symbol.At text h k = bare_has_none Generated 64 text (omega arith) refl k

pub word_has_none : (word : List Symbol) → AreSpelt false word →
    HasSuperblanks Generated (rendering word) []
word_has_none [] h = nothing refl refl
word_has_none (s ∷ word) h =
    subst (λ (q : List ℕ). HasSuperblanks Generated q []) (sym (flat_map-cons symbol_bytes s word))
    (symbol_none s (rendering word) h.0 (word_has_none word h.1))

-- words joined by slashes
slashed_none : (words : List (List Symbol)) → EachSpelt words →
    HasSuperblanks Generated (flat_map slashed words) []
slashed_none [] h = nothing refl refl
slashed_none (word ∷ words) h =
    let front = bare_has_none Generated 47 (rendering word) (omega arith) refl
    (word_has_none word h.0) in
    subst (λ (q : List ℕ). HasSuperblanks Generated q []) (sym (flat_map-cons slashed word words))
    (joined Generated (slashed word) (flat_map slashed words) [] [] front
    (slashed_none words h.1))

pub words_have_none : (words : List (List Symbol)) → EachSpelt words →
    HasSuperblanks Generated (joined_words words) []
words_have_none [] h = nothing refl refl
words_have_none (word ∷ words) h =
    joined Generated (rendering word) (flat_map slashed words) [] [] (word_has_none word h.0)
    (slashed_none words h.1)
