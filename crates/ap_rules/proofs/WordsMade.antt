-- What characters spell as words and tags are words of the program.
use Rattle.std.proofs.Common.{◌≡◌, inl, ℕ, zero, suc, ◌-◌, Bool, true, false, cond, not, ◌&&◌, ◌==◌, List, [], ◌∷◌, ◌++◌, length, drop, take, refl, sym, subst, arith, Option, Some, None}
use Rattle.std.specs.Prelude.{codes, slice_index}
use Rattle.std.specs.Str.{encode_utf8_all, all_scalars, bytes_eq}
use Rattle.std.proofs.Math.Utf8.{scalar, scalar_cases}
use Rattle.std.proofs.lemmas.Bool.{and_parts}
use Rattle.std.proofs.lemmas.Str.{chars-encodes}
use Rattle.ap_symbol.specs.Coded.{IsCode, IsCoded}
use Rattle.ap_symbol.specs.TagNames.{is_tag_name}
use Rattle.ap_symbol.specs.TextWord.{escaped_symbol, bare_symbol, name_len, name_at, begins_with_name, begins_with_tag, begins_with_escape, first_symbol, first_len, symbols_after}
use Rattle.ap_symbol.specs.Words.{is_white, is_proper}
use Rattle.ap_symbol.specs.declared.symbol.Symbol.{Symbol}
use Rattle.ap_symbol.specs.declared.symbol.Symbol.TheVariants.{Letter, Tag, Blank, Join, Queue, Alarm, Star, At}
use Rattle.ap_symbol.proofs.Coded.{name_text}
use Rattle.ap_rules.specs.Soundness.{Opt, Each}
use Rattle.ap_rules.specs.Texts.{word_of, tag_named, tag_symbol, parts_after, with_symbol, tag_symbols, tags_of}
use Rattle.ap_rules.specs.Worded.{IsWorded}
use Rattle.ap_rules.proofs.Sound.{opt_if, each_if}

-- codes of characters
abbrev pub AreCharacters : List ℕ → Type 0
AreCharacters cs = all_scalars cs ≡ true

pub characters_on : (xs ys : List ℕ) → AreCharacters xs → AreCharacters ys →
    AreCharacters (xs ++ ys)
characters_on [] ys p q = q
characters_on (x ∷ xs) ys p q =
    let h = and_parts (scalar x) (all_scalars xs) p in
    let k = characters_on xs ys h.1 q in
    λ i. h.0 i && k i

characters_off : (n : ℕ) (cs : List ℕ) → AreCharacters cs → AreCharacters (drop n cs)
characters_off zero [] p = refl
characters_off (suc n) [] p = refl
characters_off zero (c ∷ cs) p = p
characters_off (suc n) (c ∷ cs) p = characters_off n cs (and_parts (scalar c) (all_scalars cs) p).1

characters_to : (n : ℕ) (cs : List ℕ) → AreCharacters cs → AreCharacters (take n cs)
characters_to zero [] p = refl
characters_to (suc n) [] p = refl
characters_to zero (c ∷ cs) p = refl
characters_to (suc n) (c ∷ cs) p =
    let h = and_parts (scalar c) (all_scalars cs) p in
    let k = characters_to n cs h.1 in
    λ i. h.0 i && k i

-- what stands past the end counts as 0, which is a code too
code_at : (cs : List ℕ) (n : ℕ) → AreCharacters cs → IsCode (slice_index cs n)
code_at [] n p = inl (omega arith)
code_at (c ∷ cs) zero p = scalar_cases c (and_parts (scalar c) (all_scalars cs) p).0
code_at (c ∷ cs) (suc n) p = code_at cs n (and_parts (scalar c) (all_scalars cs) p).1

-- a symbol of words
abbrev pub IsWordedSymbol : Symbol → Type 0
IsWordedSymbol s = (is_proper s ≡ true) × IsCoded s

pub worded_more : (s : Symbol) (word : List Symbol) → IsWordedSymbol s → IsWorded word →
    IsWorded (s ∷ word)
worded_more s word h k = ((λ i. h.0 i && k.0 i), (h.1, k.1))

symbol_if : (b : Bool) (x y : Symbol) → (b ≡ true → IsWordedSymbol x) →
    (b ≡ false → IsWordedSymbol y) → IsWordedSymbol (cond b x y)
symbol_if true x y p q = p refl
symbol_if false x y p q = q refl

letter_worded : (c : ℕ) → IsCode c → is_white c ≡ false → IsWordedSymbol (Letter c)
letter_worded c h e = ((λ i. not (e i) && true), h)

tag_worded : (name : List ℕ) → AreCharacters name → is_tag_name (encode_utf8_all name) ≡ true →
    IsWordedSymbol (Tag (encode_utf8_all name))
tag_worded name p t = (t, name_text (encode_utf8_all name) (name, (p, refl)) t)

escaped_worded : (c : ℕ) → IsCode c → IsWordedSymbol (escaped_symbol c)
escaped_worded c h =
    symbol_if (is_white c) Blank (Letter c) (λ e. (refl, tt)) (λ e. letter_worded c h e)

bare_worded : (c : ℕ) → IsCode c → IsWordedSymbol (bare_symbol c)
bare_worded c h =
    let y5 = cond (c == 64) At (Letter c) in
    let y4 = cond (c == 42) Star y5 in
    let y3 = cond (c == 126) Alarm y4 in
    let y2 = cond (c == 35) Queue y3 in
    let y1 = cond (c == 43) Join y2 in
    symbol_if (is_white c) Blank y1 (λ e. (refl, tt)) (λ white.
    symbol_if (c == 43) Join y2 (λ e. (refl, tt)) (λ e.
    symbol_if (c == 35) Queue y3 (λ e. (refl, tt)) (λ e.
    symbol_if (c == 126) Alarm y4 (λ e. (refl, tt)) (λ e.
    symbol_if (c == 42) Star y5 (λ e. (refl, tt)) (λ e.
    symbol_if (c == 64) At (Letter c) (λ e. (refl, tt)) (λ e. letter_worded c h white))))))

first_worded : (cs : List ℕ) → AreCharacters cs → IsWordedSymbol (first_symbol cs)
first_worded cs p =
    let name = take (name_len (drop 1 cs)) (drop 1 cs) in
    symbol_if (begins_with_tag cs) (Tag (name_at (drop 1 cs)))
    (cond (begins_with_escape cs) (escaped_symbol (slice_index cs 1))
    (bare_symbol (slice_index cs 0)))
    (λ e. tag_worded name (characters_to (name_len (drop 1 cs)) (drop 1 cs) (characters_off 1 cs p))
    (and_parts (slice_index (drop 1 cs) (name_len (drop 1 cs)) == 62)
    (is_tag_name (name_at (drop 1 cs)))
    (and_parts (slice_index cs 0 == 60) (begins_with_name (drop 1 cs)) e).1).1)
    (λ e. symbol_if (begins_with_escape cs) (escaped_symbol (slice_index cs 1))
    (bare_symbol (slice_index cs 0)) (λ f. escaped_worded (slice_index cs 1) (code_at cs 1 p))
    (λ f. bare_worded (slice_index cs 0) (code_at cs 0 p)))

symbols_worded : (done : ℕ) (cs : List ℕ) → AreCharacters cs → IsWorded (symbols_after done cs)
symbols_worded zero [] p = (refl, tt)
symbols_worded (suc done) [] p = (refl, tt)
symbols_worded (suc done) (c ∷ cs) p =
    symbols_worded done cs (and_parts (scalar c) (all_scalars cs) p).1
symbols_worded zero (c ∷ cs) p =
    let k = first_len (c ∷ cs) - 1 in
    worded_more (first_symbol (c ∷ cs)) (symbols_after k cs) (first_worded (c ∷ cs) p)
    (symbols_worded k cs (and_parts (scalar c) (all_scalars cs) p).1)

pub word_worded : (text : List ℕ) → AreCharacters text → IsWorded (word_of text)
word_worded text p = subst (λ (cs : List ℕ). IsWorded (symbols_after 0 cs))
    (sym (chars-encodes text p)) (symbols_worded 0 text p)

-- tags

named_worded : (name : List ℕ) → AreCharacters name →
    Opt IsWordedSymbol (tag_named (encode_utf8_all name))
named_worded name p = by (is_tag_name (encode_utf8_all name)) refl
  where
    by : (t : Bool) → is_tag_name (encode_utf8_all name) ≡ t →
        Opt IsWordedSymbol (cond t (Some (Tag (encode_utf8_all name))) None)
    by true e = tag_worded name p e
    by false e = tt

symbol_worded : (stars : Bool) (part : List ℕ) → AreCharacters part →
    Opt IsWordedSymbol (tag_symbol stars part)
symbol_worded stars part p =
    opt_if IsWordedSymbol (bytes_eq (codes "*") part) (cond stars (Some Star) None)
    (tag_named (encode_utf8_all part))
    (opt_if IsWordedSymbol stars (Some Star) None (refl, tt) tt) (named_worded part p)

with_worded : (o : Option Symbol) (rest : Option (List Symbol)) → Opt IsWordedSymbol o →
    Opt IsWorded rest → Opt IsWorded (with_symbol o rest)
with_worded None rest h k = tt
with_worded (Some s) None h k = tt
with_worded (Some s) (Some ss) h k = worded_more s ss h k

all_worded : (stars : Bool) (parts : List (List ℕ)) → Each AreCharacters parts →
    Opt IsWorded (tag_symbols stars parts)
all_worded stars [] p = (refl, tt)
all_worded stars (part ∷ parts) p =
    with_worded (tag_symbol stars part) (tag_symbols stars parts) (symbol_worded stars part p.0)
    (all_worded stars parts p.1)

parts_characters : (part text : List ℕ) → AreCharacters part → AreCharacters text →
    Each AreCharacters (parts_after part text)
parts_characters part [] p q = (p, tt)
parts_characters part (c ∷ cs) p q =
    let h = and_parts (scalar c) (all_scalars cs) q in
    let one : AreCharacters (c ∷ []) = λ i. h.0 i && true in
    each_if AreCharacters (c == 46) (part ∷ parts_after [] cs) (parts_after (part ++ c ∷ []) cs)
    (p, parts_characters [] cs refl h.1)
    (parts_characters (part ++ c ∷ []) cs (characters_on part (c ∷ []) p one) h.1)

pub tags_worded : (stars : Bool) (text : List ℕ) → AreCharacters text →
    Opt IsWorded (tags_of stars text)
tags_worded stars text p = opt_if IsWorded (length text == 0) (Some [])
    (tag_symbols stars (parts_after [] text)) (refl, tt)
    (all_worded stars (parts_after [] text) (parts_characters [] text refl p))
