-- What the bytes of a word tell of it, and what is written of it by its bytes.
use Rattle.std.specs.Prelude.{◌≡◌, ℕ, ◌<◌, ◌≤◌, ◌⊎◌, Bool, true, false, List, [], ◌∷◌, length, refl, encode_utf8, if◌then◌else◌}
use Rattle.std.specs.List.{list_any}
use Rattle.std.proofs.Common.{arith, ap, sym, ◌∙◌, length-append, inl, inr}
use Rattle.std.proofs.lemmas.List.Folds.{list_any-append}
use Rattle.std.proofs.lemmas.Bool.{cases_lt, or_parts}
use Rattle.std.proofs.str.Laws.{one as one_byte, two, three, four}
use Rattle.ap_symbol.specs.Kinds.{is_joint}
use Rattle.ap_symbol.specs.declared.symbol.Symbol.{Symbol}
use Rattle.ap_symbol.specs.declared.symbol.Symbol.TheVariants as symbol
use Rattle.ap_symbol.specs.Rendering.{is_escaped_lem, letter_bytes, symbol_bytes, rendering}
use Rattle.ap_passes.specs.Marks.{is_joint_byte}
use Rattle.ap_passes.specs.Passes.{filled_one}
use Rattle.ap_passes.specs.Splitting.{split}
use Rattle.ap_passes.proofs.Staying.{plain_split}

-- a symbol has a byte

encoded_some : (c : ℕ) → 0 < length (encode_utf8 c)
encoded_some c = first_case (cases_lt c 128)
  where
    last_case : 2048 ≤ c → (c < 65536) ⊎ (65536 ≤ c) → 0 < length (encode_utf8 c)
    last_case b (inl d) = let l = ap length (three c b d) in omega (arith, l)
    last_case b (inr d) = let l = ap length (four c d) in omega (arith, l)

    next_case : 128 ≤ c → (c < 2048) ⊎ (2048 ≤ c) → 0 < length (encode_utf8 c)
    next_case a (inl b) = let l = ap length (two c a b) in omega (arith, l)
    next_case a (inr b) = last_case b (cases_lt c 65536)

    first_case : (c < 128) ⊎ (128 ≤ c) → 0 < length (encode_utf8 c)
    first_case (inl a) = let l = ap length (one_byte c a) in omega (arith, l)
    first_case (inr a) = next_case a (cases_lt c 2048)

letter_some : (c : ℕ) → 0 < length (letter_bytes c)
letter_some c = by (is_escaped_lem c)
  where
    by : (v : Bool) → 0 < length (if v then 92 ∷ encode_utf8 c else encode_utf8 c)
    by true = omega arith
    by false = encoded_some c

symbol_some : (s : Symbol) → 0 < length (symbol_bytes s)
symbol_some (symbol.Letter c) = letter_some c
symbol_some (symbol.Tag name) = omega arith
symbol_some symbol.Blank = omega arith
symbol_some symbol.Join = omega arith
symbol_some symbol.Queue = omega arith
symbol_some symbol.Alarm = omega arith
symbol_some symbol.Star = omega arith
symbol_some symbol.At = omega arith

-- a word whose bytes are none is empty
empty_word : (bytes : List ℕ) (word : List Symbol) → bytes ≡ rendering word →
    length bytes ≡ 0 → word ≡ []
empty_word bytes [] e z = refl
empty_word bytes (s ∷ word) e z =
    let some = symbol_some s in
    let l = length-append (symbol_bytes s) (rendering word) in
    let none : length (rendering (s ∷ word)) ≡ 0 = ap length (sym e) ∙ z in
    absurd (omega (arith, some, l, none))

-- a word whose bytes aren't none isn't empty
filled_word : (bytes : List ℕ) (word : List Symbol) → bytes ≡ rendering word → 0 < length bytes →
    0 < length word
filled_word bytes [] e some = let none : length bytes ≡ 0 = ap length e in
    absurd (omega (arith, none, some))
filled_word bytes (s ∷ word) e some = omega arith

-- a word without + and # among its bytes has no Join and no Queue

jointless : (s : Symbol) → list_any is_joint_byte (symbol_bytes s) ≡ false → is_joint s ≡ false
jointless (symbol.Letter c) h = refl
jointless (symbol.Tag name) h = refl
jointless symbol.Blank h = refl
jointless symbol.Join h = absurd (cc)
jointless symbol.Queue h = absurd (cc)
jointless symbol.Alarm h = refl
jointless symbol.Star h = refl
jointless symbol.At h = refl

no_joint : (word : List Symbol) → list_any is_joint_byte (rendering word) ≡ false →
    list_any is_joint word ≡ false
no_joint [] h = refl
no_joint (s ∷ word) h =
    let p = or_parts (list_any is_joint_byte (symbol_bytes s))
    (list_any is_joint_byte (rendering word))
    (sym (list_any-append is_joint_byte (symbol_bytes s) (rendering word)) ∙ h) in
    rw (jointless s p.0, no_joint word p.1) refl

pub whole_word : (bytes : List ℕ) (word : List Symbol) → bytes ≡ rendering word → 0 < length bytes →
    list_any is_joint_byte bytes ≡ false → split word ≡ word ∷ []
whole_word bytes word e some h =
    plain_split word (filled_word bytes word e some)
    (no_joint word (ap (list_any is_joint_byte) (sym e) ∙ h))

pub filled_none : (bytes : List ℕ) (word : List Symbol) → bytes ≡ rendering word →
    length bytes ≡ 0 → filled_one word ≡ []
filled_none bytes word e z = ap filled_one (empty_word bytes word e z)
