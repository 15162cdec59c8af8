use Rattle.std.proofs.Common.{◌≡◌, ℕ, zero, suc, ◌+◌, ◌-◌, ◌<◌, ◌≤◌, Bool, true, false, cond, eqb, List, [], ◌∷◌, ◌++◌, length, get_or, take, drop, refl, sym, ap, append_assoc, ◌∙◌, arith, inl, inr, length-drop, drop-drop}
use Rattle.std.proofs.lemmas.List.{get_or_past, take_more}
use Rattle.std.proofs.lemmas.Bool.{cases_lt, false≢true, ltb-true}
use Rattle.ap_symbol.proofs.Partners.{and_left, and_right}
use Rattle.std.proofs.lemmas.Grind.{common_steps}
use Rattle.std.proofs.lemmas.Str.{encodes-append}
use Rattle.std.specs.Prelude.{encode_utf8}
use Rattle.std.specs.Str.{encode_utf8_all}
use Rattle.ap_symbol.specs.declared.symbol.Symbol.{Symbol}
use Rattle.ap_symbol.specs.TextWord.{name_len, begins_with_name, begins_with_tag, begins_with_escape, first_symbol, first_len, symbols_after}

zero_not : {x : Bool} → x ≡ false → x ≡ true → ⊥
zero_not e f = false≢true (sym e ∙ f)

drop_none : (cs : List ℕ) → drop 0 cs ≡ cs
drop_none cs = grind (arith, common_steps)

drop_pred : (n c : ℕ) (cs : List ℕ) → 1 ≤ n → drop (n - 1) cs ≡ drop n (c ∷ cs)
drop_pred zero c cs h = absurd (omega arith)
drop_pred (suc n) c cs h = ap (λ k. drop k cs) (let e : suc n - 1 ≡ n = omega arith in e)

choice : (a b : Bool) (n : ℕ) → 1 ≤ cond a (n + 2) (cond b 2 1)
choice true b n = omega arith
choice false true n = omega arith
choice false false n = omega arith

-- characters of an earlier symbol are passed over
pub passed_over : (done : ℕ) (cs : List ℕ) → symbols_after done cs ≡ symbols_after 0 (drop done cs)
passed_over zero cs = ap (λ l. symbols_after 0 l) (sym (drop_none cs))
passed_over (suc done) [] = refl
passed_over (suc done) (c ∷ cs) = passed_over done cs

pub one_or_more : (cs : List ℕ) → 1 ≤ first_len cs
one_or_more cs = choice (begins_with_tag cs) (begins_with_escape cs) (name_len (drop 1 cs))

-- one symbol is read
pub read_one : (cs : List ℕ) → 0 < length cs → symbols_after 0 cs ≡ first_symbol cs
    ∷ symbols_after 0 (drop (first_len cs) cs)
read_one [] h = absurd (omega arith)
read_one (c ∷ cs) h = ap (λ l. first_symbol (c ∷ cs) ∷ l) (passed_over (first_len (c ∷ cs) - 1) cs
    ∙ ap (λ l. symbols_after 0 l) (drop_pred (first_len (c ∷ cs)) c cs (one_or_more (c ∷ cs))))

byte_within : (cs : List ℕ) (n : ℕ) → eqb (get_or cs n 0) 62 ≡ true → n < length cs
byte_within cs n e = elim (cases_lt n (length cs)) [
  | inl l ↦ l
  | inr l ↦
      absurd (zero_not (ap (λ k. eqb k 62) (get_or_past cs n 0 l)) e)
]

name_within : (cs : List ℕ) → begins_with_name cs ≡ true → name_len cs < length cs
name_within cs e = byte_within cs (name_len cs) (and_left _ _ e)

choice_within : (a b : Bool) (n m : ℕ) → 0 < m → (a ≡ true → n + 1 < m) → (b ≡ true → 1 < m) →
    cond a (n + 2) (cond b 2 1) ≤ m
choice_within true b n m h f g = (let k : n + 1 < m = f refl in omega arith)
choice_within false true n m h f g = (let k : 1 < m = g refl in omega arith)
choice_within false false n m h f g = omega arith

pub first_within : (cs : List ℕ) → 0 < length cs → first_len cs ≤ length cs
first_within [] h = absurd (omega arith)
first_within (c ∷ cs) h =
    choice_within (begins_with_tag (c ∷ cs)) (begins_with_escape (c ∷ cs))
    (name_len (drop 1 (c ∷ cs))) (length (c ∷ cs)) h
    (λ e. let k : name_len (drop 1 (c ∷ cs)) < length (drop 1 (c ∷ cs)) =
    name_within (drop 1 (c ∷ cs)) (and_right _ _ e) in omega (arith, length-drop {A = ℕ}))
    (λ e. ltb-true _ _ (and_right _ _ e))

encode_nil : (c : ℕ) → encode_utf8 c ++ [] ≡ encode_utf8 c
encode_nil c = grind (arith, common_steps)

pub encoded_more : (cs : List ℕ) (i d : ℕ) → i < length cs → encode_utf8_all (take (i + 1) cs)
    ≡ encode_utf8_all (take i cs) ++ encode_utf8 (get_or cs i d)
encoded_more cs i d h = ap encode_utf8_all (take_more cs i d h)
    ∙ encodes-append (take i cs) (get_or cs i d ∷ [])
    ∙ ap (λ l. encode_utf8_all (take i cs) ++ l) (encode_nil (get_or cs i d))

-- the walk over the text takes one symbol
pub walk : (cs : List ℕ) (at len : ℕ) (word : List Symbol) (symbol : Symbol) → at < length cs →
    symbol ≡ first_symbol (drop at cs) → len ≡ first_len (drop at cs) →
    word ++ symbols_after 0 (drop at cs) ≡ symbols_after 0 cs
    → (word ++ symbol ∷ []) ++ symbols_after 0 (drop (at + len) cs) ≡ symbols_after 0 cs
walk cs at len word symbol h is long before =
    let more : 0 < length (drop at cs) = omega (arith, length-drop {A = ℕ}) in
    let next : symbols_after 0 (drop at cs) ≡ symbol ∷ symbols_after 0 (drop (at + len) cs) =
    read_one (drop at cs) more
    ∙ ap (λ s. s ∷ symbols_after 0 (drop (first_len (drop at cs)) (drop at cs))) (sym is)
    ∙ ap (λ l. symbol ∷ symbols_after 0 l) (drop-drop (first_len (drop at cs)) at cs
    ∙ ap (λ n. drop (at + n) cs) (sym long)) in
    append_assoc word (symbol ∷ []) (symbols_after 0 (drop (at + len) cs))
    ∙ ap (λ l. word ++ l) (sym next) ∙ before

pub walk_within : (cs : List ℕ) (at len : ℕ) → at < length cs → len ≡ first_len (drop at cs) →
    at + len ≤ length cs
walk_within cs at len h long =
    let more : 0 < length (drop at cs) = omega (arith, length-drop {A = ℕ}) in
    let k : first_len (drop at cs) ≤ length (drop at cs) = first_within (drop at cs) more in
    omega (arith, length-drop {A = ℕ})

pub walk_goes : (cs : List ℕ) (at len : ℕ) → len ≡ first_len (drop at cs) → 1 ≤ len
walk_goes cs at len long = let k : 1 ≤ first_len (drop at cs) = one_or_more (drop at cs)
    in omega arith
