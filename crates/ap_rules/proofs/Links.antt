-- The tag of a link is a number from 1 to 99.
use Rattle.std.proofs.Common.{◌≡◌, ℕ, ◌+◌, ◌-◌, ◌*◌, ◌<◌, ◌≤◌, Bool, true, false, not, ◌&&◌, ◌||◌, ◌==◌, cond, nat_le, List, [], ◌∷◌, ◌++◌, refl, sym, subst, ap, ◌∙◌, arith, Option, Some, None, codes}
use Rattle.std.specs.Char.{encode_utf8}
use Rattle.std.specs.Str.{bytes_eq, encode_utf8_all}
use Rattle.std.proofs.lemmas.Bool.Decides.{nat_tests}
use Rattle.std.proofs.lemmas.Str.{encode_ascii}
use Rattle.ap_symbol.specs.TagNames.{is_reserved_lem, is_tag_name}
use Rattle.ap_symbol.specs.declared.symbol.Symbol.{Symbol}
use Rattle.ap_symbol.specs.declared.symbol.Symbol.TheVariants.{Tag}
use Rattle.ap_rules.specs.Soundness.{Opt, IsLink}
use Rattle.ap_rules.specs.Texts.{is_digit, is_leading, when_so, decimal, bounded, number_in, with_symbol, tag_symbols, tags_of}

digit_number : (b : Bool) (k n : ℕ) → when_so b k ≡ Some n → (b ≡ true) × (k ≡ n)
digit_number true k n e = (refl, (let same : k ≡ n = cc in same))
digit_number false k n e = absurd (let no : ⊥ = cc in no)

in_bounds : (least most k n : ℕ) → bounded least most (Some k) ≡ Some n → (k ≡ n) × (n ≤ most)
in_bounds least most k n e = by (nat_le least k) (nat_le k most) refl refl e
  where
    by : (p q : Bool) → nat_le least k ≡ p → nat_le k most ≡ q →
        cond {A = Option ℕ} (p && q) (Some k) None ≡ Some n → (k ≡ n) × (n ≤ most)
    by true true f g h = let same : k ≡ n = cc in
        (same, subst (λ (m : ℕ). m ≤ most) same (grind (arith, nat_tests)))
    by true false f g h = absurd (let no : ⊥ = cc in no)
    by false q f g h = absurd (let no : ⊥ = cc in no)

-- the tag that a text of digits names
abbrev IsTagOf : List ℕ → Option (List Symbol) → Type 0
IsTagOf text o = o ≡ Some (Tag (encode_utf8_all text) ∷ [])

one_tag : (text : List ℕ) → bytes_eq (codes "*") text ≡ false →
    is_tag_name (encode_utf8_all text) ≡ true → IsTagOf text (tag_symbols false (text ∷ []))
one_tag text e f =
    ap (λ (b : Bool). with_symbol (cond {A = Option Symbol} b None
    (cond (is_tag_name (encode_utf8_all text)) (Some (Tag (encode_utf8_all text))) None)) (Some
    [])) e
    ∙ ap (λ (b : Bool). with_symbol (cond b (Some (Tag (encode_utf8_all text))) None) (Some [])) f

no_dot : (c : ℕ) → is_digit c ≡ true → (c == 46) ≡ false
no_dot c e = grind (arith, nat_tests)

no_star : (c : ℕ) (more : List ℕ) → is_digit c ≡ true → bytes_eq (codes "*") (c ∷ more) ≡ false
no_star c more e =
    let other : (42 == c) ≡ false = grind (arith, nat_tests) in
    ap (λ (b : Bool). b && bytes_eq [] more) other

ascii : (c : ℕ) → is_digit c ≡ true → encode_utf8 c ≡ c ∷ []
ascii c e = let low : c < 128 = grind (arith, nat_tests) in encode_ascii c low

plain : (c : ℕ) → is_digit c ≡ true → is_reserved_lem c ≡ false
plain c e = grind (arith, nat_tests)

leading_digit : (c : ℕ) → is_leading c ≡ true → (1 ≤ c - 48) × (is_digit c ≡ true)
leading_digit c e = (grind (arith, nat_tests), grind (arith, nat_tests))

both_true : (a b : Bool) → (a && b) ≡ true → (a ≡ true) × (b ≡ true)
both_true true true e = (refl, refl)
both_true true false e = absurd (let no : ⊥ = let q : ◌≡◌ {A = Bool} false true = e in cc in no)
both_true false b e = absurd (let no : ⊥ = let q : ◌≡◌ {A = Bool} false true = e in cc in no)

-- the number of a text that is one
number_of_text : (o : Option ℕ) (n : ℕ) → bounded 1 99 o ≡ Some n → (o ≡ Some n) × (n ≤ 99)
number_of_text None n e = absurd (let no : ⊥ = cc in no)
number_of_text (Some k) n e = let b = in_bounds 1 99 k n e in (ap Some b.0, b.1)

pub link_tags : (text : List ℕ) (n : ℕ) → number_in 1 99 (Some text) ≡ Some n →
    tags_of false text ≡ Some (Tag (encode_utf8_all text) ∷ [])
link_tags [] n e = absurd (let no : ⊥ = cc in no)
link_tags (a ∷ []) n e =
    let d = digit_number (is_digit a) (a - 48) n (number_of_text (decimal (a ∷ [])) n e).0 in
    let name : is_tag_name (encode_utf8_all (a ∷ [])) ≡ true =
    ap (λ (t : List ℕ). is_tag_name (t ++ [])) (ascii a d.0)
    ∙ ap (λ (b : Bool). not (b || false)) (plain a d.0) in
    subst (λ (b : Bool). IsTagOf (a ∷ []) (tag_symbols false
    (cond b ([] ∷ [] ∷ []) ((a ∷ []) ∷ [])))) (sym (no_dot a d.0))
    (one_tag (a ∷ []) (no_star a [] d.0) name)
link_tags (a ∷ b ∷ []) n e =
    let d = digit_number (is_leading a && is_digit b) ((a - 48) * 10 + (b - 48)) n
    (number_of_text (decimal (a ∷ b ∷ [])) n e).0 in
    let t = both_true (is_leading a) (is_digit b) d.0 in
    let first = (leading_digit a t.0).1 in
    let name : is_tag_name (encode_utf8_all (a ∷ b ∷ [])) ≡ true =
    ap (λ (t : List ℕ). is_tag_name (t ++ (encode_utf8 b ++ []))) (ascii a first)
    ∙ ap (λ (t : List ℕ). is_tag_name (a ∷ (t ++ []))) (ascii b t.1)
    ∙ ap (λ (p : Bool). not (p || (is_reserved_lem b || false))) (plain a first)
    ∙ ap (λ (p : Bool). not (p || false)) (plain b t.1) in
    subst (λ (x : Bool). IsTagOf (a ∷ b ∷ []) (tag_symbols false
    (cond x ([] ∷ cond (b == 46) ([] ∷ [] ∷ []) ((b ∷ []) ∷ []))
    (cond (b == 46) ((a ∷ []) ∷ [] ∷ []) ((a ∷ b ∷ []) ∷ [])))))
    (sym (no_dot a first))
    (subst (λ (x : Bool). IsTagOf (a ∷ b ∷ []) (tag_symbols false
    (cond x ((a ∷ []) ∷ [] ∷ []) ((a ∷ b ∷ []) ∷ [])))) (sym (no_dot b t.1))
    (one_tag (a ∷ b ∷ []) (no_star a (b ∷ []) first) name))
link_tags (a ∷ b ∷ c ∷ []) n e =
    let m = number_of_text (decimal (a ∷ b ∷ c ∷ [])) n e in
    let d = digit_number (is_leading a && is_digit b && is_digit c)
    ((a - 48) * 100 + (b - 48) * 10 + (c - 48)) n m.0 in
    let t = both_true (is_leading a && is_digit b) (is_digit c) d.0 in
    let u = both_true (is_leading a) (is_digit b) t.0 in
    absurd (let no : ⊥ = omega (arith, d.1, m.1, (leading_digit a u.0).0) in no)
link_tags (a ∷ b ∷ c ∷ d ∷ more) n e = absurd (let no : ⊥ = cc in no)

pub link_sound : (text : List ℕ) (n : ℕ) → number_in 1 99 (Some text) ≡ Some n →
    Opt IsLink (tags_of false text)
link_sound text n e = subst (Opt IsLink) (sym (link_tags text n e)) (text, n, e, refl)
