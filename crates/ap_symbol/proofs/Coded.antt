use Rattle.std.proofs.Common.{◌≡◌, ℕ, ◌<◌, ◌≤◌, Bool, true, false, not, ◌||◌, eqb, ltb, List, [], ◌∷◌, ◌++◌, length, refl, sym, ap, subst, inl, inr, ◌∙◌, arith}
use Rattle.std.specs.List.{list_any}
use Rattle.std.specs.Str.{IsUtf8, encode_utf8_all}
use Rattle.std.proofs.Math.Utf8.{encode, encodes, scalars, scalar_cases}
use Rattle.std.proofs.lemmas.Str.{encode_ascii}
use Rattle.std.proofs.lemmas.Bool.{cases_lt, false≢true, ltb-true, and_parts}
use Rattle.ap_symbol.specs.declared.symbol.Symbol.{Symbol}
use Rattle.ap_symbol.specs.declared.symbol.Symbol.TheVariants.{Letter, Tag, Blank, Join, Queue, Alarm, Star, At}
use Rattle.ap_symbol.specs.declared.recasing.Case.TheVariants.{Low, First, All}
use Rattle.ap_symbol.specs.TagNames.{is_reserved_lem, is_tag_name}
use Rattle.ap_symbol.specs.Coded.{IsCode, AreNamed, IsNameText, IsCoded, AreCoded}
use Rattle.ap_symbol.specs.Case.{lower_lem, upper_lem}
use Rattle.ap_symbol.specs.Recasing.{each_letter, first_letter}
use Rattle.ap_symbol.specs.CaseLaws.{StaysCoded}
use Rattle.ap_symbol.proofs.Partners.{by_table, far_eqb, and_left, and_right, not_true, far_lower, far_upper, or_cases, or_right, eqb_eq, eqb_is}

or_none : (a b : Bool) → (a || b) ≡ false → (a ≡ false) × (b ≡ false)
or_none true b e = absurd (false≢true (sym e))
or_none false b e = (refl, e)

any_none : (p : ℕ → Bool) (xs ys : List ℕ) → list_any p (xs ++ ys) ≡ false →
    (list_any p xs ≡ false) × (list_any p ys ≡ false)
any_none p [] ys e = (refl, e)
any_none p (x ∷ xs) ys e =
    let here : (p x ≡ false) × (list_any p (xs ++ ys) ≡ false) =
    or_none (p x) (list_any p (xs ++ ys)) e in
    let more : (list_any p xs ≡ false) × (list_any p ys ≡ false) = any_none p xs ys here.1 in
    (ap (λ b. b || list_any p xs) here.0 ∙ more.0, more.1)

far_reserved : (c : ℕ) → 128 ≤ c → is_reserved_lem c ≡ false
far_reserved c h = simp (
  far_eqb 9 c (omega arith),
  far_eqb 10 c (omega arith),
  far_eqb 13 c (omega arith),
  far_eqb 32 c (omega arith),
  far_eqb 94 c (omega arith),
  far_eqb 36 c (omega arith),
  far_eqb 47 c (omega arith),
  far_eqb 60 c (omega arith),
  far_eqb 62 c (omega arith),
  far_eqb 123 c (omega arith),
  far_eqb 125 c (omega arith),
  far_eqb 92 c (omega arith),
  far_eqb 91 c (omega arith),
  far_eqb 93 c (omega arith),
)

-- a character without a reserved byte is not reserved
char_plain : (c : ℕ) → list_any is_reserved_lem (encode c) ≡ false → is_reserved_lem c ≡ false
char_plain c e = elim (cases_lt c 128) [
  | inl l ↦ (or_none (is_reserved_lem c) false
      (subst (λ bs. list_any is_reserved_lem bs ≡ false) (encode_ascii c l) e)).0
  | inr g ↦ far_reserved c g
]

named : (cs : List ℕ) → scalars cs ≡ true → list_any is_reserved_lem (encode_utf8_all cs) ≡ false
    → AreNamed cs
named [] s e = tt
named (c ∷ cs) s e =
    let parts : (list_any is_reserved_lem (encode c) ≡ false)
    × (list_any is_reserved_lem (encode_utf8_all cs) ≡ false) =
    any_none is_reserved_lem (encode c) (encode_utf8_all cs) e in
    (scalar_cases c (and_parts _ _ s).0, char_plain c parts.0, named cs (and_parts _ _ s).1 parts.1)

some_named : (cs name : List ℕ) → encode_utf8_all cs ≡ name → not (eqb (length name) 0) ≡ true →
    0 < length cs
some_named [] name e t =
    absurd (false≢true (subst (λ bs. not (eqb (length bs) 0) ≡ true) (sym e) t))
some_named (c ∷ cs) name e t = omega arith

-- a text that is a tag's name consists of characters
pub name_text : (name : List ℕ) → IsUtf8 name → is_tag_name name ≡ true → IsNameText name
name_text name u t = (
  u.0,
  sym u.1.1,
  named u.0 u.1.0 (subst (λ bs. list_any is_reserved_lem bs ≡ false) (sym u.1.1)
      (not_true (and_right _ _ t))),
  some_named u.0 name u.1.1 (and_left _ _ t),
)

-- a symbol more
pub coded_push : (word : List Symbol) (symbol : Symbol) → AreCoded word → IsCoded symbol →
    AreCoded (word ++ symbol ∷ [])
coded_push [] symbol h s = (s, tt)
coded_push (x ∷ word) symbol h s = (h.0, coded_push word symbol h.1 s)

keeps_code : (f : ℕ → ℕ) → ((c : ℕ) → (ltb (f c) 55296 || eqb (f c) c) ≡ true) → (c : ℕ) →
    IsCode c → IsCode (f c)
keeps_code f near c h = elim (or_cases _ _ (near c)) [
  | inl l ↦ inl (ltb-true _ _ l)
  | inr e ↦
      subst IsCode (sym (eqb_is _ _ e)) h
]

lower_code : (c : ℕ) → IsCode c → IsCode (lower_lem c)
lower_code = keeps_code lower_lem
    (λ c. by_table (λ c. ltb (lower_lem c) 55296 || eqb (lower_lem c) c) refl
    (λ c h. or_right _ _ (eqb_eq _ _ (far_lower c h))) c)

upper_code : (c : ℕ) → IsCode c → IsCode (upper_lem c)
upper_code = keeps_code upper_lem
    (λ c. by_table (λ c. ltb (upper_lem c) 55296 || eqb (upper_lem c) c) refl
    (λ c h. or_right _ _ (eqb_eq _ _ (far_upper c h))) c)

each_coded : (f : ℕ → ℕ) → ((c : ℕ) → IsCode c → IsCode (f c)) → (word : List Symbol) →
    AreCoded word → AreCoded (each_letter f word)
each_coded f keeps [] h = tt
each_coded f keeps (Letter c ∷ word) h = (keeps c h.0, each_coded f keeps word h.1)
each_coded f keeps (Tag name ∷ word) h = (h.0, each_coded f keeps word h.1)
each_coded f keeps (Blank ∷ word) h = (tt, each_coded f keeps word h.1)
each_coded f keeps (Join ∷ word) h = (tt, each_coded f keeps word h.1)
each_coded f keeps (Queue ∷ word) h = (tt, each_coded f keeps word h.1)
each_coded f keeps (Alarm ∷ word) h = (tt, each_coded f keeps word h.1)
each_coded f keeps (Star ∷ word) h = (tt, each_coded f keeps word h.1)
each_coded f keeps (At ∷ word) h = (tt, each_coded f keeps word h.1)

first_coded : (f : ℕ → ℕ) → ((c : ℕ) → IsCode c → IsCode (f c)) → (word : List Symbol) →
    AreCoded word → AreCoded (first_letter f word)
first_coded f keeps [] h = tt
first_coded f keeps (Letter c ∷ word) h = (keeps c h.0, h.1)
first_coded f keeps (Tag name ∷ word) h = (h.0, first_coded f keeps word h.1)
first_coded f keeps (Blank ∷ word) h = (tt, first_coded f keeps word h.1)
first_coded f keeps (Join ∷ word) h = (tt, first_coded f keeps word h.1)
first_coded f keeps (Queue ∷ word) h = (tt, first_coded f keeps word h.1)
first_coded f keeps (Alarm ∷ word) h = (tt, first_coded f keeps word h.1)
first_coded f keeps (Star ∷ word) h = (tt, first_coded f keeps word h.1)
first_coded f keeps (At ∷ word) h = (tt, first_coded f keeps word h.1)

pub stays_coded : StaysCoded
stays_coded Low word h = (h, each_coded lower_lem lower_code word h)
stays_coded First word h = (
  first_coded upper_lem upper_code word h,
  first_coded upper_lem upper_code (each_letter lower_lem word)
      (each_coded lower_lem lower_code word h),
)
stays_coded All word h =
    (each_coded upper_lem upper_code word h, each_coded upper_lem upper_code word h)
