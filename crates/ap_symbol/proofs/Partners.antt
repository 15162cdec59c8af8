use Rattle.std.proofs.Common.{◌≡◌, ℕ, zero, suc, ◌-◌, ◌<◌, ◌≤◌, Bool, true, false, eqb, not, ◌&&◌, ◌||◌, length, ◌⊎◌, refl, sym, ap, inl, inr, ◌∙◌, arith}
use Rattle.std.proofs.lemmas.Bool.{cases_lt}
use Rattle.ap_symbol.specs.Case.{spans, is_upper_by_32, is_upper_even, is_upper_odd, lower_lem, upper_lem, is_upper_lem, partner_lem}
use Rattle.ap_symbol.specs.Words.{is_white}
use Rattle.std.specs.Char.{encode_utf8}
use Rattle.ap_symbol.specs.Rendering.{letter_bytes}

pub and_left : (a b : Bool) → (a && b) ≡ true → a ≡ true
and_left true b h = refl
and_left false b h = h

pub and_right : (a b : Bool) → (a && b) ≡ true → b ≡ true
and_right true b h = h
and_right false b h = absurd (cc)

pub not_true : {b : Bool} → not b ≡ true → b ≡ false
not_true {b} h = elim b as (λ v. not v ≡ true → v ≡ false) [
  | true ↦ (λ e. absurd (cc))
  | false ↦
      (λ e. refl)
] h

-- each number below n passes
abbrev pub below : ℕ → (ℕ → Bool) → Bool
below zero p = true
below (suc n) p = p n && below n p

and_false : (b : Bool) → (b && false) ≡ false
and_false true = refl
and_false false = refl

far_spans : (first last c : ℕ) → last < c → spans first last c ≡ false
far_spans first last c h = grind arith

pub far_eqb : (n c : ℕ) → n < c → eqb c n ≡ false
far_eqb n c h = grind arith

-- no upper letter of the table lies at 1088 or above
far_by_32 : (c : ℕ) → 1088 ≤ c → is_upper_by_32 c ≡ false
far_by_32 c h = simp (
  far_spans 0x41 0x5A c (omega arith),
  far_spans 0xC0 0xDE c (omega arith),
  far_spans 0x391 0x3A1 c (omega arith),
  far_spans 0x3A3 0x3AB c (omega arith),
  far_spans 0x410 0x42F c (omega arith),
)

far_even : (c : ℕ) → 1088 ≤ c → is_upper_even c ≡ false
far_even c h = simp (
  far_spans 0x100 0x12F c (omega arith),
  far_spans 0x132 0x137 c (omega arith),
  far_spans 0x14A 0x177 c (omega arith),
  and_false,
)

far_odd : (c : ℕ) → 1088 ≤ c → is_upper_odd c ≡ false
far_odd c h = simp (
  far_spans 0x139 0x148 c (omega arith),
  far_spans 0x179 0x17E c (omega arith),
  and_false,
)

pub far_lower : (c : ℕ) → 1120 ≤ c → lower_lem c ≡ c
far_lower c h = simp (
  far_by_32 c (omega arith),
  far_even c (omega arith),
  far_odd c (omega arith),
  far_eqb 0x178 c (omega arith),
  far_eqb 0x386 c (omega arith),
  far_spans 0x388 0x38A c (omega arith),
  far_eqb 0x38C c (omega arith),
  far_spans 0x38E 0x38F c (omega arith),
  far_spans 0x400 0x40F c (omega arith),
)

pub far_upper : (c : ℕ) → 1120 ≤ c → upper_lem c ≡ c
far_upper c h = simp (
  far_by_32 (c - 32) (omega arith),
  far_even (c - 1) (omega arith),
  far_odd (c - 1) (omega arith),
  far_eqb 0xFF c (omega arith),
  far_eqb 0x3AC c (omega arith),
  far_spans 0x3AD 0x3AF c (omega arith),
  far_eqb 0x3CC c (omega arith),
  far_spans 0x3CD 0x3CE c (omega arith),
  far_spans 0x450 0x45F c (omega arith),
)

far_is_upper : (c : ℕ) → 1120 ≤ c → is_upper_lem c ≡ false
far_is_upper c h = simp (
  far_by_32 c (omega arith),
  far_even c (omega arith),
  far_odd c (omega arith),
  far_eqb 0x178 c (omega arith),
  far_eqb 0x386 c (omega arith),
  far_spans 0x388 0x38A c (omega arith),
  far_eqb 0x38C c (omega arith),
  far_spans 0x38E 0x38F c (omega arith),
  far_spans 0x400 0x40F c (omega arith),
)

below_at : (n : ℕ) (p : ℕ → Bool) (c : ℕ) → c < n → below n p ≡ true → p c ≡ true
below_at zero p c h e = absurd (omega arith)
below_at (suc n) p c h e =
    elim (cases_lt c n) [
      | inl l ↦ below_at n p c l (and_right (p n) (below n p) e)
      | inr l ↦
          (let same : c ≡ n = omega arith in ap p same ∙ and_left (p n) (below n p) e)
    ]

-- a test of all characters: of those of the table by trying each, of the others by hand
pub by_table : (p : ℕ → Bool) → below 1120 p ≡ true → ((c : ℕ) → 1120 ≤ c → p c ≡ true) →
    (c : ℕ) → p c ≡ true
by_table p near far c = elim (cases_lt c 1120) [
  | inl l ↦ below_at 1120 p c l near
  | inr l ↦ far c l
]

eqb_same : (n : ℕ) → eqb n n ≡ true
eqb_same n = grind arith

pub eqb_is : (m n : ℕ) → eqb m n ≡ true → m ≡ n
eqb_is m n e = grind arith

pub upper_lower : (c : ℕ) → upper_lem (lower_lem c) ≡ upper_lem c
upper_lower c = eqb_is _ _
    (by_table (λ c. eqb (upper_lem (lower_lem c)) (upper_lem c)) refl
    (λ c h. rw (far_lower c h) (eqb_same (upper_lem c))) c)

pub lower_upper : (c : ℕ) → lower_lem (upper_lem c) ≡ lower_lem c
lower_upper c = eqb_is _ _
    (by_table (λ c. eqb (lower_lem (upper_lem c)) (lower_lem c)) refl
    (λ c h. rw (far_upper c h) (eqb_same (lower_lem c))) c)

pub lower_is_not_upper : (c : ℕ) → is_upper_lem (lower_lem c) ≡ false
lower_is_not_upper c = not_true
    (by_table (λ c. not (is_upper_lem (lower_lem c))) refl
    (λ c h. simp (far_lower c h, far_is_upper c h)) c)

same_bool : Bool → Bool → Bool
same_bool true b = b
same_bool false b = not b

same_bool_is : (a b : Bool) → same_bool a b ≡ true → a ≡ b
unfolding same_bool
same_bool_is true true e = refl
same_bool_is true false e = sym e
same_bool_is false true e = e
same_bool_is false false e = refl

same_bool_refl : (a : Bool) → same_bool a a ≡ true
unfolding same_bool
same_bool_refl true = refl
same_bool_refl false = refl

pub lower_white : (c : ℕ) → is_white (lower_lem c) ≡ is_white c
unfolding same_bool
lower_white c = same_bool_is _ _
    (by_table (λ c. same_bool (is_white (lower_lem c)) (is_white c)) refl
    (λ c h. rw (far_lower c h) (same_bool_refl (is_white c))) c)

pub upper_white : (c : ℕ) → is_white (upper_lem c) ≡ is_white c
unfolding same_bool
upper_white c = same_bool_is _ _
    (by_table (λ c. same_bool (is_white (upper_lem c)) (is_white c)) refl
    (λ c h. rw (far_upper c h) (same_bool_refl (is_white c))) c)

pub or_cases : (a b : Bool) → (a || b) ≡ true → (a ≡ true) ⊎ (b ≡ true)
or_cases true b h = inl refl
or_cases false b h = inr h

pub or_right : (a b : Bool) → b ≡ true → (a || b) ≡ true
or_right true b h = refl
or_right false b h = h

pub or_left : (a b : Bool) → a ≡ true → (a || b) ≡ true
or_left true b h = refl
or_left false b h = absurd (cc)

pub eqb_eq : (m n : ℕ) → m ≡ n → eqb m n ≡ true
eqb_eq m n e = rw e (eqb_same n)

pub lower_stays_or : (c : ℕ) → (is_upper_lem c ≡ true) ⊎ (lower_lem c ≡ c)
lower_stays_or c = elim (or_cases _ _
    (by_table (λ c. is_upper_lem c || eqb (lower_lem c) c) refl
    (λ c h. or_right _ _ (eqb_eq _ _ (far_lower c h))) c)) [
      | inl u ↦ inl u
      | inr e ↦
          inr (eqb_is _ _ e)
    ]

pub upper_stays_or : (c : ℕ) → (is_upper_lem c ≡ false) ⊎ (upper_lem c ≡ c)
upper_stays_or c = elim (or_cases _ _
    (by_table (λ c. not (is_upper_lem c) || eqb (upper_lem c) c) refl
    (λ c h. or_right _ _ (eqb_eq _ _ (far_upper c h))) c)) [
      | inl u ↦ inl (not_true u)
      | inr e ↦
          inr (eqb_is _ _ e)
    ]

pub is_partner_or : (c : ℕ) →
    (upper_lem c ≡ c) ⊎ ((is_upper_lem (upper_lem c) ≡ true) × (lower_lem (upper_lem c) ≡ c))
is_partner_or c = elim (or_cases _ _
    (by_table (λ c. eqb (upper_lem c) c
    || (is_upper_lem (upper_lem c) && eqb (lower_lem (upper_lem c)) c)) refl
    (λ c h. or_left _ _ (eqb_eq _ _ (far_upper c h))) c))
    [ inl e ↦ inl (eqb_is _ _ e) | inr b ↦ inr (and_left _ _ b, eqb_is _ _ (and_right _ _ b)) ]

pub upper_twice : (c : ℕ) → upper_lem (upper_lem c) ≡ upper_lem c
upper_twice c = eqb_is _ _
    (by_table (λ c. eqb (upper_lem (upper_lem c)) (upper_lem c)) refl
    (λ c h. eqb_eq _ _ (ap upper_lem (far_upper c h))) c)

far_partner : (c : ℕ) → 1120 ≤ c → partner_lem c ≡ c
far_partner c h = simp (far_is_upper c h, far_upper c h)

pub partner_twice : (c : ℕ) → partner_lem (partner_lem c) ≡ c
partner_twice c = eqb_is _ _
    (by_table (λ c. eqb (partner_lem (partner_lem c)) c) refl
    (λ c h. eqb_eq _ _ (ap partner_lem (far_partner c h) ∙ far_partner c h)) c)

pub lower_bytes : (c : ℕ) → length (letter_bytes (lower_lem c)) ≡ length (letter_bytes c)
unfolding encode_utf8
lower_bytes c = eqb_is _ _
    (by_table (λ c. eqb (length (letter_bytes (lower_lem c))) (length (letter_bytes c))) refl
    (λ c h. eqb_eq _ _ (ap (λ d. length (letter_bytes d)) (far_lower c h))) c)

pub upper_bytes : (c : ℕ) → length (letter_bytes (upper_lem c)) ≡ length (letter_bytes c)
unfolding encode_utf8
upper_bytes c = eqb_is _ _
    (by_table (λ c. eqb (length (letter_bytes (upper_lem c))) (length (letter_bytes c))) refl
    (λ c h. eqb_eq _ _ (ap (λ d. length (letter_bytes d)) (far_upper c h))) c)

pub and_both : (a b : Bool) → a ≡ true → b ≡ true → (a && b) ≡ true
and_both true b e f = f
and_both false b e f = e
