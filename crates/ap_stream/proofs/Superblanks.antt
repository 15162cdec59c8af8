-- Superblanks, character by character.
use Rattle.std.proofs.Common.{arith, ap, sym, ◌∙◌, ◌≡◌, ◌≢◌, ℕ, zero, suc, ◌+◌, ◌-◌, ◌<◌, ◌≤◌, List, [], ◌∷◌, ◌++◌, length, take, drop, get_or, refl, Bool, true, false, cond, eqb, append-nil, append_assoc, drop-cons, length-drop}
use Rattle.std.specs.List.{flat_map}
use Rattle.std.proofs.lemmas.List.{drop-drop, take_rest, drop_all}
use Rattle.std.proofs.lemmas.Bool.Decides.{nat_tests}
use Rattle.ap_stream.specs.Chars.{Front, Part, NotChar, Char, char_at}
use Rattle.ap_stream.proofs.CharLaws.{char_fits}
use Rattle.ap_stream.specs.Blanks.{Close, Within, Bad, Closed, closing, closes, escapes, longer}
use Rattle.ap_stream.proofs.BlankLaws.{closing_skip}
use Rattle.ap_stream.specs.Supers.{blank_supers, closed_super}

pub closing_nil : (e : Bool) → closing e 0 [] ≡ Within
unfolding closing
closing_nil e = refl

none_there : (c n : ℕ) → char_at [] ≡ Char c n → ⊥
unfolding char_at
none_there c n h = cc

none_bad : char_at [] ≡ NotChar → ⊥
unfolding char_at
none_bad h = cc

closing_cons : (e : Bool) (b : ℕ) (bs : List ℕ) (c n : ℕ) → char_at (b ∷ bs) ≡ Char c n → 0 < n →
    closing e 0 (b ∷ bs) ≡ cond (closes e c) (Closed n)
    (longer n (closing (escapes e c) 0 (drop n (b ∷ bs))))
unfolding closing
closing_cons e b bs c zero h some = absurd (omega arith)
closing_cons e b bs c (suc n) h some = rw (h, closing_skip (escapes e c) n bs) refl

-- the first character
pub closing_first : (e : Bool) (xs : List ℕ) (c n : ℕ) → char_at xs ≡ Char c n →
    closing e 0 xs ≡ cond (closes e c) (Closed n) (longer n (closing (escapes e c) 0 (drop n xs)))
closing_first e [] c n h = absurd (none_there c n h)
closing_first e (b ∷ bs) c n h = closing_cons e b bs c n h (rw h at (char_fits (b ∷ bs))).0

closing_part : (e : Bool) (xs : List ℕ) → char_at xs ≡ Part → closing e 0 xs ≡ Within
unfolding closing
closing_part e [] h = refl
closing_part e (b ∷ bs) h = rw h refl

closing_bad : (e : Bool) (xs : List ℕ) → char_at xs ≡ NotChar → closing e 0 xs ≡ Bad
unfolding closing
closing_bad e [] h = absurd (none_bad h)
closing_bad e (b ∷ bs) h = rw h refl

longer_longer : (m n : ℕ) (c : Close) → longer m (longer n c) ≡ longer (m + n) c
longer_longer m n Within = refl
longer_longer m n Bad = refl
longer_longer m n (Closed k) = ap Closed (omega arith)

-- so far nothing has closed
module _ (bytes : List ℕ) (at : ℕ) (e : Bool) (front : Front) (so_far : closing false 0 bytes
    ≡ longer at (closing e 0 (drop at bytes)))
    (is : front ≡ char_at (take (length bytes - at) (drop at bytes))) where
  here : char_at (drop at bytes) ≡ front
  here = ap char_at (sym (take_rest bytes at)) ∙ sym is

  pub part_unclosed : front ≡ Part → (n : ℕ) → closing false 0 bytes ≢ Closed n
  part_unclosed p n h = let w : closing e 0 (drop at bytes) ≡ Within =
      closing_part e (drop at bytes) (here ∙ p) in let s : closing false 0 bytes ≡ Within =
      so_far ∙ ap (longer at) w in cc

  pub bad_unclosed : front ≡ NotChar → (n : ℕ) → closing false 0 bytes ≢ Closed n
  bad_unclosed p n h = let w : closing e 0 (drop at bytes) ≡ Bad =
      closing_bad e (drop at bytes) (here ∙ p) in let s : closing false 0 bytes ≡ Bad =
      so_far ∙ ap (longer at) w in cc

  module _ (c n : ℕ) (p : front ≡ Char c n) where
    pub closed_here : closes e c ≡ true → closing false 0 bytes ≡ Closed (at + n)
    closed_here y =
        let s : cond (closes e c) (Closed n)
        (longer n (closing (escapes e c) 0 (drop n (drop at bytes)))) ≡ Closed n = rw y refl in
        so_far ∙ ap (longer at) (closing_first e (drop at bytes) c n (here ∙ p) ∙ s)

    pub closed_later : closes e c ≡ false →
        closing false 0 bytes ≡ longer (at + n) (closing (escapes e c) 0 (drop (at + n) bytes))
    closed_later y =
        let s : cond (closes e c) (Closed n)
        (longer n (closing (escapes e c) 0 (drop n (drop at bytes))))
        ≡ longer n (closing (escapes e c) 0 (drop n (drop at bytes))) = rw y refl in
        so_far ∙ ap (longer at) (closing_first e (drop at bytes) c n (here ∙ p) ∙ s)
        ∙ longer_longer at n (closing (escapes e c) 0 (drop n (drop at bytes)))
        ∙ ap (λ (z : List ℕ). longer (at + n) (closing (escapes e c) 0 z))
        (drop-drop n at bytes)

    pub closed_within : at ≤ length bytes → (0 < n) × (at + n ≤ length bytes)
    closed_within l = let f = rw (here ∙ p) at (char_fits (drop at bytes)) in let d =
        length-drop at bytes in (f.0, omega (arith, f.1, d))

pub none_unclosed : (bytes : List ℕ) (at : ℕ) (e : Bool) →
    closing false 0 bytes ≡ longer at (closing e 0 (drop at bytes)) → drop at bytes ≡ [] → (n : ℕ) →
    closing false 0 bytes ≢ Closed n
none_unclosed bytes at e so_far none n h =
    let s : closing false 0 bytes ≡ Within =
    so_far ∙ ap (λ (z : List ℕ). longer at (closing e 0 z)) none
    ∙ ap (longer at) (closing_nil e) in cc

-- the superblanks of the bytes, byte by byte
pub supers_other : (b : ℕ) (bs : List ℕ) → eqb b 91 ≡ false →
    blank_supers 0 (b ∷ bs) ≡ blank_supers 0 bs
unfolding blank_supers
supers_other b bs h = rw h refl

supers_skip : (n : ℕ) (bs : List ℕ) → blank_supers n bs ≡ blank_supers 0 (drop n bs)
unfolding blank_supers
supers_skip zero bs = refl
supers_skip (suc n) [] = refl
supers_skip (suc n) (b ∷ bs) = supers_skip n bs

pub supers_closed : (bs : List ℕ) (n : ℕ) → closing false 0 bs ≡ Closed n → blank_supers 0 (91 ∷ bs)
    ≡ (91 ∷ take n bs) ∷ blank_supers 0 (drop n bs)
unfolding blank_supers
supers_closed bs n h = rw (h, supers_skip n bs) refl

pub supers_unclosed : (bs : List ℕ) → ((n : ℕ) → closing false 0 bs ≢ Closed n) →
    blank_supers 0 (91 ∷ bs) ≡ []
unfolding blank_supers
supers_unclosed bs h = by (closing false 0 bs) refl
  where
    by : (c : Close) → closing false 0 bs ≡ c → closed_super bs c (λ n. blank_supers n bs) ≡ []
    by Within e = refl
    by Bad e = refl
    by (Closed n) e = absurd (h n e)

abbrev flat : List (List ℕ) → List ℕ
flat supers = flat_map (λ x. x) supers

not_bracket : (b : ℕ) → b ≢ 91 → eqb b 91 ≡ false
not_bracket b h = grind (arith, nat_tests)

supers_nil : blank_supers 0 [] ≡ []
unfolding blank_supers
supers_nil = refl

-- what is appended so far, and the superblanks of what is left
module _ (old into bytes : List ℕ) (at : ℕ) (so_far : old ++ flat (blank_supers 0 bytes) ≡ into
    ++ flat (blank_supers 0 (drop at bytes))) where
  pub supers_end : length bytes ≤ at → into ≡ old ++ flat (blank_supers 0 bytes)
  supers_end h = sym (so_far
      ∙ ap (λ (z : List ℕ). into ++ flat (blank_supers 0 z)) (drop_all at bytes h)
      ∙ ap (λ (z : List (List ℕ)). into ++ flat z) supers_nil ∙ append-nil into)

  module _ (more : at < length bytes) where
    split : drop at bytes ≡ get_or bytes at 0 ∷ drop (at + 1) bytes
    split = let one : suc at ≡ at + 1 = omega arith in drop-cons bytes at 0 more
        ∙ ap (λ (n : ℕ). get_or bytes at 0 ∷ drop n bytes) one

    pub supers_on : get_or bytes at 0 ≢ 91 → old ++ flat (blank_supers 0 bytes) ≡ into
        ++ flat (blank_supers 0 (drop (at + 1) bytes))
    supers_on h = so_far ∙ ap (λ (z : List ℕ). into ++ flat (blank_supers 0 z)) split
        ∙ ap (λ (z : List (List ℕ)). into ++ flat z)
        (supers_other (get_or bytes at 0) (drop (at + 1) bytes) (not_bracket (get_or bytes at 0) h))

    module _ (is : get_or bytes at 0 ≡ 91) where
      bracket : drop at bytes ≡ 91 ∷ drop (at + 1) bytes
      bracket = split ∙ ap (λ (b : ℕ). b ∷ drop (at + 1) bytes) is

      pub supers_last : ((n : ℕ) →
          closing false 0 (take (length bytes - (at + 1)) (drop (at + 1) bytes)) ≢ Closed n) →
          into ≡ old ++ flat (blank_supers 0 bytes)
      supers_last h =
          let none : blank_supers 0 (91 ∷ drop (at + 1) bytes) ≡ [] =
          supers_unclosed (drop (at + 1) bytes)
          (λ n e. h n (ap (closing false 0) (take_rest bytes (at + 1)) ∙ e)) in
          sym (so_far ∙ ap (λ (z : List ℕ). into ++ flat (blank_supers 0 z)) bracket
          ∙ ap (λ (z : List (List ℕ)). into ++ flat z) none ∙ append-nil into)

      pub supers_in : (n : ℕ) (new : List ℕ) →
          closing false 0 (take (length bytes - (at + 1)) (drop (at + 1) bytes)) ≡ Closed n →
          new ≡ into ++ take (at + 1 + n - at) (drop at bytes) →
          old ++ flat (blank_supers 0 bytes) ≡ new
          ++ flat (blank_supers 0 (drop (at + (1 + n)) bytes))
      supers_in n new h e =
          let c : closing false 0 (drop (at + 1) bytes) ≡ Closed n =
          ap (closing false 0) (sym (take_rest bytes (at + 1))) ∙ h in
          let size : at + 1 + n - at ≡ suc n = omega arith in
          let piece : take (at + 1 + n - at) (drop at bytes) ≡ 91 ∷ take n (drop (at + 1) bytes) =
          ap (λ (k : ℕ). take k (drop at bytes)) size ∙ ap (take (suc n)) bracket in
          let count : at + 1 + n ≡ at + (1 + n) = omega arith in
          let behind : drop n (drop (at + 1) bytes) ≡ drop (at + (1 + n)) bytes =
          drop-drop n (at + 1) bytes ∙ ap (λ (k : ℕ). drop k bytes) count in
          so_far ∙ ap (λ (z : List ℕ). into ++ flat (blank_supers 0 z)) bracket
          ∙ ap (λ (z : List (List ℕ)). into ++ flat z) (supers_closed (drop (at + 1) bytes) n c)
          ∙ sym (append_assoc into (91 ∷ take n (drop (at + 1) bytes))
          (flat (blank_supers 0 (drop n (drop (at + 1) bytes)))))
          ∙ ap (λ (z : List ℕ). (into ++ z)
          ++ flat (blank_supers 0 (drop n (drop (at + 1) bytes)))) (sym piece)
          ∙ ap (λ (z : List ℕ). z ++ flat (blank_supers 0 (drop n (drop (at + 1) bytes)))) (sym e)
          ∙ ap (λ (z : List ℕ). new ++ flat (blank_supers 0 z)) behind
