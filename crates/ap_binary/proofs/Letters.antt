-- The letters of an alphabet's line.
use Rattle.std.proofs.Common.{◌≡◌, inl, inr, ℕ, suc, zero, ◌+◌, ◌<◌, ◌≤◌, Bool, true, false, not, nat_le, List, [], ◌∷◌, ◌++◌, length, refl, sym, ◌∙◌, ap, subst, append_assoc, append-nil, arith, Option, Some, None}
use Rattle.std.specs.Prelude.{◌↔◌, IsTrue, if◌then◌else◌, codes, IfSome}
use Rattle.std.specs.List.{list_all}
use Rattle.std.specs.Ordering.{nat_cmp}
use Rattle.std.proofs.lemmas.Bool.{cases_Bool, cond-true, cond-false}
use Rattle.std.proofs.lemmas.Bool.Decides.{nat_tests}
use Rattle.ap_symbol.specs.Alphabet.{has_letter, is_closed}
use Rattle.ap_symbol.specs.Lists.{IsIn}
use Rattle.ap_symbol.specs.Words.{is_white}
use Rattle.ap_symbol.proofs.Alphabets.{has_in, in_has}
use Rattle.ap_fst.specs.Lists.{Ascends}
use Rattle.ap_fst.specs.Sections.{IsAlphabet}
use Rattle.ap_fst.proofs.PlaceLaws.{cmp_less}
use Rattle.ap_binary.specs.Reading.{◌>>=◌, Fails}
use Rattle.ap_binary.specs.Pieces.{is_character, scalar_of, unless_white, character_of, number_at, character_at, byte_at, word_at, begins_with, next_letter_at, with_letters, letters_in, alphabet_at}
use Rattle.ap_binary.specs.declared.refusal.CutError.{CutError}
use Rattle.ap_binary.specs.declared.refusal.CutError.TheVariants.{Bad, Memory}
use Rattle.ap_binary.proofs.Bools.{same_bool}
use Rattle.ap_binary.proofs.Options.{bound, IsBound, some_if, some_unless, bind_some, chosen_if}

-- ---- reading goes on

pub some_left : (bytes : List ℕ) → begins_with 32 bytes ≡ true → 0 < length bytes
some_left [] e = cc
some_left (b ∷ bs) e = omega arith

with_letters-append : (a b : List ℕ) (r : Option (List ℕ × List ℕ)) →
    with_letters a (with_letters b r) ≡ with_letters (a ++ b) r
with_letters-append a b None = refl
with_letters-append a b (Some v) = rw append_assoc refl

pub letters_go : (found : List ℕ) (k m least : ℕ) (rest next : List ℕ) (c : ℕ)
    (all : Option (List ℕ × List ℕ)) → k ≡ suc m → begins_with 32 rest ≡ true →
    next_letter_at least rest ≡ Some (c, next)
    → with_letters found (letters_in k least rest) ≡ all →
    with_letters (found ++ c ∷ []) (letters_in m (c + 1) next) ≡ all
unfolding letters_in
letters_go found k m least rest next c all count begins read h =
    let step : letters_in (suc m) least rest ≡ with_letters (c ∷ []) (letters_in m (c + 1) next) =
    rw (begins, read) refl in
    sym (with_letters-append found (c ∷ []) (letters_in m (c + 1) next))
    ∙ ap (with_letters found) (sym step ∙ ap (λ n. letters_in n least rest) (sym count)) ∙ h

pub letters_stop : (e : CutError) (found : List ℕ) (k least : ℕ) (rest : List ℕ)
    (all : Option (List ℕ × List ℕ)) → 0 < k → begins_with 32 rest ≡ true →
    Fails e (next_letter_at least rest) → with_letters found (letters_in k least rest) ≡ all
    → Fails e all
unfolding letters_in
letters_stop Memory found k least rest all some begins read h = tt
letters_stop Bad found zero least rest all some begins read h = absurd (omega arith)
letters_stop Bad found (suc k) least rest all some begins read h =
    let step : letters_in (suc k) least rest ≡ None = rw (begins, read) refl in
    sym h ∙ ap (with_letters found) step

pub letters_done : (found : List ℕ) (k least : ℕ) (rest : List ℕ) (all : Option (List ℕ × List ℕ)) →
    begins_with 32 rest ≡ false → with_letters found (letters_in k least rest) ≡ all →
    all ≡ Some (found, rest)
unfolding letters_in
letters_done found zero least rest all begins h = sym h ∙ rw append-nil refl
letters_done found (suc k) least rest all begins h = sym h ∙ rw (begins, append-nil) refl

-- ---- what letters are read

pub record IsPlainLetter (c : ℕ) : Type 0 where
  pub char : is_character c ≡ true
  pub plain : is_white c ≡ false

pub plain_character : (n : Option ℕ) (c : ℕ) → character_of n ≡ Some c → IsPlainLetter c
plain_character None c h = cc
plain_character (Some k) c h =
    let b : IsBound (scalar_of k) unless_white c = bound (scalar_of k) unless_white c h in
    let s : (is_character k ≡ true) × (k ≡ b.x) = some_if (is_character k) k b.x b.is in
    let u : (is_white b.x ≡ false) × (b.x ≡ c) = some_unless (is_white b.x) b.x c b.gives in
    record { char = ap is_character (sym (s.1 ∙ u.1)) ∙ s.0; plain = ap is_white (sym u.1) ∙ u.0 }

abbrev first_of : Option (ℕ × List ℕ) → ℕ
first_of None = 0
first_of (Some v) = v.0

pub plain_character_at : (bytes next : List ℕ) (c : ℕ) → character_at bytes ≡ Some (c, next) →
    IsPlainLetter c
unfolding character_at
plain_character_at bytes next c h =
    let a = bound {A = Option ℕ × List ℕ} {B = ℕ × List ℕ} (number_at bytes)
    (λ n. ◌>>=◌ {A = ℕ} {B = ℕ × List ℕ} (character_of n.0) (λ d. Some (d, n.1))) (c, next) h in
    let b = bound {A = ℕ} {B = ℕ × List ℕ} (character_of a.x.0) (λ d. Some (d, a.x.1))
    (c, next) a.gives in
    let e : b.x ≡ c = ap first_of b.gives in
    subst IsPlainLetter e (plain_character a.x.0 b.x b.is)

pub record IsNextLetter (least c : ℕ) : Type 0 where
  pub above : least ≤ c
  pub plain : IsPlainLetter c

pub next_letter_is : (least c : ℕ) (bytes next : List ℕ) → next_letter_at least bytes
    ≡ Some (c, next) → IsNextLetter least c
unfolding next_letter_at
next_letter_is least c bytes next h =
    let a = bound {A = List ℕ} {B = ℕ × List ℕ} (byte_at 32 bytes)
    (λ rest. ◌>>=◌ {A = ℕ × List ℕ} {B = ℕ × List ℕ} (character_at rest)
    (λ d. if nat_le least d.0 then Some d else None)) (c, next) h in
    let b = bound {A = ℕ × List ℕ} {B = ℕ × List ℕ} (character_at a.x) (λ d. if nat_le least d.0
    then Some d else None) (c, next) a.gives in
    let s : (nat_le least b.x.0 ≡ true) × (b.x ≡ (c, next)) =
    some_if (nat_le least b.x.0) b.x (c, next) b.gives in
    let e : b.x.0 ≡ c = ap (λ (v : ℕ × List ℕ). v.0) s.1 in
    let p : least ≤ b.x.0 = grind (arith, nat_tests, s.0) in
    record {
      above = omega arith;
      plain =
          plain_character_at a.x next c
          (b.is ∙ ap (λ (v : ℕ × List ℕ). let r : Option (ℕ × List ℕ) = Some v in r) s.1);
    }

pub record AreLetters (least : ℕ) (letters : List ℕ) : Type 0 where
  pub ascend : Ascends nat_cmp letters
  pub above : (c : ℕ) → IsIn c letters → least ≤ c
  pub plain : (c : ℕ) → IsIn c letters → IsPlainLetter c

no_letters : (least : ℕ) (letters : List ℕ) → letters ≡ [] → AreLetters least letters
no_letters least letters e = let P : List ℕ → Type 0 = λ z. AreLetters least z in
    subst P (sym e) (record { ascend = tt; above = λ c i. elim i [ ]; plain = λ c i. elim i [ ] })

more_letters : (least c : ℕ) (letters : List ℕ) → IsNextLetter least c → AreLetters (c + 1) letters
    → AreLetters least (c ∷ letters)
more_letters least c letters n are = record {
  ascend = (λ d i. let lt : c + 1 ≤ d = are.above d i in cmp_less c d (omega arith), are.ascend);
  above = λ d i. elim i [
    | inl e ↦ let a : least ≤ c = n.above in omega arith
    | inr k ↦
        let a : least ≤ c = n.above in let lt : c + 1 ≤ d = are.above d k in omega arith
  ];
  plain = λ d i. elim i [ inl e ↦ subst IsPlainLetter (sym e) n.plain | inr k ↦ are.plain d k ];
}

abbrev first_part : Option (List ℕ × List ℕ) → List ℕ
first_part None = []
first_part (Some v) = v.0

pub letters_are : (n least : ℕ) (bytes letters rest : List ℕ) → letters_in n least bytes
    ≡ Some (letters, rest) → AreLetters least letters
unfolding letters_in
letters_are zero least bytes letters rest h = no_letters least letters (sym (ap first_part h))
letters_are (suc n) least bytes letters rest h = elim (cases_Bool (begins_with 32 bytes)) [
  | inl begins ↦
      let h' : (next_letter_at least bytes >>= λ c. with_letters (c.0 ∷ [])
      (letters_in n (c.0 + 1) c.1)) ≡ Some (letters, rest) =
      sym (cond-true (begins_with 32 bytes)
      (next_letter_at least bytes >>= λ c. with_letters (c.0 ∷ []) (letters_in n (c.0 + 1) c.1))
      (Some ([], bytes)) begins) ∙ h in
      let a = bound {A = ℕ × List ℕ} {B = List ℕ × List ℕ} (next_letter_at least bytes)
      (λ c. with_letters (c.0 ∷ []) (letters_in n (c.0 + 1) c.1)) (letters, rest) h' in
      let b = bound {A = List ℕ × List ℕ} {B = List ℕ × List ℕ} (letters_in n (a.x.0 + 1) a.x.1)
      (λ x. Some ((a.x.0 ∷ []) ++ x.0, x.1)) (letters, rest) a.gives in
      let P : List ℕ → Type 0 = λ z. AreLetters least z in
      subst P (ap first_part b.gives)
      (more_letters least a.x.0 b.x.0 (next_letter_is least a.x.0 bytes a.x.1 a.is)
      (letters_are n (a.x.0 + 1) a.x.1 b.x.0 b.x.1 b.is))
  | inr ends ↦
      no_letters least letters
      (sym (ap first_part (sym
      (cond-false (begins_with 32 bytes)
      (next_letter_at least bytes >>= λ c. with_letters (c.0 ∷ []) (letters_in n (c.0 + 1) c.1))
      (Some ([], bytes)) ends) ∙ h)))
]

-- ---- partners

pub listed_is : (xs : List ℕ) (c : ℕ) (b : Bool) → (IsTrue b ↔ IsIn c xs) → b ≡ has_letter xs c
listed_is xs c b h = same_bool b (has_letter xs c) (λ t. in_has xs c (h.0 t))
    (λ t. h.1 (has_in xs c t))

-- ---- the alphabet

all_pass : {X : Type 0} (p : X → Bool) (xs : List X) → ((x : X) → IsIn x xs → p x ≡ true) →
    list_all p xs ≡ true
all_pass p [] h = refl
all_pass p (x ∷ xs) h = let a : p x ≡ true = h x (inl refl) in let b : list_all p xs ≡ true =
    all_pass p xs (λ y i. h y (inr i)) in rw (a, b) refl

alphabet_from : (letters : List ℕ) → AreLetters 0 letters → is_closed letters ≡ true →
    IsAlphabet letters
alphabet_from letters are closed =
    record {
      ascend = are.ascend;
      closed = closed;
      no_white =
          all_pass (λ c. not (is_white c)) letters (λ c i. ap not (are.plain c i).plain);
    }

pub alphabet_good : (bytes : List ℕ) → IfSome (alphabet_at bytes) (λ x. IsAlphabet x.0)
unfolding alphabet_at
alphabet_good bytes =
    let V : Type 0 = List ℕ × List ℕ in
    let P : V → Type 0 = λ x. IsAlphabet x.0 in
    bind_some {A = List ℕ} {B = V} (word_at (codes "alphabet") bytes)
    (λ word. ◌>>=◌ {A = V} {B = V} (letters_in (length word) 0 word)
    (λ letters. ◌>>=◌ {A = List ℕ} {B = V} (byte_at 10 letters.1)
    (λ rest. if is_closed letters.0 then Some (letters.0, rest) else None))) P
    (λ word is. bind_some {A = V} {B = V} (letters_in (length word) 0 word)
    (λ letters. ◌>>=◌ {A = List ℕ} {B = V} (byte_at 10 letters.1)
    (λ rest. if is_closed letters.0 then Some (letters.0, rest) else None)) P
    (λ letters is2. bind_some {A = List ℕ} {B = V} (byte_at 10 letters.1)
    (λ rest. if is_closed letters.0 then Some (letters.0, rest) else None) P
    (λ rest is3. chosen_if (is_closed letters.0) (letters.0, rest) P
    (λ closed. alphabet_from letters.0
    (letters_are (length word) 0 word letters.0 letters.1 is2) closed))))
