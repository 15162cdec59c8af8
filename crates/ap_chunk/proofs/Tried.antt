-- Trying every rule chooses what the relation says, and that is one choice alone.
use Rattle.std.proofs.Common.{◌≡◌, ℕ, zero, suc, ◌+◌, ◌<◌, ◌≤◌, Bool, true, false, cond, nat_le, List, [], ◌∷◌, length, Option, Some, None, refl, ap, sym, ◌∙◌, arith, subst}
use Rattle.std.proofs.lemmas.Bool.{false≢true, leb-true, leb-false}
use Rattle.ap_chunk.specs.declared.choice.Choice.{Choice}
use Rattle.ap_chunk.specs.Choice.{fits, RuleFits, IsChosen}
use Rattle.ap_chunk.specs.Going.{numbered, longer, chosen, chosen_of}

-- the choice among rules that are numbered from k on
record IsFirst (k : ℕ) (patterns : List (List ℕ)) (units : List (ℕ → Bool))
    (c : Choice) : Type 0 where
  place : ℕ
  number : c.rule ≡ k + place
  fitting : RuleFits patterns place units c.size
  longest : (j n : ℕ) → RuleFits patterns j units n → n ≤ c.size
  first : (j : ℕ) → RuleFits patterns j units c.size → place ≤ j

abbrev IsFrom : ℕ → List (List ℕ) → List (ℕ → Bool) → Option Choice → Type 0
IsFrom k patterns units None = (j n : ℕ) → RuleFits patterns j units n → ⊥
IsFrom k patterns units (Some c) = IsFirst k patterns units c

further : (p : List ℕ) (patterns : List (List ℕ)) (units : List (ℕ → Bool)) (j n : ℕ) →
    RuleFits (p ∷ patterns) (suc j) units n → RuleFits patterns j units n
further p patterns units j n f =
    record { pattern = f.pattern; at = f.at; size = f.size; fit = f.fit }

behind : (p : List ℕ) (patterns : List (List ℕ)) (units : List (ℕ → Bool)) (j n : ℕ) →
    RuleFits patterns j units n → RuleFits (p ∷ patterns) (suc j) units n
behind p patterns units j n f =
    record { pattern = f.pattern; at = f.at; size = f.size; fit = f.fit }

same_pattern : (p q : List ℕ) → Some p ≡ Some q → p ≡ q
same_pattern p q e = cc

head_fits : (p : List ℕ) (patterns : List (List ℕ)) (units : List (ℕ → Bool)) (n : ℕ) →
    RuleFits (p ∷ patterns) 0 units n → fits p units ≡ true
head_fits p patterns units n f = ap (λ l. fits l units) (same_pattern p f.pattern f.at) ∙ f.fit

head_size : (p : List ℕ) (patterns : List (List ℕ)) (units : List (ℕ → Bool)) (n : ℕ) →
    RuleFits (p ∷ patterns) 0 units n → n ≡ length p
head_size p patterns units n f = f.size ∙ sym (ap length (same_pattern p f.pattern f.at))

-- the first pattern doesn't fit
pass : (k : ℕ) (p : List ℕ) (patterns : List (List ℕ)) (units : List (ℕ → Bool)) (o : Option Choice)
    → fits p units ≡ false → IsFrom (k + 1) patterns units o → IsFrom k (p ∷ patterns) units o
pass k p patterns units None e h = none
  where
    none : (j n : ℕ) → RuleFits (p ∷ patterns) j units n → ⊥
    none zero n f = false≢true (sym e ∙ head_fits p patterns units n f)
    none (suc j) n f = h j n (further p patterns units j n f)
pass k p patterns units (Some c) e h = record {
  place = suc h.place;
  number = (let n : c.rule ≡ k + 1 + h.place = h.number in omega (arith, n));
  fitting = behind p patterns units h.place c.size h.fitting;
  longest = longest;
  first = first;
}
  where
    longest : (j n : ℕ) → RuleFits (p ∷ patterns) j units n → n ≤ c.size
    longest zero n f = absurd (false≢true (sym e ∙ head_fits p patterns units n f))
    longest (suc j) n f = h.longest j n (further p patterns units j n f)

    first : (j : ℕ) → RuleFits (p ∷ patterns) j units c.size → suc h.place ≤ j
    first zero f = absurd (false≢true (sym e ∙ head_fits p patterns units c.size f))
    first (suc j) f = let le = h.first j (further p patterns units j c.size f) in omega (arith, le)

-- it fits, and no later one is longer
take_head : (k size : ℕ) (p : List ℕ) (patterns : List (List ℕ)) (units : List (ℕ → Bool)) →
    fits p units ≡ true → size ≡ length p → ((j n : ℕ) → RuleFits patterns j units n → n ≤ size)
    → IsFirst k (p ∷ patterns) units (record { rule = k; size = size })
take_head k size p patterns units e s h = record {
  place = 0;
  number = omega arith;
  fitting = record { pattern = p; at = refl; size = s; fit = e };
  longest = longest;
  first = λ j f. omega arith;
}
  where
    longest : (j n : ℕ) → RuleFits (p ∷ patterns) j units n → n ≤ size
    longest zero n f = let m = head_size p patterns units n f in omega (arith, m, s)
    longest (suc j) n f = h j n (further p patterns units j n f)

-- it fits, and a later one is longer
take_later : (k size : ℕ) (p : List ℕ) (patterns : List (List ℕ)) (units : List (ℕ → Bool))
    (c : Choice) → size ≡ length p → size < c.size → IsFirst (k + 1) patterns units c →
    IsFirst k (p ∷ patterns) units c
take_later k size p patterns units c s lt h = record {
  place = suc h.place;
  number = (let n : c.rule ≡ k + 1 + h.place = h.number in omega (arith, n));
  fitting = behind p patterns units h.place c.size h.fitting;
  longest = longest;
  first = first;
}
  where
    longest : (j n : ℕ) → RuleFits (p ∷ patterns) j units n → n ≤ c.size
    longest zero n f = let m = head_size p patterns units n f in omega (arith, m, s, lt)
    longest (suc j) n f = h.longest j n (further p patterns units j n f)

    first : (j : ℕ) → RuleFits (p ∷ patterns) j units c.size → suc h.place ≤ j
    first zero f = let m = head_size p patterns units c.size f in absurd (omega (arith, m, s, lt))
    first (suc j) f = let le = h.first j (further p patterns units j c.size f) in omega (arith, le)

longer_at : (b : Bool) (k size : ℕ) (p : List ℕ) (patterns : List (List ℕ))
    (units : List (ℕ → Bool)) (c : Choice) → nat_le c.size size ≡ b → fits p units ≡ true →
    size ≡ length p → IsFirst (k + 1) patterns units c
    → IsFrom k (p ∷ patterns) units (cond b (Some (record { rule = k; size = size })) (Some c))
longer_at true k size p patterns units c e f s h =
    take_head k size p patterns units f s
    (λ j n g. (let le = h.longest j n g in omega (arith, le, leb-true c.size size e)))
longer_at false k size p patterns units c e f s h =
    take_later k size p patterns units c s (leb-false c.size size e) h

longer_from : (b : Bool) (k : ℕ) (p : List ℕ) (patterns : List (List ℕ)) (units : List (ℕ → Bool))
    (o : Option Choice) → fits p units ≡ b → IsFrom (k + 1) patterns units o
    → IsFrom k (p ∷ patterns) units
    (longer (cond b (Some (record { rule = k; size = 0 + length p })) None) o)
longer_from false k p patterns units o e h = pass k p patterns units o e h
longer_from true k p patterns units None e h =
    take_head k (0 + length p) p patterns units e (omega arith) (λ j n f. absurd (h j n f))
longer_from true k p patterns units (Some c) e h =
    longer_at (nat_le c.size (0 + length p)) k (0 + length p) p patterns units c refl e
    (omega arith) h

chosen_from : (k : ℕ) (patterns : List (List ℕ)) (units : List (ℕ → Bool)) →
    IsFrom k patterns units (chosen 0 (numbered k patterns) units)
chosen_from k [] units = λ j n f. none f.pattern f.at
  where
    none : (p : List ℕ) → None ≡ Some p → ⊥
    none p e = cc
chosen_from k (p ∷ patterns) units =
    longer_from (fits p units) k p patterns units (chosen 0 (numbered (k + 1) patterns) units) refl
    (chosen_from (k + 1) patterns units)

from_zero : (patterns : List (List ℕ)) (units : List (ℕ → Bool)) (o : Option Choice) →
    IsFrom 0 patterns units o → IsChosen patterns units o
from_zero patterns units None h = h
from_zero patterns units (Some c) h =
    let e : h.place ≡ c.rule = (let n : c.rule ≡ 0 + h.place = h.number in omega (arith, n)) in
    let P : ℕ → Type 0 = λ r. RuleFits patterns r units c.size in
    record {
      fitting = subst P e h.fitting;
      longest = h.longest;
      first =
          λ j f. (let le : h.place ≤ j = h.first j f in omega (arith, le, e));
    }

pub chosen_is : (patterns : List (List ℕ)) (units : List (ℕ → Bool)) →
    IsChosen patterns units (chosen_of patterns units)
chosen_is patterns units =
    from_zero patterns units (chosen_of patterns units) (chosen_from 0 patterns units)

same_choice : (a b : Choice) → a.rule ≡ b.rule → a.size ≡ b.size → a ≡ b
same_choice a b e f = ap (λ (r : ℕ). record { rule = r; size = a.size }) e
    ∙ ap (λ (s : ℕ). record { rule = b.rule; size = s }) f

pub one_choice : (patterns : List (List ℕ)) (units : List (ℕ → Bool)) (a b : Option Choice) →
    IsChosen patterns units a → IsChosen patterns units b → a ≡ b
one_choice patterns units None None h k = refl
one_choice patterns units None (Some b) h k = absurd (h b.rule b.size k.fitting)
one_choice patterns units (Some a) None h k = absurd (k a.rule a.size h.fitting)
one_choice patterns units (Some a) (Some b) h k =
    let ab : a.size ≤ b.size = k.longest a.rule a.size h.fitting in
    let ba : b.size ≤ a.size = h.longest b.rule b.size k.fitting in
    let e : a.size ≡ b.size = omega (arith, ab, ba) in
    let P : ℕ → ℕ → Type 0 = λ r n. RuleFits patterns r units n in
    let r1 : a.rule ≤ b.rule = h.first b.rule (subst (P b.rule) (sym e) k.fitting) in
    let r2 : b.rule ≤ a.rule = k.first a.rule (subst (P a.rule) e h.fitting) in
    ap Some (same_choice a b (omega (arith, r1, r2)) e)
