use Rattle.std.proofs.Common.{◌≡◌, ℕ, ◌+◌, ◌-◌, ◌<◌, Bool, cond, eqb, List, [], ◌∷◌, ◌++◌, length, take, get_or, refl, sym, ap, ◌∙◌, arith}
use Rattle.std.proofs.lemmas.List.{take_more, length_push}
use Rattle.std.proofs.lemmas.List.Concat.{flat_map-append}
use Rattle.std.proofs.lemmas.Grind.{common_steps}
use Rattle.ap_symbol.specs.declared.symbol.Symbol.{Symbol}
use Rattle.ap_symbol.specs.declared.symbol.Symbol.TheVariants.{Letter, Tag, Blank, Join, Queue, Alarm, Star, At}
use Rattle.ap_symbol.specs.Recasing.{letter_of, letters, passes_at}

snoc_nil : (xs : List ℕ) → xs ++ [] ≡ xs
snoc_nil [] = refl
snoc_nil (x ∷ xs) = ap (λ l. x ∷ l) (snoc_nil xs)

pub no_letter : (x : Symbol) → ((c : ℕ) → x ≡ Letter c → ⊥) → letter_of x ≡ []
no_letter (Letter c) h = absurd (h c refl)
no_letter (Tag name) h = refl
no_letter Blank h = refl
no_letter Join h = refl
no_letter Queue h = refl
no_letter Alarm h = refl
no_letter Star h = refl
no_letter At h = refl

-- one more symbol
pub letters_more : (word : List Symbol) (i : ℕ) (d : Symbol) → i < length word →
    letters (take (i + 1) word) ≡ letters (take i word) ++ letter_of (get_or word i d)
letters_more word i d h = ap letters (take_more word i d h)
    ∙ flat_map-append letter_of (take i word) (get_or word i d ∷ [])
    ∙ ap (λ l. letters (take i word) ++ l) (snoc_nil (letter_of (get_or word i d)))

pub first_push : (test : ℕ → Bool) (cs : List ℕ) (c : ℕ) → passes_at test (cs ++ c ∷ []) 0
    ≡ cond (eqb (length cs) 0) (test c) (passes_at test cs 0)
first_push test [] c = refl
first_push test (x ∷ xs) c = grind (arith, common_steps)

pub last_push : (test : ℕ → Bool) (cs : List ℕ) (c : ℕ) →
    passes_at test (cs ++ c ∷ []) (length (cs ++ c ∷ []) - 1) ≡ test c
last_push test cs c = grind (arith, common_steps)

-- what a walk over these letters remembers
pub record HasSeen (test : ℕ → Bool) (cs : List ℕ) (count : ℕ) (first last : Bool) : Type 0 where
  pub counted : count ≡ length cs
  pub first_is : first ≡ passes_at test cs 0
  pub last_is : last ≡ passes_at test cs (length cs - 1)

pub seen_push : (test : ℕ → Bool) (cs : List ℕ) (count : ℕ) (first last : Bool) (c : ℕ) →
    HasSeen test cs count first last →
    HasSeen test (cs ++ c ∷ []) (count + 1) (cond (eqb count 0) (test c) first) (test c)
seen_push test cs count first last c h = record {
  counted = ap (λ n. n + 1) h.counted ∙ sym (length_push cs c);
  first_is = cc (first_push test cs c);
  last_is = sym (last_push test cs c);
}

pub pick_zero : (n : ℕ) (a b x y : Bool) → n ≡ 0 → x ≡ y → y ≡ a → x ≡ cond (eqb n 0) a b
pick_zero n a b x y e f g = rw e (f ∙ g)

pub pick_more : (n : ℕ) (a b x y : Bool) → (n ≡ 0 → ⊥) → x ≡ y → y ≡ b → x ≡ cond (eqb n 0) a b
pick_more n a b x y e f g = grind arith

-- the next symbol is a letter
pub seen_letter : (test : ℕ → Bool) (word : List Symbol) (i : ℕ) (x : Symbol) (c : ℕ)
    (count count' : ℕ) (first last first' last' u : Bool) → i < length word → x ≡ get_or word i x →
    x ≡ Letter c → HasSeen test (letters (take i word)) count first last
    → u ≡ test c → count' ≡ count + 1 → first' ≡ cond (eqb count 0) u first → last' ≡ u →
    HasSeen test (letters (take (i + 1) word)) count' first' last'
seen_letter test word i x c count count' first last first' last' u h at is seen t e f g =
    let spelled : letters (take (i + 1) word) ≡ letters (take i word) ++ c ∷ [] =
    letters_more word i x h ∙ ap (λ s. letters (take i word) ++ letter_of s) (sym at ∙ is) in
    let after = seen_push test (letters (take i word)) count first last c seen in
    record {
      counted = e ∙ after.counted ∙ ap length (sym spelled);
      first_is = f ∙ ap (λ v. cond (eqb count 0) v first) t ∙ after.first_is
          ∙ ap (λ cs. passes_at test cs 0) (sym spelled);
      last_is = g ∙ t ∙ after.last_is ∙ ap (λ cs. passes_at test cs (length cs - 1)) (sym spelled);
    }

-- the next symbol is none
pub seen_other : (test : ℕ → Bool) (word : List Symbol) (i : ℕ) (x : Symbol) (count count' : ℕ)
    (first last first' last' : Bool) → i < length word → x ≡ get_or word i x →
    ((c : ℕ) → x ≡ Letter c → ⊥) → HasSeen test (letters (take i word)) count first last
    → count' ≡ count → first' ≡ first → last' ≡ last →
    HasSeen test (letters (take (i + 1) word)) count' first' last'
seen_other test word i x count count' first last first' last' h at not_letter seen e f g =
    let spelled : letters (take (i + 1) word) ≡ letters (take i word) =
    letters_more word i x h ∙ ap (λ s. letters (take i word) ++ letter_of s) (sym at)
    ∙ ap (λ cs. letters (take i word) ++ cs) (no_letter x not_letter)
    ∙ snoc_nil (letters (take i word)) in
    record {
      counted = e ∙ seen.counted ∙ ap length (sym spelled);
      first_is = f ∙ seen.first_is ∙ ap (λ cs. passes_at test cs 0) (sym spelled);
      last_is = g ∙ seen.last_is ∙ ap (λ cs. passes_at test cs (length cs - 1)) (sym spelled);
    }
