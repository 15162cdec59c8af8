-- Comparing symbol by symbol is comparing lists; what is written is read again.
use Rattle.std.proofs.Common.{◌≡◌, ℕ, zero, suc, ◌+◌, ◌-◌, ◌≤◌, nat_le, Bool, true, false, List, [], ◌∷◌, ◌++◌, length, take, drop, refl, ap, sym, ◌∙◌, length-append, arith, inl, inr, rules}
use Rattle.std.proofs.Math.Seq.{drop-append_seam}
use Rattle.std.proofs.lemmas.Bool.{false≢true}
use Rattle.std.specs.Prelude.{IsTrue}
use Rattle.ap_symbol.proofs.FittingSymbols.{fits_is, fits_itself}
use Rattle.ap_symbol.proofs.Partners.{or_cases, or_left, or_right, and_left, and_right, and_both}
use Rattle.ap_symbol.specs.Case.{lower_lem}
use Rattle.ap_symbol.specs.Fitting.{fits_lem}
use Rattle.ap_symbol.specs.Lists.{IsIn}
use Rattle.ap_symbol.specs.Recasing.{change_letter}
use Rattle.ap_symbol.specs.declared.symbol.Symbol.{Symbol}
use Rattle.ap_exec.specs.declared.comparing.Way.{Way}
use Rattle.ap_exec.specs.Comparing.{same_symbols, same_words, is_begun_by, is_ended_by, holds_part, compared, compared_some}
use Rattle.ap_exec.specs.WordLaws.{read_as, EqualsIsEquality, BeginsIsAFront, EndsIsABack, ContainsIsWithin, SomeIsAnItem}

abbrev read_symbol : Bool → Symbol → Symbol
read_symbol false s = s
read_symbol true s = change_letter lower_lem s

exact : (s t : Symbol) → fits_lem true s t ≡ true → s ≡ t
exact s t h = elim ((fits_is true s t).0 h) [
  | inl e ↦ e
  | inr k ↦ absurd (false≢true (sym k.0))
]

exact_back : (s t : Symbol) → s ≡ t → fits_lem true s t ≡ true
exact_back s t e = ap (λ (x : Symbol). fits_lem true x t) e ∙ fits_itself true t

symbols_to : (c : Bool) (s t : Symbol) → same_symbols c s t ≡ true →
    read_symbol c s ≡ read_symbol c t
symbols_to false s t h = exact s t h
symbols_to true s t h = exact (change_letter lower_lem s) (change_letter lower_lem t) h

symbols_back : (c : Bool) (s t : Symbol) → read_symbol c s ≡ read_symbol c t →
    same_symbols c s t ≡ true
symbols_back false s t e = exact_back s t e
symbols_back true s t e = exact_back (change_letter lower_lem s) (change_letter lower_lem t) e

reads_none : (c : Bool) → read_as c [] ≡ []
reads_none false = refl
reads_none true = refl

reads_cons : (c : Bool) (s : Symbol) (word : List Symbol) → read_as c (s ∷ word) ≡ read_symbol c s
    ∷ read_as c word
reads_cons false s word = refl
reads_cons true s word = refl

reads_append : (c : Bool) (a b : List Symbol) → read_as c (a ++ b) ≡ read_as c a ++ read_as c b
reads_append c [] b = ap (λ (x : List Symbol). x ++ read_as c b) (sym (reads_none c))
reads_append c (s ∷ a) b =
    reads_cons c s (a ++ b) ∙ ap (λ (x : List Symbol). read_symbol c s ∷ x) (reads_append c a b)
    ∙ ap (λ (x : List Symbol). x ++ read_as c b) (sym (reads_cons c s a))

reads_length : (c : Bool) (word : List Symbol) → length (read_as c word) ≡ length word
reads_length c [] = ap length (reads_none c)
reads_length c (s ∷ word) = ap length (reads_cons c s word)
    ∙ ap (λ (n : ℕ). suc n) (reads_length c word)

heads : (x y : Symbol) (xs ys : List Symbol) → x ∷ xs ≡ y ∷ ys → (x ≡ y) × (xs ≡ ys)
heads x y xs ys e = (let h : x ≡ y = cc in h, let t : xs ≡ ys = cc in t)

cons_parts : (c : Bool) (s t : Symbol) (a b more : List Symbol) →
    read_as c (t ∷ b) ≡ read_as c (s ∷ a) ++ more → (read_symbol c s ≡ read_symbol c t)
    × (read_as c b ≡ read_as c a ++ more)
cons_parts c s t a b more e =
    let h = heads (read_symbol c t) (read_symbol c s) (read_as c b) (read_as c a ++ more)
    (sym (reads_cons c t b) ∙ e ∙ ap (λ (x : List Symbol). x ++ more) (reads_cons c s a)) in
    (sym h.0, h.1)

pub same_to : (c : Bool) (a b : List Symbol) → same_words c a b ≡ true → read_as c a ≡ read_as c b
same_to c [] [] h = refl
same_to c [] (t ∷ b) h = absurd (false≢true h)
same_to c (s ∷ a) [] h = absurd (false≢true h)
same_to c (s ∷ a) (t ∷ b) h =
    reads_cons c s a ∙ ap (λ (x : Symbol). x ∷ read_as c a) (symbols_to c s t (and_left _ _ h))
    ∙ ap (λ (x : List Symbol). read_symbol c t ∷ x) (same_to c a b (and_right _ _ h))
    ∙ sym (reads_cons c t b)

same_back : (c : Bool) (a b : List Symbol) → read_as c a ≡ read_as c b → same_words c a b ≡ true
same_back c [] [] e = refl
same_back c [] (t ∷ b) e =
    absurd (omega (arith, ap length e, reads_length c [], reads_length c (t ∷ b)))
same_back c (s ∷ a) [] e =
    absurd (omega (arith, ap length e, reads_length c (s ∷ a), reads_length c []))
same_back c (s ∷ a) (t ∷ b) e =
    let h = heads (read_symbol c s) (read_symbol c t) (read_as c a) (read_as c b)
    (sym (reads_cons c s a) ∙ e ∙ reads_cons c t b) in
    and_both _ _ (symbols_back c s t h.0) (same_back c a b h.1)

begun_to : (c : Bool) (part word : List Symbol) → is_begun_by c part word ≡ true →
    (after : List Symbol) × (read_as c word ≡ read_as c part ++ after)
begun_to c [] word h = (
  read_as c word,
  ap (λ (x : List Symbol). x ++ read_as c word) (sym (reads_none c)),
)
begun_to c (s ∷ part) [] h = absurd (false≢true h)
begun_to c (s ∷ part) (t ∷ word) h =
    let more = begun_to c part word (and_right _ _ h) in (
      more.0,
      reads_cons c t word ∙ ap (λ (x : Symbol). x ∷ read_as c word)
          (sym (symbols_to c s t (and_left _ _ h)))
          ∙ ap (λ (x : List Symbol). read_symbol c s ∷ x) more.1
          ∙ ap (λ (x : List Symbol). x ++ more.0) (sym (reads_cons c s part)),
    )

begun_back : (c : Bool) (part word after : List Symbol) → read_as c word ≡ read_as c part ++ after →
    is_begun_by c part word ≡ true
begun_back c [] word after e = refl
begun_back c (s ∷ part) [] after e =
    absurd (omega (
      arith,
      ap length e,
      length-append (read_as c (s ∷ part)) after,
      reads_length c (s ∷ part),
      reads_length c [],
    ))
begun_back c (s ∷ part) (t ∷ word) after e =
    let h = cons_parts c s t part word after e in
    and_both _ _ (symbols_back c s t h.0) (begun_back c part word after h.1)

-- a word in two
halves : (k : ℕ) (word : List Symbol) → take k word ++ drop k word ≡ word
halves zero word = refl
halves (suc k) [] = refl
halves (suc k) (s ∷ word) = ap (λ (x : List Symbol). s ∷ x) (halves k word)

reads_drop : (c : Bool) (k : ℕ) (word : List Symbol) →
    read_as c (drop k word) ≡ drop k (read_as c word)
reads_drop c zero word = refl
reads_drop c (suc k) [] = reads_none c ∙ sym (ap (drop (suc k)) (reads_none c))
reads_drop c (suc k) (s ∷ word) =
    reads_drop c k word ∙ sym (ap (drop (suc k)) (reads_cons c s word))

ended_to : (c : Bool) (part word : List Symbol) → is_ended_by c part word ≡ true →
    (before : List Symbol) × (read_as c word ≡ before ++ read_as c part)
ended_to c part word h =
    let k = length word - length part in (
      read_as c (take k word),
      ap (read_as c) (sym (halves k word))
          ∙ reads_append c (take k word) (drop k word)
          ∙ ap (λ (x : List Symbol). read_as c (take k word) ++ x)
          (sym (same_to c part (drop k word) (and_right _ _ h))),
    )

le_true : (m n : ℕ) → m ≤ n → nat_le m n ≡ true
le_true m n h = search rules

ended_back : (c : Bool) (part word before : List Symbol) → read_as c word ≡ before ++ read_as c part
    → is_ended_by c part word ≡ true
ended_back c part word before e =
    let whole : length word ≡ length before + length part =
    omega (
      arith,
      ap length e,
      length-append before (read_as c part),
      reads_length c word,
      reads_length c part,
    ) in
    let at : length word - length part ≡ length before = omega (arith, whole) in
    and_both _ _ (le_true (length part) (length word) (omega (arith, whole)))
    (same_back c part (drop (length word - length part) word)
    (sym (drop-append_seam before (read_as c part)) ∙ ap (drop (length before)) (sym e)
    ∙ sym (reads_drop c (length before) word)
    ∙ ap (λ (k : ℕ). read_as c (drop k word)) (sym at)))

held_to : (c : Bool) (part word : List Symbol) → holds_part c part word ≡ true →
    (before : List Symbol) × ((after : List Symbol)
    × (read_as c word ≡ before ++ (read_as c part ++ after)))
held_to c part [] h = let b = begun_to c part [] h in ([], (b.0, b.1))
held_to c part (s ∷ word) h = elim (or_cases _ _ h) [
  | inl e ↦ (let b = begun_to c part (s ∷ word) e in ([], (b.0, b.1)))
  | inr k ↦ (let b = held_to c part word k in (
    read_symbol c s ∷ b.0,
    (
      b.1.0,
      reads_cons c s word
          ∙ ap (λ (x : List Symbol). read_symbol c s ∷ x) b.1.1,
    ),
  ))
]

held_back : (c : Bool) (part word before after : List Symbol) →
    read_as c word ≡ before ++ (read_as c part ++ after) → holds_part c part word ≡ true
held_back c part [] [] after e = begun_back c part [] after e
held_back c part (s ∷ word) [] after e = or_left _ _ (begun_back c part (s ∷ word) after e)
held_back c part [] (x ∷ before) after e = absurd (omega (arith, ap length e, reads_length c []))
held_back c part (s ∷ word) (x ∷ before) after e =
    let h = heads (read_symbol c s) x (read_as c word) (before ++ (read_as c part ++ after))
    (sym (reads_cons c s word) ∙ e) in
    or_right _ _ (held_back c part word before after h.1)

some_to : (way : Way) (c : Bool) (word : List Symbol) (items : List (List Symbol)) →
    compared_some way c word items ≡ true →
    (item : List Symbol) × (IsIn item items × IsTrue (compared way c word item))
some_to way c word [] h = absurd (false≢true h)
some_to way c word (item ∷ items) h = elim (or_cases _ _ h) [
  | inl e ↦ (item, (inl refl, e))
  | inr k ↦ (let found = some_to way c word items k in (found.0, (inr found.1.0, found.1.1)))
]

some_back : (way : Way) (c : Bool) (word : List Symbol) (items : List (List Symbol))
    (item : List Symbol) → IsIn item items → compared way c word item ≡ true →
    compared_some way c word items ≡ true
some_back way c word [] item at h = absurd at
some_back way c word (first ∷ items) item (inl e) h =
    or_left _ _ (ap (compared way c word) (sym e) ∙ h)
some_back way c word (first ∷ items) item (inr at) h =
    or_right _ _ (some_back way c word items item at h)

pub equals_is_equality : EqualsIsEquality
equals_is_equality c a b = (same_to c a b, same_back c a b)

pub begins_is_a_front : BeginsIsAFront
begins_is_a_front c word part = (begun_to c part word, λ h. begun_back c part word h.0 h.1)

pub ends_is_a_back : EndsIsABack
ends_is_a_back c word part = (ended_to c part word, λ h. ended_back c part word h.0 h.1)

pub contains_is_within : ContainsIsWithin
contains_is_within c word part = (held_to c part word, λ h. held_back c part word h.0 h.1.0 h.1.1)

pub some_is_an_item : SomeIsAnItem
some_is_an_item way c word items =
    (some_to way c word items, λ h. some_back way c word items h.0 h.1.0 h.1.1)
