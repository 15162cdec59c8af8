-- What the table says of a character is so.
use Rattle.std.specs.Prelude.{◌≡◌, ℕ, ◌+◌, ◌<◌, ◌≤◌, List, [], ◌∷◌, ◌++◌, length, Bool, true, false, eqb, ltb, not, ◌||◌, refl}
use Rattle.std.proofs.Common.{arith, ap, sym, subst, ◌∙◌, length-append, get_or, inl, inr}
use Rattle.std.proofs.lemmas.Bool.{eqb-true, and_parts, cases_lt, ne_eqb, not-true}
use Rattle.std.proofs.lemmas.Bool.Decides.{nat_tests}
use Rattle.ap_stream.specs.declared.dialect.Dialect.{Dialect}
use Rattle.ap_stream.specs.declared.fault.MalformedKind.TheVariants.{NotUtf8}
use Rattle.ap_stream.specs.declared.examine.Mode.{Mode}
use Rattle.ap_stream.specs.declared.examine.Mode.TheVariants as mode
use Rattle.ap_stream.specs.declared.examine.Spot.{Spot}
use Rattle.ap_stream.specs.declared.level.Level.TheVariants as level
use Rattle.ap_stream.specs.declared.level.Effect.{Effect}
use Rattle.ap_stream.specs.Chars.{Part, NotChar, Char, char_at}
use Rattle.ap_stream.specs.Blanks.{is_white, begins_blank}
use Rattle.ap_stream.specs.Dialects.{has_units, is_refused}
use Rattle.ap_stream.specs.Reading.{Faulty, Bad, begins_unit}
use Rattle.ap_stream.specs.Units.{begins_tag}
use Rattle.ap_stream.specs.Effects.{spot, surface_at, effect as table}
use Rattle.ap_stream.specs.Stands.{InUnit, InBlank, Within, blank_first, Always, at_blank, StandsIn, StoodIn, Tells}
use Rattle.ap_stream.proofs.StandLaws.{escape_first, tag_first, unit_first}
use Rattle.ap_stream.proofs.Fronts.{IsLow, same_test, low_blank, low_escape, low_unit}
use Rattle.ap_stream.proofs.InUnitLaws.{unit_begins}
use Rattle.ap_stream.proofs.StandLaws as stands
use Rattle.ap_stream.proofs.ByteLaws as step
use Rattle.ap_stream.proofs.ByteLaws.{nothing_part}
use Rattle.ap_stream.proofs.WordSteps as words
use Rattle.ap_stream.proofs.WordSteps.{by_cond, ascii_is}

-- a character that only its own byte begins with
low_char : (test : ℕ → Bool) → IsLow test → (c : ℕ) → test c ≡ true → c < 128
low_char test low c t = elim (cases_lt c 128) [
  | inl small ↦ small
  | inr high ↦ absurd (let e : test c ≡ false = low c high in cc)
]

neither : (a b : Bool) → a ≡ false → b ≡ false → (a || b) ≡ false
neither a b h k = rw (h, k) refl

low_tag : (surface : Bool) → IsLow (begins_tag surface)
low_tag surface b high = let e : eqb b 60 ≡ false = low_escape_like b high in rw e refl
  where
    low_escape_like : (b : ℕ) → 128 ≤ b → eqb b 60 ≡ false
    low_escape_like b high = ne_eqb b 60 (λ e. omega (arith, e, high))

module _ (part : List ℕ) (c : ℕ) (k : char_at part ≡ Char c (length part)) where
  first_test : (test : ℕ → Bool) → IsLow test → (of : List ℕ → Bool) → of [] ≡ false →
      ((b : ℕ) (bs : List ℕ) → of (b ∷ bs) ≡ test b) → test c ≡ false → of part ≡ false
  first_test test low of none some t = by part (length part) k
    where
      by : (p : List ℕ) (n : ℕ) → char_at p ≡ Char c n → of p ≡ false
      by [] n h = none
      by (b ∷ bs) n h = some b bs ∙ same_test test low b bs c n h ∙ t

  no_blank : is_white c ≡ false → eqb c 91 ≡ false → blank_first part ≡ false
  no_blank w e = first_test begins_blank low_blank blank_first refl (λ b bs. refl)
      (neither (is_white c) (eqb c 91) w e)

  no_escape : eqb c 92 ≡ false → escape_first part ≡ false
  no_escape e = first_test (λ b. eqb b 92) low_escape escape_first refl (λ b bs. refl) e

  no_unit : (dialect : Dialect) → begins_unit dialect c ≡ false → unit_first dialect part ≡ false
  no_unit dialect e = first_test (begins_unit dialect) (low_unit dialect) (unit_first dialect) refl
      (λ b bs. refl) e

  no_tag : (surface : Bool) → begins_tag surface c ≡ false → tag_first surface part ≡ false
  no_tag surface e = first_test (begins_tag surface) (low_tag surface) (tag_first surface) refl
      (λ b bs. refl) e

  is_one : (d : ℕ) → d < 128 → eqb c d ≡ true → part ≡ d ∷ []
  is_one d small e = let is : c ≡ d = eqb-true c d e in
      ascii_is part c k (omega (arith, is, small)) ∙ ap (λ z. z ∷ []) is

  white_one : is_white c ≡ true → part ≡ c ∷ []
  white_one w = ascii_is part c k (low_char begins_blank low_blank c (rw w refl))

  module _ (some : 0 < length part) where
    start_told : (dialect : Dialect) →
        Tells dialect (level.Item mode.Start) [] part (table dialect mode.Start 0 c)
    start_told dialect =
        by_cond P (is_white c) _ _
        (λ w. (refl, subst InBlank (sym (white_one w)) (stands.begin_white c w)))
        (λ w. by_cond P (eqb c 91) _ _
        (λ e. subst (λ (q : List ℕ). Within false q []) (sym (is_one 91 (omega arith) e))
        stands.begin_bracket)
        (λ a. by_cond P (eqb c 92) _ _
        (λ e. (is_one 92 (omega arith) e, nothing_part))
        (λ b. by_cond P (begins_unit dialect c) _ _
        (λ e. let both = and_parts (has_units dialect) (eqb c 94) e in (
          subst (InUnit dialect (spot true true)) (sym (is_one 94 (omega arith) both.1))
              (unit_begins dialect both.0),
          nothing_part,
        ))
        (λ u. by_cond P (is_refused dialect c) _ _
        (λ r. (
          stands.letter_stray dialect part some (no_blank w a) (no_escape b) (no_unit dialect u) c k
              r,
          λ e. cc,
        ))
        (λ r. stands.letter_whole dialect part some (no_blank w a) (no_escape b)
        (no_unit dialect u) c k r)))))
      where
        P : Effect → Type 0
        P s = Tells dialect (level.Item mode.Start) [] part s

    word_told : (dialect : Dialect) (at : Spot) (done : List ℕ) (end : ℕ) → InUnit dialect at done →
        length (done ++ part) ≡ end →
        Tells dialect (level.Item (mode.Word at)) done part (table dialect (mode.Word at) end c)
    word_told dialect at done end h ends =
        by_cond P (eqb c 92) _ _
        (λ e. (words.word_escape dialect at done part h (is_one 92 (omega arith) e), nothing_part))
        (λ b. by_cond P (begins_tag (surface_at dialect at) c) _ _
        (λ e. let both = and_parts (eqb c 60) (not (surface_at dialect at)) e in (
          words.word_tag dialect at done part h (is_one 60 (omega arith) both.0)
              (not-true (surface_at dialect at) both.1),
          nothing_part,
        ))
        (λ t. words.word_char dialect at done part h some (no_escape b)
        (no_tag (surface_at dialect at) t) c end k ends))
      where
        P : Effect → Type 0
        P s = Tells dialect (level.Item (mode.Word at)) done part s

  inside_told : (dialect : Dialect) (done old : List ℕ) → Within false done old →
      Tells dialect (level.Item mode.Inside) done part (table dialect mode.Inside 0 c)
  inside_told dialect done old h =
      by_cond P (eqb c 93) _ _ (λ e. (refl, stands.close_on done part old c h k e))
      (λ n. by_cond P (eqb c 92) _ _ (λ e. stands.escape_on done part old c h k n e)
      (λ m. stands.within_on done part old c h k n m))
    where
      P : Effect → Type 0
      P s = Tells dialect (level.Item mode.Inside) done part s

-- a character that is whole
effect_told : (dialect : Dialect) (at : Mode) (done part : List ℕ) (end c : ℕ) →
    at_blank (level.Item at) ≡ false → StoodIn dialect (level.Item at) done part →
    end ≡ length done + length part → char_at part ≡ Char c (length part) →
    Tells dialect (level.Item at) done part (table dialect at end c)
effect_told dialect mode.Start done part end c b h e k =
    subst (λ (q : List ℕ). Tells dialect (level.Item mode.Start) q part
    (table dialect mode.Start 0 c)) (sym h.stands.0)
    (start_told part c k (step.some_part _ _ _ h.part_is) dialect)
effect_told dialect mode.Escape done part end c b h e k =
    λ x. rw (h.stands.0, length-append) (stands.escaped_whole dialect part c k x)
effect_told dialect mode.Blank done part end c b h e k = absurd (cc)
effect_told dialect mode.Inside done part end c b h e k =
    inside_told part c k dialect done h.old h.stands
effect_told dialect mode.InsideEscape done part end c b h e k =
    stands.escaped_on done part h.old c h.stands k
effect_told dialect (mode.Word at) done part end c b h e k =
    word_told part c k (step.some_part _ _ _ h.part_is) dialect at done end h.stands.0
    (length-append done part ∙ sym e)
effect_told dialect (mode.WordEscape at) done part end c b h e k =
    (words.escape_char dialect at done part h.stands.0 c k, nothing_part)
effect_told dialect (mode.Tag at some) done part end c b h e k =
    words.tag_char dialect at some done part h.stands.0 c k (step.some_part _ _ _ h.part_is)

before : (dialect : Dialect) (at : Mode) (done old : List ℕ) → at_blank (level.Item at) ≡ false →
    StandsIn dialect (level.Item at) done old → char_at old ≡ Part
before dialect mode.Start done old b h = h.1
before dialect mode.Escape done old b h = h.1
before dialect mode.Blank done old b h = absurd (cc)
before dialect mode.Inside done old b h = h.part_is
before dialect mode.InsideEscape done old b h = h.part_is
before dialect (mode.Word at) done old b h = h.1
before dialect (mode.WordEscape at) done old b h = h.1
before dialect (mode.Tag at some) done old b h = h.1

-- as it is decoded
pub char_told : (dialect : Dialect) (at : Mode) (done part : List ℕ) (end c n : ℕ) →
    at_blank (level.Item at) ≡ false → StoodIn dialect (level.Item at) done part →
    end ≡ length done + length part → Char c n ≡ char_at part →
    Tells dialect (level.Item at) done part (table dialect at end c)
char_told dialect at done part end c n b h e k =
    effect_told dialect at done part end c b h e
    (step.whole_char h.old part h.byte c n h.part_is (before dialect at done h.old b h.stands) k)

-- behind a blank it is a byte
pub blank_told : (dialect : Dialect) (at : Mode) (done part : List ℕ) (end : ℕ) →
    at_blank (level.Item at) ≡ true → StoodIn dialect (level.Item at) done part →
    Tells dialect (level.Item at) done part (table dialect at end (get_or part 0 0))
blank_told dialect mode.Start done part end b h = absurd (cc)
blank_told dialect mode.Escape done part end b h = absurd (cc)
blank_told dialect mode.Inside done part end b h = absurd (cc)
blank_told dialect mode.InsideEscape done part end b h = absurd (cc)
blank_told dialect (mode.Word at) done part end b h = absurd (cc)
blank_told dialect (mode.WordEscape at) done part end b h = absurd (cc)
blank_told dialect (mode.Tag at some) done part end b h = absurd (cc)
blank_told dialect mode.Blank done part end b h =
    by_cond (Tells dialect (level.Item mode.Blank) done part) (is_white (get_or part 0 0)) _ _
    (λ w. (refl, step.goes_white done part one h.stands.1 w))
    (λ w. by_cond (Tells dialect (level.Item mode.Blank) done part) (eqb (get_or part 0 0) 91) _ _
    (λ e. step.goes_bracket done part one h.stands.1 e)
    (λ e. (
      step.some_blank done h.stands.1,
      one,
      step.goes_end dialect done part one h.stands.1 w e,
    )))
  where
    one : part ≡ get_or part 0 0 ∷ []
    one = step.one_byte h.old part h.byte h.part_is h.stands.0

no_begin : (p : List ℕ) → char_at p ≡ Part → blank_first p ≡ false
unfolding char_at
no_begin [] k = refl
no_begin (a ∷ p) k = elim (cases_lt a 128) [
  | inl small ↦ absurd (let t : ltb a 128 ≡ true = grind (arith, nat_tests) in
      let e : Char a 1 ≡ Part = rw t at k in cc)
  | inr high ↦ low_blank a high
]

-- more of a character is needed
pub part_told : (dialect : Dialect) (at : Mode) (done part : List ℕ) → at_blank (level.Item at) ≡ false →
    StoodIn dialect (level.Item at) done part → char_at part ≡ Part →
    StandsIn dialect (level.Item at) done part
part_told dialect mode.Start done part b h k = (h.stands.0, k, no_begin part k)
part_told dialect mode.Escape done part b h k = (h.stands.0, k)
part_told dialect mode.Blank done part b h k = absurd (cc)
part_told dialect mode.Inside done part b h k =
    record { begins = h.stands.begins; part_is = k; on = h.stands.on }
part_told dialect mode.InsideEscape done part b h k =
    record { begins = h.stands.begins; part_is = k; on = h.stands.on }
part_told dialect (mode.Word at) done part b h k = (h.stands.0, k)
part_told dialect (mode.WordEscape at) done part b h k = (h.stands.0, k)
part_told dialect (mode.Tag at some) done part b h k = (h.stands.0, k)

first_bad : (test : ℕ → Bool) → IsLow test → (p : List ℕ) → char_at p ≡ NotChar →
    (of : List ℕ → Bool) → of [] ≡ false → ((b : ℕ) (bs : List ℕ) → of (b ∷ bs) ≡ test b) →
    of p ≡ false
unfolding char_at
first_bad test low [] k of none some = none
first_bad test low (a ∷ p) k of none some = elim (cases_lt a 128) [
  | inl small ↦ absurd (let t : ltb a 128 ≡ true = grind (arith, nat_tests) in
      let e : Char a 1 ≡ NotChar = rw t at k in cc)
  | inr high ↦ some a p ∙ low a high
]

-- no character
pub bad_told : (dialect : Dialect) (at : Mode) (done part : List ℕ) → at_blank (level.Item at) ≡ false →
    StoodIn dialect (level.Item at) done part → char_at part ≡ NotChar →
    Always dialect (done ++ part) (Faulty (Bad NotUtf8))
bad_told dialect mode.Start done part b h k =
    λ x. rw h.stands.0
    (stands.letter_bad dialect part (step.some_part _ _ _ h.part_is)
    (first_bad begins_blank low_blank part k blank_first refl (λ b bs. refl))
    (first_bad (λ b. eqb b 92) low_escape part k escape_first refl (λ b bs. refl))
    (first_bad (begins_unit dialect) (low_unit dialect) part k (unit_first dialect) refl
    (λ b bs. refl)) k x)
bad_told dialect mode.Escape done part b h k =
    λ x. rw h.stands.0 (stands.escaped_bad dialect part k x)
bad_told dialect mode.Blank done part b h k = absurd (cc)
bad_told dialect mode.Inside done part b h k =
    stands.within_bad dialect false done h.old part h.stands k
bad_told dialect mode.InsideEscape done part b h k =
    stands.within_bad dialect true done h.old part h.stands k
bad_told dialect (mode.Word at) done part b h k =
    words.word_bad dialect at done part h.stands.0 (step.some_part _ _ _ h.part_is)
    (first_bad (λ b. eqb b 92) low_escape part k escape_first refl (λ b bs. refl))
    (first_bad (begins_tag (surface_at dialect at)) (low_tag (surface_at dialect at)) part k
    (tag_first (surface_at dialect at)) refl (λ b bs. refl)) k
bad_told dialect (mode.WordEscape at) done part b h k =
    words.escape_bad dialect at done part h.stands.0 k
bad_told dialect (mode.Tag at some) done part b h k =
    words.tag_bad dialect at some done part h.stands.0 k
