-- Where in an item the bytes so far end: what is true of them, however they go on.
use Rattle.std.specs.Prelude.{◌≡◌, ℕ, ◌+◌, ◌<◌, List, [], ◌∷◌, ◌++◌, length, Bool, true, false, cond, eqb, refl}
use Rattle.std.proofs.Common.{arith, ap, ◌∙◌, append_assoc, length-append}
use Rattle.std.proofs.Math.Seq.{take-append_seam}
use Rattle.ap_stream.specs.declared.fault.MalformedKind.TheVariants.{NotUtf8, Stray}
use Rattle.ap_stream.specs.declared.dialect.Dialect.{Dialect}
use Rattle.ap_stream.specs.declared.item.Item.TheVariants as item
use Rattle.ap_stream.specs.Dialects.{is_refused}
use Rattle.ap_stream.specs.Chars.{NotChar, Char, char_at}
use Rattle.ap_stream.proofs.CharLaws.{char_stays}
use Rattle.ap_stream.specs.Blanks.{BadChar, Done, blank, is_white, further, inside, closes, escapes}
use Rattle.ap_stream.proofs.BlankLaws.{further_further, inside_char, inside_bad, blank_white, blank_bracket, blank_done}
use Rattle.ap_stream.specs.Reading.{Whole, Faulty, Bad, first, begins_unit, of_run, of_char, plain}
use Rattle.ap_stream.specs.Stands.{blank_first, InBlank, Within, Always}
use Rattle.ap_stream.specs.Units.{begins_tag}

-- what the first byte is

abbrev pub escape_first : List ℕ → Bool
escape_first [] = false
escape_first (b ∷ bs) = eqb b 92

abbrev pub unit_first : Dialect → List ℕ → Bool
unit_first dialect [] = false
unit_first dialect (b ∷ bs) = begins_unit dialect b

abbrev pub tag_first : Bool → List ℕ → Bool
tag_first surface [] = false
tag_first surface (b ∷ bs) = begins_tag surface b

first_blank : (dialect : Dialect) (held x : List ℕ) → blank_first held ≡ true →
    first dialect (held ++ x) ≡ of_run (held ++ x) (blank 0 (held ++ x))
unfolding first
first_blank dialect [] x h = absurd (cc)
first_blank dialect (b ∷ bs) x h = rw h refl

first_char : (dialect : Dialect) (held x : List ℕ) → 0 < length held → blank_first held ≡ false →
    escape_first held ≡ false → unit_first dialect held ≡ false → first dialect (held ++ x)
    ≡ of_char dialect (char_at (held ++ x))
unfolding first
first_char dialect [] x some h k u = absurd (omega arith)
first_char dialect (b ∷ bs) x some h k u = rw (h, k, u) refl

begins_on : (done p : List ℕ) → blank_first done ≡ true → blank_first (done ++ p) ≡ true
begins_on [] p h = absurd (cc)
begins_on (a ∷ done) p h = h

-- a blank begins
pub begin_white : (b : ℕ) → is_white b ≡ true → InBlank (b ∷ [])
begin_white b h = record { begins = rw h refl; on = λ x. blank_white b x h }

pub begin_bracket : Within false (91 ∷ []) []
unfolding char_at
begin_bracket = record { begins = refl; part_is = refl; on = λ x. blank_bracket x }

-- white space in a blank
pub blank_on : (held : List ℕ) (b : ℕ) → InBlank held → is_white b ≡ true → InBlank (held ++ b ∷ [])
blank_on [] b h w = absurd (let e = h.begins in cc)
blank_on (a ∷ held) b h w = record {
  begins = h.begins;
  on = λ x. rw (append_assoc, length-append)
      (h.on (b ∷ x) ∙ ap (further (length (a ∷ held))) (blank_white b x w)
      ∙ further_further (length (a ∷ held)) 1 (blank 0 x));
}

-- a superblank in a blank
pub bracket_on : (held : List ℕ) → InBlank held → Within false (held ++ 91 ∷ []) []
unfolding char_at
bracket_on [] h = absurd (let e = h.begins in cc)
bracket_on (a ∷ held) h = record {
  begins = h.begins;
  part_is = refl;
  on = λ x. rw (append_assoc, length-append)
      (h.on (91 ∷ x) ∙ ap (further (length (a ∷ held))) (blank_bracket x)
      ∙ further_further (length (a ∷ held)) 1 (inside false x));
}

-- another byte ends a blank
pub blank_ends : (dialect : Dialect) (held : List ℕ) (b : ℕ) → InBlank held → is_white b ≡ false →
    eqb b 91 ≡ false → Always dialect (held ++ b ∷ []) (Whole (item.Blank held) (length held))
blank_ends dialect held b h w k x =
    let run : blank 0 (held ++ (b ∷ x)) ≡ Done (length held) =
    h.on (b ∷ x) ∙ ap (further (length held)) (blank_done b x w k) ∙ ap Done (omega arith) in
    rw append_assoc (first_blank dialect held (b ∷ x) h.begins
    ∙ rw (run, take-append_seam held (b ∷ x)) refl)

-- a character within a superblank
pub within_char : (e : Bool) (done p : List ℕ) (c : ℕ) → (part : List ℕ) → (h : Within e done part)
    → char_at p ≡ Char c (length p) → (x : List ℕ) →
    blank 0 ((done ++ p) ++ x)
    ≡ cond (closes e c) (further (length (done ++ p)) (blank 0 x))
    (further (length (done ++ p)) (inside (escapes e c) x))
within_char e done p c part h k x =
    rw (append_assoc, length-append)
    (h.on (p ++ x) ∙ ap (further (length done)) (inside_char e p x c k) ∙ both (closes e c))
  where
    both : (b : Bool) → further (length done)
        (cond b (further (length p) (blank 0 x)) (further (length p) (inside (escapes e c) x)))
        ≡ cond b (further (length done + length p) (blank 0 x))
        (further (length done + length p) (inside (escapes e c) x))
    both true = further_further (length done) (length p) (blank 0 x)
    both false = further_further (length done) (length p) (inside (escapes e c) x)

-- what a character within a superblank leads to
pub close_on : (done p part : List ℕ) (c : ℕ) → Within false done part →
    char_at p ≡ Char c (length p) → eqb c 93 ≡ true → InBlank (done ++ p)
close_on [] p part c h k is = absurd (let e = h.begins in cc)
close_on (a ∷ done) p part c h k is = record {
  begins = h.begins;
  on = λ x. within_char false (a ∷ done) p c part h k x ∙ rw is refl;
}

pub escape_on : (done p part : List ℕ) (c : ℕ) → Within false done part →
    char_at p ≡ Char c (length p) → eqb c 93 ≡ false → eqb c 92 ≡ true → Within true (done ++ p) []
unfolding char_at
escape_on [] p part c h k non is = absurd (let e = h.begins in cc)
escape_on (a ∷ done) p part c h k non is = record {
  begins = h.begins;
  part_is = refl;
  on = λ x. within_char false (a ∷ done) p c part h k x ∙ rw (non, is) refl;
}

pub within_on : (done p part : List ℕ) (c : ℕ) → Within false done part →
    char_at p ≡ Char c (length p) → eqb c 93 ≡ false → eqb c 92 ≡ false →
    Within false (done ++ p) []
unfolding char_at
within_on [] p part c h k non is = absurd (let e = h.begins in cc)
within_on (a ∷ done) p part c h k non is = record {
  begins = h.begins;
  part_is = refl;
  on = λ x. within_char false (a ∷ done) p c part h k x ∙ rw (non, is) refl;
}

pub escaped_on : (done p part : List ℕ) (c : ℕ) → Within true done part →
    char_at p ≡ Char c (length p) → Within false (done ++ p) []
unfolding char_at
escaped_on [] p part c h k = absurd (let e = h.begins in cc)
escaped_on (a ∷ done) p part c h k = record {
  begins = h.begins;
  part_is = refl;
  on = λ x. within_char true (a ∷ done) p c part h k x;
}

-- a bad character within a superblank
pub within_bad : (dialect : Dialect) (e : Bool) (done part p : List ℕ) → Within e done part →
    char_at p ≡ NotChar → Always dialect (done ++ p) (Faulty (Bad NotUtf8))
within_bad dialect e done part p h k x =
    let run : blank 0 ((done ++ p) ++ x) ≡ BadChar =
    rw append_assoc (h.on (p ++ x) ∙ ap (further (length done)) (inside_bad e p x k)) in
    first_blank dialect (done ++ p) x (begins_on done p h.begins) ∙ rw run refl

-- plain characters
module _ (dialect : Dialect) (p : List ℕ) (some : 0 < length p) (bare : blank_first p ≡ false)
    (unescaped : escape_first p ≡ false) (alone : unit_first dialect p ≡ false) where
  pub letter_bad : char_at p ≡ NotChar → Always dialect p (Faulty (Bad NotUtf8))
  letter_bad k x =
      let there : char_at (p ++ x) ≡ NotChar = rw k at (char_stays p x) in
      first_char dialect p x some bare unescaped alone ∙ rw there refl

  pub letter_whole : (c : ℕ) → char_at p ≡ Char c (length p) → is_refused dialect c ≡ false →
      Always dialect p (Whole (plain c false) (length p))
  letter_whole c k fine x =
      let there : char_at (p ++ x) ≡ Char c (length p) = rw k at (char_stays p x) in
      first_char dialect p x some bare unescaped alone ∙ rw (there, fine) refl

  pub letter_stray : (c : ℕ) → char_at p ≡ Char c (length p) → is_refused dialect c ≡ true →
      Always dialect p (Faulty (Bad Stray))
  letter_stray c k fine x =
      let there : char_at (p ++ x) ≡ Char c (length p) = rw k at (char_stays p x) in
      first_char dialect p x some bare unescaped alone ∙ rw (there, fine) refl

pub escaped_whole : (dialect : Dialect) (p : List ℕ) (c : ℕ) → char_at p ≡ Char c (length p) →
    Always dialect (92 ∷ p) (Whole (plain c true) (1 + length p))
unfolding first char_at
escaped_whole dialect p c k x =
    let there : char_at (p ++ x) ≡ Char c (length p) = rw k at (char_stays p x) in rw there refl

pub escaped_bad : (dialect : Dialect) (p : List ℕ) → char_at p ≡ NotChar →
    Always dialect (92 ∷ p) (Faulty (Bad NotUtf8))
unfolding first char_at
escaped_bad dialect p k x =
    let there : char_at (p ++ x) ≡ NotChar = rw k at (char_stays p x) in rw there refl
