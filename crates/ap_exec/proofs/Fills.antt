-- Texts and slots that are written one after another.
use Rattle.std.proofs.Common.{◌≡◌, ◌≢◌, ℕ, ◌+◌, ◌<◌, true, List, [], ◌∷◌, ◌++◌, length, Result, Ok, Err, refl, ap, sym, ◌∙◌, arith, append_assoc, append-nil, length-append}
use Rattle.std.specs.List.{flat_map}
use Rattle.std.proofs.lemmas.Bool.Decides.{nat_tests}
use Rattle.ap_symbol.specs.declared.symbol.Symbol.{Symbol}
use Rattle.ap_stream.specs.Limits.{span_max}
use Rattle.ap_exec.specs.Filling.{Mark, text, gap, unit_marks, word_marks, left_over, filled, is_over, within_span}
use Rattle.ap_exec.specs.FillingParts.{Appends, goes_on, Stops, Writes}
use Rattle.ap_exec.specs.Results.{Fails, OutputTooLong}
use Rattle.ap_exec.specs.declared.filling.Filling.{Filling}
use Rattle.ap_exec.specs.declared.refusal.ExecRefusal.{ExecRefusal}
use Rattle.ap_exec.specs.declared.refusal.ExecRefusal.TheVariants as refusal

-- more bytes than an output may have are too many with those that follow
pub over_more : (out bytes rest : List ℕ) → span_max < length out + length bytes →
    is_over (out ++ (bytes ++ rest)) ≡ true
unfolding is_over
over_more out bytes rest h =
    let all : length (out ++ (bytes ++ rest)) ≡ length out + (length bytes + length rest) =
    length-append out (bytes ++ rest)
    ∙ ap (λ (n : ℕ). length out + n) (length-append bytes rest) in
    let more : span_max < length (out ++ (bytes ++ rest)) = omega (arith, all) in
    grind (arith, nat_tests)

pub within_over : (out : List ℕ) → span_max < length out → within_span out ≡ Err OutputTooLong
unfolding within_span is_over
within_over out h = grind (arith, nat_tests)

pub within_all : (out : List ℕ) → length out < span_max + 1 → within_span out ≡ Ok out
unfolding within_span is_over
within_all out h = grind (arith, nat_tests)

pub within_is_over : (out : List ℕ) → is_over out ≡ true → within_span out ≡ Err OutputTooLong
unfolding within_span
within_is_over out h = rw h refl

pub full_unit : (word : List Symbol) → word ≢ [] → unit_marks word ≡ word_marks word
full_unit [] h = absurd (h refl)
full_unit (s ∷ word) h = refl

abbrev pub Wrote : Filling → Filling → List Mark → Type 0
Wrote before after ms = (more : List Mark) → goes_on after more ≡ goes_on before (ms ++ more)

pub stops_more : (e : ExecRefusal) (f : Filling) (a b : List Mark) → Stops e f a →
    Stops e f (a ++ b)
stops_more refusal.Memory f a b h = tt
stops_more refusal.ValueTooLong f a b h = h
stops_more refusal.OutputTooLong f a b h =
    λ more. ap (λ (ms : List Mark). is_over (goes_on f ms)) (append_assoc a b more) ∙ h (b ++ more)

pub stops_then : (e : ExecRefusal) (f g : Filling) (a b : List Mark) → Wrote f g a → Stops e g b →
    Stops e f (a ++ b)
stops_then refusal.Memory f g a b w h = tt
stops_then refusal.ValueTooLong f g a b w h = h
stops_then refusal.OutputTooLong f g a b w h =
    λ more. ap is_over (ap (goes_on f) (append_assoc a b more) ∙ sym (w (b ++ more))) ∙ h more

pub writes_then : {Y : Type 0} (r : Result Y ExecRefusal) (f g k : Filling) (a b : List Mark) →
    Wrote f g a → Writes r g k b → Writes r f k (a ++ b)
writes_then (Ok y) f g k a b w h = λ more. h more ∙ w (b ++ more)
    ∙ ap (goes_on f) (sym (append_assoc a b more))
writes_then (Err e) f g k a b w h = stops_then e f g a b w h

-- a text that is appended, and a blank
pub text_written : {Y : Type 0} (r : Result Y ExecRefusal) (f : Filling) (after bytes : List ℕ) →
    Appends r f.out after bytes → Writes r f (record f { out = after }) (text bytes ∷ [])
text_written (Ok y) f after bytes h = λ more. ap (λ (o : List ℕ). o ++ filled more f.blanks.now) h
    ∙ append_assoc f.out bytes (filled more f.blanks.now)
text_written (Err refusal.Memory) f after bytes h = tt
text_written (Err refusal.ValueTooLong) f after bytes h = h
text_written (Err refusal.OutputTooLong) f after bytes h = λ more. h (filled more f.blanks.now)

module _ (f : Filling) (blank : List ℕ) (rest : List (List ℕ)) (first : f.blanks.now ≡ blank
    ∷ rest) where
  at_gap : (more : List Mark) → goes_on f (gap ∷ more) ≡ f.out ++ (blank ++ filled more rest)
  at_gap more = ap (λ (bs : List (List ℕ)). f.out ++ filled (gap ∷ more) bs) first

  pub blank_stops : (e : ExecRefusal) (after : List ℕ) →
      Appends {Y = Unit {0}} (Err e) f.out after blank → Stops e f (gap ∷ [])
  blank_stops refusal.Memory after h = tt
  blank_stops refusal.ValueTooLong after h = h
  blank_stops refusal.OutputTooLong after h = λ more. ap is_over (at_gap more) ∙ h (filled more
      rest)

  pub blank_written : (after : List ℕ) → after ≡ f.out ++ blank → (more : List Mark) →
      after ++ filled more rest ≡ goes_on f (gap ∷ more)
  blank_written after h more = ap (λ (o : List ℕ). o ++ filled more rest) h
      ∙ append_assoc f.out blank (filled more rest) ∙ sym (at_gap more)

-- the whole text
pub fill_stops : (e : ExecRefusal) (f : Filling) (ms : List Mark) → f.out ≡ [] → Stops e f ms →
    Fails e (within_span (filled ms f.blanks.now))
fill_stops refusal.Memory f ms none h = tt
fill_stops refusal.ValueTooLong f ms none h = absurd h
fill_stops refusal.OutputTooLong f ms none h =
    within_is_over (filled ms f.blanks.now)
    (ap is_over (sym (ap (λ (o : List ℕ). o ++ filled (ms ++ []) f.blanks.now) none
    ∙ ap (λ (zs : List Mark). filled zs f.blanks.now) (append-nil ms))) ∙ h [])

pub fill_ends : (f g : Filling) (ms : List Mark) (out : List ℕ) → f.out ≡ [] → Wrote f g ms →
    out ≡ g.out ++ flat_map left_over g.blanks.now → out ≡ filled ms f.blanks.now
fill_ends f g ms out none w e =
    e ∙ w [] ∙ ap (λ (o : List ℕ). o ++ filled (ms ++ []) f.blanks.now) none
    ∙ ap (λ (zs : List Mark). filled zs f.blanks.now) (append-nil ms)
