-- A turn of the work, as its state is seen.
use Rattle.std.specs.Prelude.{◌≡◌, ℕ, ◌+◌, ◌<◌, ◌≤◌, true, List, [], ◌∷◌, ◌++◌, drop, length, Option, Some, None, IfSome, Result, Ok, Err, OnOk}
use Rattle.std.specs.List.{AllByRecursion}
use Rattle.std.proofs.Common.{arith, refl, ap, sym, ◌∙◌, subst}
use Rattle.std.proofs.lemmas.List.{append-nil}
use Rattle.ap_stream.specs.Limits.{span_max, stage_max}
use Rattle.ap_stream.specs.Reading.{IsRead}
use Rattle.ap_stream.specs.Steps.{bytes_of}
use Rattle.ap_stream.specs.Told.{silent, behind, ends_in}
use Rattle.ap_stream.specs.declared.fault.LimitKind.{LimitKind}
use Rattle.ap_stream.specs.declared.fault.LimitKind.TheVariants.{SpanTooLong}
use Rattle.ap_stream.specs.declared.fault.StreamFault.TheVariants.{Limit}
use Rattle.ap_stream.specs.declared.item.Read.{Read}
use Rattle.ap_stream.proofs.StepLaws.{fewer_left, fewer_bytes, bytes_append}
use Rattle.ap_rules.specs.declared.rules.Rules.{Rules}
use Rattle.ap_chunk.specs.Carrying.{Held}
use Rattle.ap_chunk.specs.Stages.{span, chunk_step, chunked, dialect_of}
use Rattle.ap_chunk.specs.Working.{Working, chunk_work, IsFirstStep, IsFirstPlace}
use Rattle.ap_chunk.specs.declared.writing.Written.{Written}
use Rattle.ap_chunk.specs.declared.writing.Written.TheVariants as code
use Rattle.ap_chunk.proofs.Carried.{carried_none, turn_gives, turn_stops}
use Rattle.ap_chunk.proofs.ChunkSteps.{Uses, step_uses, step_overlong}

pub step_is : (h : Working) (vars : Held) (step : Option Written) (made is : Written) →
    step ≡ Some made → made ≡ is → IfSome step (IsFirstStep h vars) → IsFirstStep h vars is
step_is h vars None made is some e first = absurd (cc)
step_is h vars (Some other) made is some e first = let same : other ≡ is = cc in
    subst (λ (m : Written). IsFirstStep h vars m) same first

pub over_silent : (rules : Rules) (vars : Held) (items : List Read) → length items ≡ 0 →
    chunked rules vars (items ++ []) ≡ silent
over_silent rules vars [] e = carried_none (chunk_step rules) vars
over_silent rules vars (read ∷ reads) e = absurd (omega arith)

module _ (h : Working) (vars : Held) (some : 0 < length h.items) where
  pub turned_limit : (kind : LimitKind) (place : ℕ) → IsFirstPlace h.items place →
      IsFirstStep h vars (code.Stops kind) → (xs : List Read) → (h.finished ≡ true → xs ≡ []) →
      chunk_work h xs ≡ ends_in [] (Limit kind place)
  turned_limit kind place f first xs last =
      turn_stops (chunk_step h.rules) h.vars h.items xs kind f.first f.first some f.is
      (first xs last) ∙ ap (λ (n : ℕ). ends_in [] (Limit kind n)) (sym f.place_is)

  pub turned_overlong : (place : ℕ) → IsFirstPlace h.items place →
      ((xs : List Read) → length h.items ≤ span h.rules (h.items ++ xs)) →
      span_max < bytes_of h.items → (xs : List Read) →
      chunk_work h xs ≡ ends_in [] (Limit SpanTooLong place)
  turned_overlong place f all long xs =
      turn_stops (chunk_step h.rules) h.vars h.items xs SpanTooLong f.first f.first some f.is
      (step_overlong h.rules h.vars h.items xs (all xs) long)
      ∙ ap (λ (n : ℕ). ends_in [] (Limit SpanTooLong n)) (sym f.place_is)

  module _ (count : ℕ) (text : List ℕ)
      (all : AllByRecursion (IsRead (dialect_of h.rules.form)) h.items)
      (first : IsFirstStep h vars (code.Gives count text)) where
    used : Uses h.items count text
    used = step_uses h.rules h.vars vars h.items count text some
        (ap (chunk_step h.rules h.vars) (sym (append-nil h.items)) ∙ first [] (λ _. refl))

    pub turned_within : count ≤ length h.items
    turned_within = used.within

    pub turned_wrote : (after : Working) (into new : List ℕ) → after.items ≡ drop count h.items →
        after.rules ≡ h.rules → after.vars ≡ vars → after.finished ≡ h.finished → new ≡ into ++ text
        → (given : List ℕ) × (new ≡ into ++ given) × (length given ≤ stage_max) ×
        (length after.items < length h.items) × (bytes_of after.items < bytes_of h.items) ×
        (dialect_of after.rules.form ≡ dialect_of h.rules.form) × (after.finished ≡ h.finished)
        × ((xs : List Read) → (h.finished ≡ true → xs ≡ []) → behind given (chunk_work after xs)
        ≡ chunk_work h xs)
    turned_wrote after into new i r v f e =
        let fewer = fewer_left h.items count used.some used.within in
        let bytes =
        fewer_bytes (dialect_of h.rules.form) h.items count all used.some used.within in (
          text,
          e,
          used.short,
          rw i fewer,
          rw i bytes,
          ap (λ (r : Rules). dialect_of r.form) r,
          f,
          λ
              xs last. rw (i, r, v)
              (turn_gives (chunk_step h.rules) h.vars vars h.items xs count text some used.some
              used.within (first xs last)),
        )

-- An item more, or none for want of memory.

pub bytes_on : {T E : Type 0} (r : Result T E) (items now new : List Read) (read : Read) →
    items ≡ now → OnOk r (new ≡ items ++ read ∷ []) →
    OnOk r (bytes_of new ≡ bytes_of now + read.size)
bytes_on (Ok x) items now new read e ok =
    let a = bytes_append items (read ∷ []) in
    let b : bytes_of (items ++ read ∷ []) ≡ bytes_of items + read.size = omega (arith, a) in
    ap bytes_of ok ∙ b ∙ ap (λ (z : List Read). bytes_of z + read.size) e
bytes_on (Err x) items now new read e ok = ok
