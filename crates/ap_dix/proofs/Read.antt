-- What a text says, from what its tree says.
use Rattle.std.proofs.Common.{◌≡◌, ℕ, List, ap, ◌∙◌, Result, Ok, Err, IfOk, IfErr}
use Rattle.ap_markup.specs.Elements.{elements, Spelled}
use Rattle.ap_markup.specs.declared.elements.MarkupFault.{MarkupFault}
use Rattle.ap_markup.specs.declared.tables.Table.TheVariants.{Dix}
use Rattle.ap_dix.specs.Faults.{DixMark}
use Rattle.ap_dix.specs.Refusals.{IfFault}
use Rattle.ap_dix.specs.Soundness.{IsSound}
use Rattle.ap_dix.specs.Spelling.{spelled, judged, mark_of, fault_of, Spells, IsFirstFault}
use Rattle.ap_dix.specs.declared.dictionary.Dictionary.{Dictionary}
use Rattle.ap_dix.specs.declared.refusal.DixRefusal.{DixRefusal}
use Rattle.ap_dix.specs.declared.refusal.DixRefusal.TheVariants.{Fault, Memory}
use Rattle.ap_dix.proofs.Sound.{spelled_sound}

pub spelled_is : (text : List ℕ) (read : Spelled) → elements text Dix ≡ read →
    spelled text ≡ judged read
unfolding spelled
spelled_is text read e = ap judged e

pub value_read : (text : List ℕ) (read : Spelled) (r : Result Dictionary DixRefusal) →
    elements text Dix ≡ read → IfOk r (λ d. judged read ≡ Ok d) → IfOk r (λ d. Spells text d)
value_read text read (Ok d) e h = spelled_is text read e ∙ h
value_read text read (Err r) e h = tt

pub sound_read : (text : List ℕ) (read : Spelled) (r : Result Dictionary DixRefusal) →
    elements text Dix ≡ read → IfOk r (λ d. judged read ≡ Ok d) → IfOk r (λ d. IsSound d)
sound_read text read (Ok d) e h = spelled_sound text d (spelled_is text read e ∙ h)
sound_read text read (Err r) e h = tt

pub fault_read : (text : List ℕ) (read : Spelled) (r : Result Dictionary DixRefusal) →
    elements text Dix ≡ read → IfErr r (λ e. IfFault e (λ f. judged read ≡ Err f)) →
    IfErr r (λ e. IfFault e (IsFirstFault text))
fault_read text read (Ok d) e h = tt
fault_read text read (Err (Fault f)) e h = spelled_is text read e ∙ h
fault_read text read (Err Memory) e h = tt

pub refused : (text : List ℕ) (f : MarkupFault) (m : DixMark) (r : DixRefusal) →
    elements text Dix ≡ Err f → m ≡ mark_of f → r ≡ Fault (fault_of m) →
    IfFault r (IsFirstFault text)
refused text f m r e m_is r_is = rw (r_is, m_is) (spelled_is text (Err f) e)
