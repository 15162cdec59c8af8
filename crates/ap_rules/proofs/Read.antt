-- What a text says, from what its tree says.
use Rattle.std.proofs.Common.{◌≡◌, ℕ, List, ap, ◌∙◌, Result, Ok, Err, IfOk, IfErr}
use Rattle.ap_markup.specs.Elements.{elements, Spelled}
use Rattle.ap_markup.specs.declared.elements.MarkupFault.{MarkupFault}
use Rattle.ap_rules.specs.Faults.{RuleMark}
use Rattle.ap_rules.specs.Plain.{PlainRules}
use Rattle.ap_rules.specs.Refusals.{IfFault}
use Rattle.ap_rules.specs.Soundness.{IsSound}
use Rattle.ap_rules.specs.Spelling.{spelled, judged, mark_of, fault_of, table_of, Spells, IsFirstFault}
use Rattle.ap_rules.specs.Views.{plain_rules}
use Rattle.ap_rules.specs.declared.refusal.RuleRefusal.{RuleRefusal}
use Rattle.ap_rules.specs.declared.refusal.RuleRefusal.TheVariants.{Fault, Memory}
use Rattle.ap_rules.specs.declared.rules.Form.{Form}
use Rattle.ap_rules.specs.declared.rules.Rules.{Rules}
use Rattle.ap_rules.proofs.SectionsSound.{spelled_sound}

pub spelled_is : (form : Form) (text : List ℕ) (read : Spelled) → elements text (table_of form)
    ≡ read → spelled form text ≡ judged form read
unfolding spelled
spelled_is form text read e = ap (judged form) e

pub value_read : (form : Form) (text : List ℕ) (read : Spelled) (r : Result Rules RuleRefusal) →
    elements text (table_of form) ≡ read → IfOk r (λ d. judged form read ≡ Ok (plain_rules d)) →
    IfOk r (λ d. Spells form text (plain_rules d))
value_read form text read (Ok d) e h = spelled_is form text read e ∙ h
value_read form text read (Err r) e h = tt

pub sound_read : (form : Form) (text : List ℕ) (r : Result Rules RuleRefusal) →
    IfOk r (λ d. Spells form text (plain_rules d)) → IfOk r (λ d. IsSound (plain_rules d))
sound_read form text (Ok d) h = spelled_sound form text (plain_rules d) h
sound_read form text (Err r) h = tt

pub fault_read : (form : Form) (text : List ℕ) (read : Spelled) (r : Result Rules RuleRefusal) →
    elements text (table_of form) ≡ read → IfErr r (λ e. IfFault e (λ f. judged form read ≡ Err f))
    → IfErr r (λ e. IfFault e (IsFirstFault form text))
fault_read form text read (Ok d) e h = tt
fault_read form text read (Err (Fault f)) e h = spelled_is form text read e ∙ h
fault_read form text read (Err Memory) e h = tt

pub refused : (form : Form) (text : List ℕ) (f : MarkupFault) (m : RuleMark) (r : RuleRefusal) →
    elements text (table_of form) ≡ Err f → m ≡ mark_of f → r ≡ Fault (fault_of m) →
    IfFault r (IsFirstFault form text)
refused form text f m r e m_is r_is = rw (r_is, m_is) (spelled_is form text (Err f) e)
