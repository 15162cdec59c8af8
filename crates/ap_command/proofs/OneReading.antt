-- A text says one thing in a notation, or has one first fault: of every notation at once.
use Rattle.std.proofs.Common.{◌≡◌, ℕ, List, ap, sym, ◌∙◌}
use Rattle.ap_dix.specs.declared.dictionary.Dictionary.{Dictionary}
use Rattle.ap_dix.specs.declared.refusal.DixFault.{DixFault}
use Rattle.ap_dix.specs.Refusals.{kind_number}
use Rattle.ap_dix.specs.Sentences.{SpellsDictionary, IsRefusedFor}
use Rattle.ap_fst.specs.Sections.{Parts}
use Rattle.ap_rules.specs.declared.refusal.RuleFault.{RuleFault}
use Rattle.ap_rules.specs.declared.rules.Form.{Form}
use Rattle.ap_rules.specs.Plain.{PlainRules}
use Rattle.ap_rules.specs.Refusals.{kind_number as rule_number}
use Rattle.ap_rules.specs.Sentences.{SpellsRules, IsRefusedFor as AreRefusedFor}
use Rattle.ap_binary.specs.declared.refusal.BinaryFault.{BinaryFault}
use Rattle.ap_binary.specs.Faults.{HasFirstFault}
use Rattle.ap_binary.specs.Grammar.{IsTextOf}
use Rattle.ap_binary.specs.Refusals.{kind_number as compiled_number}
use Rattle.ap_command.specs.Said.{Said, Entries, Sections, Rules, Pairs}
use Rattle.ap_command.specs.Reading.{SpellsAs, Flaw, OfDictionary, OfCompiled, OfRules, IsFlawAs, Notation, AsDictionary, AsCompiled, AsRules, AsPairs}
use Rattle.ap_command.proofs.Paired.{one-said, one-bad, said-without-bad}

-- the laws of the texts of files that the clauses rest on
pub record Laws : Type 0 where
  pub one : (notation : Notation) (text : List ℕ) (c d : Said) → SpellsAs notation text c →
      SpellsAs notation text d → c ≡ d
  pub one_fault : (notation : Notation) (text : List ℕ) (e f : Flaw) → IsFlawAs notation text e →
      IsFlawAs notation text f → e ≡ f
  pub no_fault : (notation : Notation) (text : List ℕ) (c : Said) (f : Flaw) →
      SpellsAs notation text c → IsFlawAs notation text f → ⊥

-- the laws of each notation
pub record Dictionaries : Type 0 where
  pub one : (text : List ℕ) (c d : Dictionary) → SpellsDictionary text c →
      SpellsDictionary text d → c ≡ d
  pub one_fault : (text : List ℕ) (e f : DixFault) → IsRefusedFor text e → IsRefusedFor text f →
      e ≡ f
  pub no_fault : (text : List ℕ) (d : Dictionary) (f : DixFault) → SpellsDictionary text d →
      IsRefusedFor text f → ⊥

pub record RuleFiles : Type 0 where
  pub one : (form : Form) (text : List ℕ) (q r : PlainRules) → SpellsRules form text q →
      SpellsRules form text r → q ≡ r
  pub one_fault : (form : Form) (text : List ℕ) (e f : RuleFault) → AreRefusedFor form text e →
      AreRefusedFor form text f → e ≡ f
  pub no_fault : (form : Form) (text : List ℕ) (r : PlainRules) (f : RuleFault) →
      SpellsRules form text r → AreRefusedFor form text f → ⊥

pub record CompiledFiles : Type 0 where
  pub one : (text : List ℕ) (c d : Parts) → IsTextOf text c → IsTextOf text d → c ≡ d
  pub one_fault : (text : List ℕ) (e f : BinaryFault) → HasFirstFault text e →
      HasFirstFault text f → e ≡ f
  pub no_fault : (text : List ℕ) (c : Parts) (f : BinaryFault) → IsTextOf text c →
      HasFirstFault text f → ⊥

module _ (dix : Dictionaries) (rules : RuleFiles) (compiled : CompiledFiles) where
  pub one-content : (notation : Notation) (text : List ℕ) (c d : Said) → SpellsAs notation text c →
      SpellsAs notation text d → c ≡ d
  one-content AsDictionary text (Entries c) (Entries d) p q = ap Entries (dix.one text c d p q)
  one-content AsDictionary text (Entries c) d p q = absurd q
  one-content AsDictionary text c d p q = absurd p
  one-content AsCompiled text (Sections c) (Sections d) p q =
      ap Sections (compiled.one text c d p q)
  one-content AsCompiled text (Sections c) d p q = absurd q
  one-content AsCompiled text c d p q = absurd p
  one-content (AsRules form) text (Rules c) (Rules d) p q = ap Rules (rules.one form text c d p q)
  one-content (AsRules form) text (Rules c) d p q = absurd q
  one-content (AsRules form) text c d p q = absurd p
  one-content AsPairs text (Pairs c) (Pairs d) p q = ap Pairs (one-said text c d p q)
  one-content AsPairs text (Pairs c) d p q = absurd q
  one-content AsPairs text c d p q = absurd p

  pub one-flaw : (notation : Notation) (text : List ℕ) (e f : Flaw) → IsFlawAs notation text e →
      IsFlawAs notation text f → e ≡ f
  one-flaw AsCompiled text (OfCompiled n l) (OfCompiled m k) p q =
      let same : p.fault ≡ q.fault = compiled.one_fault text p.fault q.fault p.first q.first in
      let numbers : n ≡ m = sym p.number_is
      ∙ ap (λ (x : BinaryFault). compiled_number x.kind) same ∙ q.number_is in
      let lines : l ≡ k = sym p.line_is ∙ ap (λ (x : BinaryFault). x.line) same ∙ q.line_is in
      cc
  one-flaw AsCompiled text (OfCompiled n l) f p q = absurd q
  one-flaw AsCompiled text e f p q = absurd p
  one-flaw AsDictionary text (OfDictionary n l) (OfDictionary m k) p q =
      let same : p.fault ≡ q.fault = dix.one_fault text p.fault q.fault p.first q.first in
      let numbers : n ≡ m = sym p.number_is ∙ ap (λ (x : DixFault). kind_number x.kind) same
      ∙ q.number_is in
      let lines : l ≡ k = sym p.line_is ∙ ap (λ (x : DixFault). x.line) same ∙ q.line_is in
      cc
  one-flaw AsDictionary text (OfDictionary n l) f p q = absurd q
  one-flaw AsDictionary text e f p q = absurd p
  one-flaw (AsRules form) text (OfRules n l) (OfRules m k) p q =
      let same : p.fault ≡ q.fault = rules.one_fault form text p.fault q.fault p.first q.first in
      let numbers : n ≡ m = sym p.number_is ∙ ap (λ (x : RuleFault). rule_number x.kind) same
      ∙ q.number_is in
      let lines : l ≡ k = sym p.line_is ∙ ap (λ (x : RuleFault). x.line) same ∙ q.line_is in
      cc
  one-flaw (AsRules form) text (OfRules n l) f p q = absurd q
  one-flaw (AsRules form) text e f p q = absurd p
  one-flaw AsPairs text (OfRules n l) (OfRules m k) p q =
      let numbers : n ≡ m = p.0 ∙ sym q.0 in
      let lines : l ≡ k = one-bad text l k p.1 q.1 in
      cc
  one-flaw AsPairs text (OfRules n l) f p q = absurd q
  one-flaw AsPairs text e f p q = absurd p

  pub no-flaw : (notation : Notation) (text : List ℕ) (c : Said) (f : Flaw) →
      SpellsAs notation text c → IsFlawAs notation text f → ⊥
  no-flaw AsDictionary text (Entries c) (OfDictionary n l) p q =
      dix.no_fault text c q.fault p q.first
  no-flaw AsDictionary text (Entries c) f p q = q
  no-flaw AsDictionary text c f p q = p
  no-flaw AsCompiled text (Sections c) (OfCompiled n l) p q =
      compiled.no_fault text c q.fault p q.first
  no-flaw AsCompiled text (Sections c) f p q = q
  no-flaw AsCompiled text c f p q = p
  no-flaw (AsRules form) text (Rules c) (OfRules n l) p q =
      rules.no_fault form text c q.fault p q.first
  no-flaw (AsRules form) text (Rules c) f p q = q
  no-flaw (AsRules form) text c f p q = p
  no-flaw AsPairs text (Pairs c) (OfRules n l) p q = said-without-bad text c l p q.1
  no-flaw AsPairs text (Pairs c) f p q = q
  no-flaw AsPairs text c f p q = p
