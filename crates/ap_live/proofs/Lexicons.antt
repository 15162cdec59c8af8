-- A relation has one lexicon at most.
use Rattle.std.specs.Prelude.{◌≡◌, ℕ, Bool, List}
use Rattle.std.proofs.Common.{sym, ◌∙◌}
use Rattle.ap_symbol.specs.Lists.{IsIn}
use Rattle.ap_symbol.specs.declared.symbol.Symbol.{Symbol}
use Rattle.ap_fst.specs.declared.compiled.Kind2.{Kind2}
use Rattle.ap_live.proofs.Finding.{same_answer}
use Rattle.ap_live.proofs.WordOrder.{sorted_same}
use Rattle.ap_live.specs.Lexicon.{Lexicon, Begins, Reads, IsLexiconOf}
use Rattle.ap_live.specs.Relations.{AreSameRelations}

readings_into : (sensitive : Bool) (letters : ℕ → Bool) (relates : Kind2 → List Symbol →
    List Symbol → Type 0) (a b : Lexicon) → IsLexiconOf a sensitive letters relates →
    IsLexiconOf b sensitive letters relates
    → (kind : Kind2) (symbols right : List Symbol) → IsIn right (a.readings kind symbols) →
    IsIn right (b.readings kind symbols)
readings_into sensitive letters relates a b p q kind symbols right i =
    (q.exactly kind symbols right).1 ((p.exactly kind symbols right).0 i)

pub one_lexicon : (sensitive : Bool) (letters : ℕ → Bool) (relates : Kind2 → List Symbol →
    List Symbol → Type 0) (a b : Lexicon) → IsLexiconOf a sensitive letters relates →
    IsLexiconOf b sensitive letters relates → a ≡ b
one_lexicon sensitive letters relates a b p q =
    let letter : (c : ℕ) → a.is_letter c ≡ b.is_letter c = λ c. p.alphabet c ∙ sym (q.alphabet c) in
    let same : (kind : Kind2) (symbols : List Symbol) →
    a.readings kind symbols ≡ b.readings kind symbols =
    λ kind symbols. sorted_same _ _ (p.order kind symbols) (q.order kind symbols)
    (readings_into sensitive letters relates a b p q kind symbols)
    (readings_into sensitive letters relates b a q p kind symbols) in
    let begins : (symbols : List Symbol) → a.viable symbols ≡ b.viable symbols =
    λ symbols. same_answer (a.viable symbols) (b.viable symbols)
    (Begins sensitive relates symbols) (p.beginnings symbols) (q.beginnings symbols) in
    λ i. record {
      is_letter = λ c. letter c i;
      readings = λ kind symbols. same kind symbols i;
      viable = λ symbols. begins symbols i;
    }

reads_same : (sensitive : Bool) (R Q : Kind2 → List Symbol → List Symbol → Type 0) (kind : Kind2)
    (symbols right : List Symbol) → ((left : List Symbol) → R kind left right → Q kind left right) →
    Reads sensitive R kind symbols right → Reads sensitive Q kind symbols right
reads_same sensitive R Q kind symbols right into r =
    record { left = r.left; related = into r.left r.related; fit = r.fit }

begins_same : (sensitive : Bool) (R Q : Kind2 → List Symbol → List Symbol → Type 0)
    (symbols : List Symbol) →
    ((kind : Kind2) (left right : List Symbol) → R kind left right → Q kind left right) →
    Begins sensitive R symbols → Begins sensitive Q symbols
begins_same sensitive R Q symbols into b =
    record {
      kind = b.kind;
      left = b.left;
      right = b.right;
      related =
          into b.kind b.left b.right b.related;
      fit = b.fit;
    }

-- what relates the same, over an alphabet that agrees, has the same lexicon
pub lexicon_same : (lexicon : Lexicon) (sensitive : Bool) (letters others : ℕ → Bool) (R Q : Kind2 →
    List Symbol → List Symbol → Type 0) → AreSameRelations R Q → ((c : ℕ) → letters c ≡ others c)
    → IsLexiconOf lexicon sensitive letters R → IsLexiconOf lexicon sensitive others Q
lexicon_same lexicon sensitive letters others R Q same agree p = record {
  alphabet = λ c. p.alphabet c ∙ agree c;
  exactly = λ kind symbols right.
      let e = p.exactly kind symbols right in (
        (λ i. reads_same sensitive R Q kind symbols right (λ left. (same kind left right).0)
            (e.0 i)),
        (λ r. e.1 (reads_same sensitive Q R kind symbols right
            (λ left. (same kind left right).1) r)),
      );
  order = p.order;
  beginnings = λ symbols.
      let e = p.beginnings symbols in (
        (λ t. begins_same sensitive R Q symbols (λ kind left right. (same kind left right).0)
            (e.0 t)),
        (λ b. e.1 (begins_same sensitive Q R symbols
            (λ kind left right. (same kind left right).1) b)),
      );
}
