-- Walks that are in the same states go on alike.
use Rattle.std.proofs.Common.{◌≡◌, ◌⊎◌, inl, inr, ℕ, Bool, true, List, [], ◌∷◌, ◌++◌, refl, sym, ◌∙◌, ap, subst, append_assoc, append-nil}
use Rattle.std.specs.Prelude.{◌↔◌, Some}
use Rattle.std.proofs.lemmas.List.{map-append}
use Rattle.ap_symbol.specs.declared.symbol.Symbol.{Symbol}
use Rattle.ap_fst.specs.Lists.{IsIn}
use Rattle.ap_fst.specs.Machines.{Machine}
use Rattle.ap_fst.specs.Sections.{IsCompiled, IsSection, Parts, section_of}
use Rattle.ap_fst.specs.declared.compiled.Kind2.{Kind2}
use Rattle.ap_fst.specs.declared.compiled.Kind2.TheVariants.{Standard, Inconditional, Postblank, Preblank}
use Rattle.ap_fst.specs.declared.label.Edge.{Edge}
use Rattle.ap_live.specs.Fitting.{Input}
use Rattle.ap_live.specs.Found.{has_output, is_viable}
use Rattle.ap_live.specs.Lexicon.{inputs_of, lexicon_of}
use Rattle.ap_live.specs.Outputs.{FitBeginning, IsOutput}
use Rattle.ap_live.specs.Reached.{AreReached}
use Rattle.ap_live.specs.Rows.{Reach, begin, silent, taken}
use Rattle.ap_live.specs.Spreads.{Picked}
use Rattle.ap_live.specs.Walks.{AreMet, GoAlike, IsSameMet, states_in}
use Rattle.ap_live.specs.declared.met.Met.{Met}
use Rattle.ap_live.proofs.Coherence.{section_is}
use Rattle.ap_live.proofs.Finding.{output_there, same_answer, viable_found}
use Rattle.ap_live.proofs.LiveLaws.{accepts_law, beginning, beginning_reaches, output_reaches}
use Rattle.ap_live.proofs.RowLaws.{snoc_parts}
use Rattle.ap_live.proofs.SectionLives.{IsEnded, ended_by}

some_behind : (xs ys : List Input) (y : Input) → xs ++ y ∷ ys ≡ [] → ⊥
some_behind [] ys y e = cc
some_behind (x ∷ xs) ys y e = cc

-- What is reached behind one walk is reached behind another that is in its states.
reach_on : (edges : List Edge) (one two later whole : List Input) (s : ℕ) →
    ((t : ℕ) → Reach edges one t → Reach edges two t) → whole ≡ one ++ later →
    Reach edges whole s → Reach edges (two ++ later) s
reach_on edges one two [] whole s go w reach =
    subst (λ (z : List Input). Reach edges z s) (sym (append-nil two))
    (go s (subst (λ (z : List Input). Reach edges z s) (w ∙ append-nil one) reach))
reach_on edges one two (x ∷ rest) whole s go w (begin e z) =
    absurd (some_behind one rest x (sym w ∙ e))
reach_on edges one two (x ∷ rest) whole s go w (silent f j p more) =
    silent f j p (reach_on edges one two (x ∷ rest) whole f go w more)
reach_on edges one two (x ∷ rest) whole s go w (taken before input f j p e more) =
    let l : IsEnded (x ∷ rest) = ended_by x rest in
    let same : (one ++ l.front) ++ l.last ∷ [] ≡ before ++ input ∷ [] =
    append_assoc one l.front (l.last ∷ [])
    ∙ sym (w ∙ ap (λ (z : List Input). one ++ z) l.is) ∙ e in
    let parts : ((one ++ l.front) ≡ before) × (l.last ≡ input) =
    snoc_parts (one ++ l.front) before l.last input same in
    taken (two ++ l.front) l.last f j
    (subst (λ (z : Input). Picked edges (Some z) f s j) (sym parts.1) p)
    (ap (λ (z : List Input). two ++ z) l.is ∙ sym (append_assoc two l.front (l.last ∷ [])))
    (reach_on edges one two l.front before f go (sym parts.0) more)

-- two walks in the same states, or in a transducer that accepts nothing
abbrev AreAlike : Machine → List Input → List Input → Type 0
AreAlike m one two = (m.finals ≡ []) ⊎ ((s : ℕ) → Reach m.edges one s ↔ Reach m.edges two s)

turned : (m : Machine) (one two : List Input) → AreAlike m one two → AreAlike m two one
turned m one two (inl none) = inl none
turned m one two (inr same) = inr (λ s. ((same s).1, (same s).0))

reached_alike : (m : Machine) (one two later : List Input) (s last : ℕ) → AreAlike m one two →
    IsIn last m.finals → Reach m.edges (one ++ later) s → Reach m.edges (two ++ later) s
reached_alike m one two later s last (inl none) final reach =
    elim (subst (λ (z : List ℕ). IsIn last z) none final) [ ]
reached_alike m one two later s last (inr same) final reach =
    reach_on m.edges one two later (one ++ later) s (λ t. (same t).0) refl reach

output_on : (m : Machine) (one two later : List Input) → AreAlike m one two →
    ((w : List Symbol) × IsOutput m (one ++ later) w) → (w : List Symbol)
    × IsOutput m (two ++ later) w
output_on m one two later alike (w, o) =
    let reach : Reach m.edges (two ++ later) o.accepted.last =
    reached_alike m one two later o.accepted.last o.accepted.last alike o.accepted.final
    (output_reaches m (one ++ later) w o) in
    (accepts_law m (two ++ later) true
    ((λ _. (o.accepted.last, (reach, o.accepted.final))), (λ _. refl))).0 refl

none_final : (m : Machine) (s : ℕ) → IsIn s m.finals → m.finals ≡ [] → ⊥
none_final m s final none = elim (subst (λ (z : List ℕ). IsIn s z) none final) [ ]

beginning_on : (m : Machine) (one two later : List Input) → IsSection m → AreAlike m one two →
    FitBeginning m (one ++ later) → FitBeginning m (two ++ later)
beginning_on m one two later section alike b =
    let (s, reach) = beginning_reaches m (one ++ later) b in
    beginning m (two ++ later) s section.sound section.trimmed
    (none_final m b.accepted.last b.accepted.final)
    (reached_alike m one two later s b.accepted.last alike b.accepted.final reach)

output_alike : (m : Machine) (one two later : List Input) → IsSection m → AreAlike m one two →
    has_output m (one ++ later) ≡ has_output m (two ++ later)
output_alike m one two later section alike =
    let own = output_there m (one ++ later) section.sound section.cycles in
    same_answer (has_output m (one ++ later)) (has_output m (two ++ later))
    ((w : List Symbol) × IsOutput m (two ++ later) w) (
      λ t. output_on m one two later alike (own.0 t),
      λ o. own.1 (output_on m two one later (turned m one two alike) o),
    ) (output_there m (two ++ later) section.sound section.cycles)

viable_alike : (m : Machine) (one two later : List Input) → IsSection m → AreAlike m one two →
    is_viable m (one ++ later) ≡ is_viable m (two ++ later)
viable_alike m one two later section alike =
    let own = viable_found m (one ++ later) section.sound section.cycles section.trimmed in
    same_answer (is_viable m (one ++ later)) (is_viable m (two ++ later))
    (FitBeginning m (two ++ later)) (
      λ t. beginning_on m one two later section alike (own.0 t),
      λ b. own.1 (beginning_on m two one later section (turned m one two alike) b),
    ) (viable_found m (two ++ later) section.sound section.cycles section.trimmed)

-- ---- in the four sections

states_alike : (m : Machine) (one two : List Input) (states states' : List ℕ) → states ≡ states' →
    AreReached m one states → AreReached m two states' → AreAlike m one two
states_alike m one two states states' e (inl none) b = inl none
states_alike m one two states states' e (inr a) (inl none) = inl none
states_alike m one two states states' e (inr a) (inr b) = inr (λ s. (
  (λ reach. (b s).0 (subst (λ (z : List ℕ). IsIn s z) e ((a s).1 reach))),
  (λ reach. (a s).0 (subst (λ (z : List ℕ). IsIn s z) (sym e) ((b s).1 reach))),
))

inputs_then : (sensitive : Bool) (xs ys : List Symbol) →
    inputs_of sensitive (xs ++ ys) ≡ inputs_of sensitive xs ++ inputs_of sensitive ys
inputs_then sensitive xs ys =
    map-append (λ (x : Symbol). let i : Input = record { symbol = x; sensitive = sensitive } in i)
    xs ys

pub met_all : (p : Parts) (sensitive : Bool) (symbols : List Symbol) (met : Met) →
    AreReached p.standard (inputs_of sensitive symbols) met.standard.items →
    AreReached p.inconditional (inputs_of sensitive symbols) met.inconditional.items
    → AreReached p.postblank (inputs_of sensitive symbols) met.postblank.items →
    AreReached p.preblank (inputs_of sensitive symbols) met.preblank.items →
    AreMet p sensitive symbols met
met_all p sensitive symbols met s i o e Standard = s
met_all p sensitive symbols met s i o e Inconditional = i
met_all p sensitive symbols met s i o e Postblank = o
met_all p sensitive symbols met s i o e Preblank = e

module _ (p : Parts) (sensitive : Bool) (one two : List Symbol) (met met' : Met)
    (compiled : IsCompiled p) (same : IsSameMet met met') (first : AreMet p sensitive one met)
    (second : AreMet p sensitive two met') where
  alike : (kind : Kind2) →
      AreAlike (section_of p kind) (inputs_of sensitive one) (inputs_of sensitive two)
  alike kind = states_alike (section_of p kind) (inputs_of sensitive one) (inputs_of sensitive two)
      (states_in met kind) (states_in met' kind) (same kind) (first kind) (second kind)

  reads_alike : (kind : Kind2) (more : List Symbol) →
      has_output (section_of p kind) (inputs_of sensitive (one ++ more))
      ≡ has_output (section_of p kind) (inputs_of sensitive (two ++ more))
  reads_alike kind more = ap (has_output (section_of p kind)) (inputs_then sensitive one more)
      ∙ output_alike (section_of p kind) (inputs_of sensitive one) (inputs_of sensitive two)
      (inputs_of sensitive more) (section_is p kind compiled) (alike kind)
      ∙ ap (has_output (section_of p kind)) (sym (inputs_then sensitive two more))

  begins_alike : (kind : Kind2) (more : List Symbol) →
      is_viable (section_of p kind) (inputs_of sensitive (one ++ more))
      ≡ is_viable (section_of p kind) (inputs_of sensitive (two ++ more))
  begins_alike kind more = ap (is_viable (section_of p kind)) (inputs_then sensitive one more)
      ∙ viable_alike (section_of p kind) (inputs_of sensitive one) (inputs_of sensitive two)
      (inputs_of sensitive more) (section_is p kind compiled) (alike kind)
      ∙ ap (is_viable (section_of p kind)) (sym (inputs_then sensitive two more))

  pub go_alike : GoAlike (lexicon_of p sensitive) one two
  go_alike = record {
    viable = λ more. rw (
      begins_alike Standard more,
      begins_alike Inconditional more,
      begins_alike Postblank more,
      begins_alike Preblank more,
    ) refl;
    reads = reads_alike;
  }
