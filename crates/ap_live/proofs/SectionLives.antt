-- What the live sets of the four sections say, in the words of the lexicon.
use Rattle.std.specs.Prelude.{◌≡◌, ◌↔◌, ℕ, ◌-◌, ◌<◌, ◌≤◌, min, Bool, true, false, not, ◌&&◌, ◌||◌, IsTrue, List, [], ◌∷◌, ◌++◌, length, take, Option, Some, None}
use Rattle.std.proofs.Common.{zero, suc, refl, ap, sym, ◌∙◌, subst, arith, append_assoc, append-nil}
use Rattle.std.proofs.Math.Seq.{take-append_seam}
use Rattle.std.proofs.lemmas.Bool.{and_parts}
use Rattle.std.proofs.lemmas.List.{take-append-le, take-map, map-append, length-append}
use Rattle.ap_symbol.specs.declared.symbol.Symbol.{Symbol}
use Rattle.ap_fst.specs.Lists.{IsIn}
use Rattle.ap_fst.specs.Machines.{Machine, IsMachine}
use Rattle.ap_fst.specs.Sections.{Parts, IsCompiled, IsSection, section_of}
use Rattle.ap_fst.specs.Silence.{HasNoEmptyCycle}
use Rattle.ap_fst.specs.declared.compiled.Kind2.{Kind2}
use Rattle.ap_fst.specs.declared.label.Edge.{Edge}
use Rattle.ap_live.specs.Fitting.{Input}
use Rattle.ap_live.specs.Found.{outputs, has_words, has_output, is_viable}
use Rattle.ap_live.specs.Outputs.{FitBeginning, IsOutput, WritesWords}
use Rattle.ap_live.specs.Lives.{Lives, IsLive}
use Rattle.ap_live.specs.Rows.{Reach, begin, silent, taken}
use Rattle.ap_live.specs.Lexicon.{inputs_of}
use Rattle.ap_live.specs.SectionLives.{IsLiveBehind, IsLiveIfAny, IsSectionLive}
use Rattle.ap_live.specs.declared.section_live.SectionLive.{SectionLive}
use Rattle.ap_live.proofs.Coherence.{section_is, section_writes, sections_proper}
use Rattle.ap_live.proofs.Finding.{OneRendering, other_answer, output_there, outputs_found, same_answer, viable_found}
use Rattle.ap_live.proofs.LiveLaws.{beginning_reaches, output_reaches}
use Rattle.ap_live.proofs.RowLaws.{snoc_parts}

pub inputs_more : (sensitive : Bool) (symbols : List Symbol) (x : Symbol) →
    inputs_of sensitive (symbols ++ x ∷ []) ≡ inputs_of sensitive symbols
    ++ (record { symbol = x; sensitive = sensitive }) ∷ []
inputs_more sensitive symbols x =
    map-append (λ (y : Symbol). let i : Input = record { symbol = y; sensitive = sensitive } in i)
    symbols (x ∷ [])

inputs_cut : (sensitive : Bool) (n : ℕ) (symbols : List Symbol) →
    inputs_of sensitive (take n symbols) ≡ take n (inputs_of sensitive symbols)
inputs_cut sensitive n symbols =
    sym (take-map (λ (y : Symbol). let i : Input = record { symbol = y; sensitive = sensitive } in
    i) n symbols)

pub live_cut : (m : Machine) (sensitive : Bool) (n : ℕ) (symbols : List Symbol)
    (old new : SectionLive) →
    ((m : Machine) (seen : List Input) → IsSectionLive m seen old →
    IsSectionLive m (take n seen) new)
    → IsSectionLive m (inputs_of sensitive symbols) old →
    IsSectionLive m (inputs_of sensitive (take n symbols)) new
live_cut m sensitive n symbols old new cut live =
    subst (λ (seen : List Input). IsSectionLive m seen new) (sym (inputs_cut sensitive n symbols))
    (cut m (inputs_of sensitive symbols) live)

pub live_stepped : (m fst : Machine) (sensitive : Bool) (symbols : List Symbol) (x : Symbol)
    (old new : SectionLive) → fst ≡ m
    → ((seen : List Input) → IsSectionLive fst seen old →
    IsSectionLive fst (seen ++ (record { symbol = x; sensitive = sensitive }) ∷ []) new)
    → IsSectionLive m (inputs_of sensitive symbols) old →
    IsSectionLive m (inputs_of sensitive (symbols ++ x ∷ [])) new
live_stepped m fst sensitive symbols x old new e step live =
    let s = step (inputs_of sensitive symbols)
    (subst (λ (z : Machine). IsSectionLive z (inputs_of sensitive symbols) old) (sym e) live) in
    subst (λ (seen : List Input). IsSectionLive m seen new) (sym (inputs_more sensitive symbols x))
    (subst (λ (z : Machine). IsSectionLive z (inputs_of sensitive symbols
    ++ (record { symbol = x; sensitive = sensitive }) ∷ []) new) e s)

-- in each section
pub all_stepped : (a b c d answer : Bool) → answer ≡ true → answer ≡ (a && b && c && d) →
    (a ≡ true) × (b ≡ true) × (c ≡ true) × (d ≡ true)
all_stepped a b c d answer e is =
    let last = and_parts (a && b && c) d (sym is ∙ e) in
    let third = and_parts (a && b) c last.0 in
    let both = and_parts a b third.0 in
    (both.0, both.1, third.1, last.1)

-- stepped on and then taken back, or neither
pub live_back : (m fst : Machine) (sensitive stepped : Bool) (symbols : List Symbol) (x : Symbol)
    (old middle new : SectionLive) → fst ≡ m
    → (stepped ≡ true → (seen : List Input) → IsSectionLive fst seen old →
    IsSectionLive fst (seen ++ (record { symbol = x; sensitive = sensitive }) ∷ []) middle) →
    (stepped ≡ false → middle ≡ old)
    → (stepped ≡ true → (m : Machine) (seen : List Input) (last : Input) →
    IsSectionLive m (seen ++ last ∷ []) middle → IsSectionLive m seen new) →
    (stepped ≡ false → new ≡ middle)
    → IsSectionLive m (inputs_of sensitive symbols) old →
    IsSectionLive m (inputs_of sensitive symbols) new
live_back m fst sensitive true symbols x old middle new e step stay back stays live =
    let s = step refl (inputs_of sensitive symbols)
    (subst (λ (z : Machine). IsSectionLive z (inputs_of sensitive symbols) old) (sym e) live) in
    subst (λ (z : Machine). IsSectionLive z (inputs_of sensitive symbols) new) e
    (back refl fst (inputs_of sensitive symbols) _ s)
live_back m fst sensitive false symbols x old middle new e step stay back stays live =
    subst (λ (l : SectionLive). IsSectionLive m (inputs_of sensitive symbols) l)
    (sym (stays refl ∙ stay refl)) live

module _ (m : Machine) (seen : List Input) (held : Option Lives) (behind : ℕ) where
  pub nothing_held : held ≡ None → IsLiveIfAny m seen held behind → m.finals ≡ []
  nothing_held e is = subst (λ (h : Option Lives). IsLiveIfAny m seen h behind) e is

  pub live_held : (live : Lives) → held ≡ Some live → IsLiveIfAny m seen held behind →
      IsLiveBehind m seen live behind
  live_held live e is = subst (λ (h : Option Lives). IsLiveIfAny m seen h behind) e is

-- ---- what comes behind the inputs of a live set

no_items : (xs : List Input) → length xs ≡ 0 → xs ≡ []
no_items [] e = refl
no_items (x ∷ xs) e = absurd (omega arith)

pub whole_live : (m : Machine) (seen : List Input) (live : Lives) → IsLive m seen live →
    IsLiveBehind m seen live 0
whole_live m seen live is = record {
  first = seen;
  rest = [];
  whole = sym (append-nil seen);
  count = refl;
  live_is = is;
  dead = λ lt. absurd (omega arith);
}

all_first : (m : Machine) (seen : List Input) (live : Lives) (behind : ℕ) → behind ≡ 0 →
    (is : IsLiveBehind m seen live behind) → seen ≡ is.first
all_first m seen live behind z is = is.whole
    ∙ ap (λ (x : List Input). is.first ++ x) (no_items is.rest (is.count ∙ z))
    ∙ append-nil is.first

pub live_whole : (m : Machine) (seen : List Input) (live : Lives) (behind : ℕ) → behind ≡ 0 →
    IsLiveBehind m seen live behind → IsLive m seen live
live_whole m seen live behind z is = subst (λ (x : List Input). IsLive m x live)
    (sym (all_first m seen live behind z is)) is.live_is

-- the last of some inputs, and those before it
pub record IsEnded (xs : List Input) : Type 0 where
  pub front : List Input
  pub last : Input
  pub is : xs ≡ front ++ last ∷ []

pub ended_by : (x : Input) (xs : List Input) → IsEnded (x ∷ xs)
ended_by x [] = record { front = []; last = x; is = refl }
ended_by x (y ∷ xs) = let e : IsEnded (y ∷ xs) = ended_by y xs in
    record { front = x ∷ e.front; last = e.last; is = ap (λ (z : List Input). x ∷ z) e.is }

-- what the inputs reach, the first of them do not reach less
reach_first : (edges : List Edge) (first rest whole : List Input) (s : ℕ) → whole ≡ first ++ rest →
    Reach edges whole s → (t : ℕ) × Reach edges first t
reach_first edges [] rest whole s w (begin e z) = (0, begin refl refl)
reach_first edges (x ∷ first) rest whole s w (begin e z) = let none : x ∷ (first ++ rest) ≡ [] =
    sym w ∙ e in absurd (cc)
reach_first edges first rest whole s w (silent f j p more) =
    reach_first edges first rest whole f w more
reach_first edges first [] whole s w (taken before input f j p e more) = (
  s,
  subst (λ (z : List Input). Reach edges z s) (w ∙ append-nil first)
      (taken before input f j p e more),
)
reach_first edges first (x ∷ rest) whole s w (taken before input f j p e more) =
    let l : IsEnded (x ∷ rest) = ended_by x rest in
    let same : (first ++ l.front) ++ l.last ∷ [] ≡ before ++ input ∷ [] =
    append_assoc first l.front (l.last ∷ [])
    ∙ sym (w ∙ ap (λ (z : List Input). first ++ z) l.is) ∙ e in
    reach_first edges first l.front before f
    (sym (snoc_parts (first ++ l.front) before l.last input same).0) more

-- Nothing is reached by what comes behind inputs that reach nothing.
pub dead_behind : (m : Machine) (seen : List Input) (live : Lives) (behind : ℕ) → 0 < behind →
    IsLiveBehind m seen live behind → (s : ℕ) → Reach m.edges seen s → ⊥
dead_behind m seen live behind lt is s reach =
    let (t, r) = reach_first m.edges is.first is.rest seen s is.whole reach in is.dead lt t r

pub dead_whole : (m : Machine) (seen : List Input) (live : Lives) (behind : ℕ) (none : Bool) →
    behind ≡ 0 → none ≡ true → ((m : Machine) (seen : List Input) → IsLive m seen live →
    (IsTrue none ↔ ((s : ℕ) → Reach m.edges seen s → ⊥)))
    → IsLiveBehind m seen live behind → (s : ℕ) → Reach m.edges seen s → ⊥
dead_whole m seen live behind none z t h is =
    (h m seen (live_whole m seen live behind z is)).0 t

take_past : (xs ys : List Input) (n : ℕ) → length xs ≤ n →
    take n (xs ++ ys) ≡ xs ++ take (n - length xs) ys
take_past [] ys n le = ap (λ (k : ℕ). take k ys) (let e : n ≡ n - 0 = omega arith in e)
take_past (x ∷ xs) ys zero le = absurd (omega arith)
take_past (x ∷ xs) ys (suc n) le =
    ap (λ (z : List Input). x ∷ z) (take_past xs ys n (omega arith))
    ∙ ap (λ (k : ℕ). x ∷ (xs ++ take k ys))
    (let e : n - length xs ≡ suc n - suc (length xs) = omega arith in e)

take_count : (xs : List Input) (n : ℕ) → length (take n xs) ≡ min (length xs) n
take_count [] zero = omega arith
take_count [] (suc n) = omega arith
take_count (x ∷ xs) zero = omega arith
take_count (x ∷ xs) (suc n) = let h = take_count xs n in omega (arith, h)

-- back to fewer inputs than the live set has
pub cut_first : (m : Machine) (seen : List Input) (len n : ℕ) (old new : Lives) (behind : ℕ) →
    ((m : Machine) (seen : List Input) → IsLive m seen old → len ≡ length seen) → n ≤ len
    → ((m : Machine) (seen : List Input) → IsLive m seen old → IsLive m (take n seen) new) →
    IsLiveBehind m seen old behind → IsLiveBehind m (take n seen) new 0
cut_first m seen len n old new behind counts lt cut is =
    let count : len ≡ length is.first = counts m is.first is.live_is in
    let same : take n seen ≡ take n is.first = ap (take n) is.whole
    ∙ take-append-le n is.first is.rest (omega arith) in
    subst (λ (z : List Input). IsLiveBehind m z new 0) (sym same)
    (whole_live m (take n is.first) new (cut m is.first is.live_is))

-- back to as many, or to some of what comes behind them
pub cut_behind : (m : Machine) (seen : List Input) (len n : ℕ) (live : Lives)
    (behind behind' : ℕ) →
    ((m : Machine) (seen : List Input) → IsLive m seen live → len ≡ length seen) → len ≤ n
    → behind' ≡ min behind (n - len) → IsLiveBehind m seen live behind →
    IsLiveBehind m (take n seen) live behind'
cut_behind m seen len n live behind behind' counts le e is =
    let count : len ≡ length is.first = counts m is.first is.live_is in
    record {
      first = is.first;
      rest = take (n - length is.first) is.rest;
      whole = ap (take n) is.whole ∙ take_past is.first is.rest n (omega arith);
      count = let t = take_count is.rest (n - length is.first) in let c = is.count in
          omega (arith, t, c, count, e);
      live_is = is.live_is;
      dead = λ lt. is.dead (omega arith);
    }

-- the last input is taken back
pub taken_back : (m : Machine) (seen : List Input) (last : Input) (len n : ℕ) (held : Option Lives)
    (old new : Lives) (behind : ℕ) → held ≡ Some old → behind ≡ 0 →
    ((m : Machine) (seen : List Input) → IsLive m seen old → len ≡ length seen) → n ≡ len - 1
    → ((m : Machine) (seen : List Input) → IsLive m seen old → IsLive m (take n seen) new) →
    IsLiveIfAny m (seen ++ last ∷ []) held behind → IsLiveBehind m seen new behind
taken_back m seen last len n held old new behind e z counts less cut is =
    let b : IsLiveBehind m (seen ++ last ∷ []) old behind =
    live_held m (seen ++ last ∷ []) held behind old e is in
    let live : IsLive m (seen ++ last ∷ []) old =
    live_whole m (seen ++ last ∷ []) old behind z b in
    let one : n ≡ length seen = let count = counts m (seen ++ last ∷ []) live in let l =
    length-append seen (last ∷ []) in omega (arith, l, count, less) in
    subst (λ (k : ℕ). IsLiveBehind m seen new k) (sym z) (whole_live m seen new
    (subst (λ (z : List Input). IsLive m z new) (ap (λ (k : ℕ). take k (seen ++ last ∷ [])) one
    ∙ take-append_seam seen (last ∷ [])) (cut m (seen ++ last ∷ []) live)))

pub passed_back : (m : Machine) (seen : List Input) (last : Input) (held : Option Lives)
    (behind behind' : ℕ) → 0 < behind → behind' ≡ behind - 1 →
    IsLiveIfAny m (seen ++ last ∷ []) held behind → IsLiveIfAny m seen held behind'
passed_back m seen last None behind behind' lt e is = is
passed_back m seen last (Some live) behind behind' lt e is =
    let l = length-append seen (last ∷ []) in
    let w : length (seen ++ last ∷ []) ≡ length (is.first ++ is.rest) =
    ap (length {A = Input}) is.whole in
    let p = length-append is.first is.rest in
    let c = is.count in
    let le : length is.first ≤ length seen = omega (arith, l, w, p, c) in
    let t = take_count is.rest (length seen - length is.first) in
    record {
      first = is.first;
      rest = take (length seen - length is.first) is.rest;
      whole = sym (take-append_seam seen (last ∷ []))
          ∙ ap (take (length seen)) is.whole
          ∙ take_past is.first is.rest (length seen) le;
      count = omega (arith, l, w, p, c, t, e);
      live_is = is.live_is;
      dead = λ more. is.dead lt;
    }

-- ---- what is told where nothing is reached

no_words : (words : List (List Symbol)) → has_words words ≡ false → [] ≡ words
no_words [] h = refl
no_words (word ∷ words) h = absurd (cc)

module _ (m : Machine) (seen : List Input) (ok : IsMachine m) (none : HasNoEmptyCycle m)
    (dead : (s : ℕ) → Reach m.edges seen s → ⊥) where
  pub unread : false ≡ has_output m seen
  unread = same_answer false (has_output m seen) ((w : List Symbol) × IsOutput m seen w) (
    λ f. absurd (cc),
    λ (w, o). absurd (dead o.accepted.last (output_reaches m seen w o)),
  ) (output_there m seen ok none)

  pub no_reading : [] ≡ outputs m seen
  no_reading = no_words (outputs m seen) (sym unread)

pub unviable : (m : Machine) (seen : List Input) → IsSection m →
    ((s : ℕ) → Reach m.edges seen s → ⊥) → true ≡ not (is_viable m seen)
unviable m seen section dead = other_answer true (is_viable m seen) (FitBeginning m seen) (
  λ t b. let (s, reach) = beginning_reaches m seen b in dead s reach,
  λ f. refl,
) (viable_found m seen section.sound section.cycles section.trimmed)

module _ (p : Parts) (kind : Kind2) (fst : Machine) (e : fst ≡ section_of p kind)
    (compiled : IsCompiled p) where
  pub no_cycle : HasNoEmptyCycle fst
  no_cycle = subst (λ (m : Machine). HasNoEmptyCycle m) (sym e) (section_is p kind compiled).cycles

  pub writes : WritesWords fst
  writes = subst (λ (m : Machine). WritesWords m) (sym e) (section_writes p kind compiled)

  pub reads_found : (seen : List Input) (live : SectionLive) (answer : Bool) →
      IsSectionLive (section_of p kind) seen live →
      ((seen : List Input) → HasNoEmptyCycle fst → IsSectionLive fst seen live →
      answer ≡ has_output fst seen)
      → answer ≡ has_words (outputs (section_of p kind) seen)
  reads_found seen live answer is found =
      found seen no_cycle (subst (λ (m : Machine). IsSectionLive m seen live) (sym e) is)
      ∙ ap (λ (m : Machine). has_output m seen) e

  pub readings_found : (seen : List Input) (live : SectionLive) (words : List (List Symbol)) →
      IsSectionLive (section_of p kind) seen live →
      ((seen : List Input) → IsSectionLive fst seen live → words ≡ outputs fst seen) →
      words ≡ outputs (section_of p kind) seen
  readings_found seen live words is found =
      found seen (subst (λ (m : Machine). IsSectionLive m seen live) (sym e) is)
      ∙ ap (λ (m : Machine). outputs m seen) e

  pub some_found : OneRendering → (seen : List Input) (live : SectionLive)
      (words : List (List Symbol)) → IsSectionLive (section_of p kind) seen live →
      ((seen : List Input) → IsSectionLive fst seen live → (w : List Symbol) → IsIn w words →
      IsOutput fst seen w)
      → (w : List Symbol) → IsIn w words → IsIn w (outputs (section_of p kind) seen)
  some_found law seen live words is found w i =
      let section = section_is p kind compiled in
      (outputs_found law (section_of p kind) seen w section.sound section.cycles
      (sections_proper p compiled kind)).1
      (subst (λ (m : Machine). IsOutput m seen w) e
      (found seen (subst (λ (m : Machine). IsSectionLive m seen live) (sym e) is) w i))

-- dead in each section
pub dead_all : (a b c d s i o e : Bool) → s ≡ not a → i ≡ not b → o ≡ not c → e ≡ not d →
    (s && i && o && e) ≡ not (a || b || c || d)
dead_all true b c d s i o e hs hi ho he = rw hs refl
dead_all false true c d s i o e hs hi ho he = rw (hs, hi) refl
dead_all false false true d s i o e hs hi ho he = rw (hs, hi, ho) refl
dead_all false false false true s i o e hs hi ho he = rw (hs, hi, ho, he) refl
dead_all false false false false s i o e hs hi ho he = rw (hs, hi, ho, he) refl
