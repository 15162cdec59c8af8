-- The expression of some tokens, step by step and by the grammar.
use Rattle.std.proofs.Common.{◌≡◌, ◌⊎◌, ◌<◌, inl, inr, ℕ, suc, false, List, [], ◌∷◌, ◌++◌, refl, sym, ◌∙◌, ap, subst, append_assoc, append-nil, Option, Some, None, length}
use Rattle.std.specs.Prelude.{if◌then◌else◌, nat_lt}
use Rattle.std.specs.Option.{option_to_list}
use Rattle.std.proofs.lemmas.Bool.{false≢true, ltb-true, lt-ltb}
use Rattle.ap_dix.specs.Forms.{Form, one, class, sequence, either, forms_of}
use Rattle.ap_dix.specs.Grammar.{IsAtom, character, of_class, group, IsFactor, once, more_often, IsSequence, only, with_factor, IsChoice, lone, with_sequence, symbol_of, repeated}
use Rattle.ap_dix.specs.Machines.{Stage, stage, flushed, with_atom, closed, Stack, stack, repeat_step, close_step, bar_step, stack_step, stack_end, is_nil, choices_of, run}
use Rattle.ap_dix.specs.declared.tokens.Repetition.{Repetition}
use Rattle.ap_dix.specs.declared.tokens.Token.{Token}
use Rattle.ap_dix.specs.declared.tokens.Token.TheVariants.{Character, Class, Open, Close, Bar, Repeat}
use Rattle.ap_dix.proofs.Runs.{run_then, run_keeps, none_else, else_none, taken, left_out, CameFrom, came_from, goes_on}

-- the sequences that are over, each with `|` behind it
abbrev AreChosen : ℕ → List Token → List Form → Type 0
AreChosen depth tokens choices = ((tokens ≡ []) × (choices ≡ []))
    ⊎ ((front : List Token) × (tokens ≡ front ++ Bar ∷ []) × IsChoice depth front choices)

-- the factors so far
abbrev AreFactors : ℕ → List Token → List Form → Type 0
AreFactors depth tokens factors = ((tokens ≡ []) × (factors ≡ [])) ⊎ IsSequence depth tokens factors

abbrev IsLast : ℕ → List Token → Option Form → Type 0
IsLast depth tokens None = tokens ≡ []
IsLast depth tokens (Some atom) = IsAtom depth tokens atom

-- what was seen in one parenthesis
record IsStage (depth : ℕ) (seen : List Token) (s : Stage) : Type 0 where
  front : List Token
  middle : List Token
  back : List Token
  whole : seen ≡ front ++ (middle ++ back)
  chosen : AreChosen depth front s.choices
  factors : AreFactors depth middle s.factors
  last : IsLast depth back s.last

-- what was seen in all of them, from the inside
data IsStacked : List Token → Stage → List Stage → Type 0 where
  bottom : {seen : List Token} {top : Stage} → IsStage 0 seen top → IsStacked seen top []
  above : {seen inner before : List Token} {top outer : Stage} {below : List Stage} →
      IsStacked before outer below → length below < 200 → IsStage (suc (length below)) inner top →
      seen ≡ before ++ Open ∷ inner → IsStacked seen top (outer ∷ below)

abbrev IsSeen : List Token → Stack → Type 0
IsSeen seen s = IsStacked seen s.top s.below

factors_then : (depth : ℕ) (front back tokens : List Token) (factors all : List Form) (e : Form) →
    AreFactors depth front factors → IsFactor depth back e → tokens ≡ front ++ back →
    all ≡ factors ++ e ∷ [] → IsSequence depth tokens all
factors_then depth front back tokens factors all e (inl h) f w a =
    only (subst (λ z. IsFactor depth z e) (sym (w ∙ ap (λ z. z ++ back) h.0)) f)
    (a ∙ ap (λ z. z ++ e ∷ []) h.1)
factors_then depth front back tokens factors all e (inr h) f w a = with_factor h f w a

-- the factors with the last atom
flushed_factors : (depth : ℕ) (middle back : List Token) (factors : List Form) (last : Option Form)
    → AreFactors depth middle factors → IsLast depth back last →
    AreFactors depth (middle ++ back) (factors ++ option_to_list last)
flushed_factors depth middle back factors None f l =
    subst (λ z. AreFactors depth (middle ++ z) (factors ++ [])) (sym l)
    (subst (λ z. AreFactors depth z (factors ++ [])) (sym (append-nil middle))
    (subst (AreFactors depth middle) (sym (append-nil factors)) f))
flushed_factors depth middle back factors (Some atom) f l =
    inr (factors_then depth middle back (middle ++ back) factors (factors ++ atom ∷ []) atom f
    (once l) refl refl)

with_atom_stage : (depth : ℕ) (seen more all : List Token) (s : Stage) (atom : Form) →
    IsStage depth seen s → IsAtom depth more atom → all ≡ seen ++ more →
    IsStage depth all (with_atom s atom)
with_atom_stage depth seen more all s atom h a w = record {
  front = h.front;
  middle = h.middle ++ h.back;
  back = more;
  whole = w ∙ ap (λ z. z ++ more) h.whole ∙ append_assoc h.front (h.middle ++ h.back) more;
  chosen = h.chosen;
  factors = flushed_factors depth h.middle h.back s.factors s.last h.factors h.last;
  last = a;
}

repeated_stage : (depth : ℕ) (seen : List Token) (s : Stage) (sign : Repetition) (atom : Form) →
    IsStage depth seen s → s.last ≡ Some atom →
    IsStage depth (seen ++ Repeat sign ∷ [])
    (stage s.choices (s.factors ++ repeated sign atom ∷ []) None)
repeated_stage depth seen s sign atom h e =
    let last : IsAtom depth h.back atom = subst (IsLast depth h.back) e h.last in
    record {
      front = h.front;
      middle = h.middle ++ (h.back ++ Repeat sign ∷ []);
      back = [];
      whole = ap (λ z. z ++ Repeat sign ∷ []) h.whole
          ∙ append_assoc h.front (h.middle ++ h.back) (Repeat sign ∷ [])
          ∙ ap (λ z. h.front ++ z) (append_assoc h.middle h.back (Repeat sign ∷ [])
          ∙ sym (append-nil (h.middle ++ (h.back ++ Repeat sign ∷ []))));
      chosen = h.chosen;
      factors = inr (factors_then depth h.middle (h.back ++ Repeat sign ∷ [])
          (h.middle ++ (h.back ++ Repeat sign ∷ [])) s.factors (s.factors ++ repeated sign atom
          ∷ []) (repeated sign atom) h.factors (more_often sign last refl refl) refl refl);
      last = refl;
    }

not_nil : {X : Type 0} (xs : List X) → is_nil xs ≡ false → xs ≡ [] → ⊥
not_nil xs h e = false≢true (sym h ∙ ap is_nil e)

some_same : {A : Type 0} (x y : A) → Some x ≡ Some y → x ≡ y
some_same x y e = cc

choice_of : (depth : ℕ) (front rest seen : List Token) (choices factors : List Form) →
    AreChosen depth front choices → AreFactors depth rest factors → is_nil factors ≡ false →
    seen ≡ front ++ rest → IsChoice depth seen (choices ++ sequence (forms_of factors) ∷ [])
choice_of depth front rest seen choices factors c (inl f) n w = absurd (not_nil factors n f.1)
choice_of depth front rest seen choices factors (inl c) (inr f) n w =
    lone (subst (λ z. IsSequence depth z factors) (sym (w ∙ ap (λ z. z ++ rest) c.0)) f)
    (ap (λ z. z ++ sequence (forms_of factors) ∷ []) c.1)
choice_of depth front rest seen choices factors (inr c) (inr f) n w =
    with_sequence c.2 f (w ∙ ap (λ z. z ++ rest) c.1 ∙ append_assoc c.0 (Bar ∷ []) rest) refl

-- what the closed stage is
closed_stage : (depth : ℕ) (seen : List Token) (s : Stage) (choices : List Form) →
    IsStage depth seen s → closed s ≡ Some choices → IsChoice depth seen choices
closed_stage depth seen s choices h e =
    let q = none_else (is_nil (flushed s))
    (Some (s.choices ++ sequence (forms_of (flushed s)) ∷ [])) choices e in
    subst (IsChoice depth seen)
    (some_same (s.choices ++ sequence (forms_of (flushed s)) ∷ []) choices q.1)
    (choice_of depth h.front (h.middle ++ h.back) seen s.choices (flushed s) h.chosen
    (flushed_factors depth h.middle h.back s.factors s.last h.factors h.last) q.0 h.whole)

-- another stage in the place of the innermost one
replaced : (seen all more : List Token) (top new : Stage) (below : List Stage) →
    all ≡ seen ++ more → ((inner : List Token) → IsStage (length below) inner top →
    IsStage (length below) (inner ++ more) new) → IsStacked seen top below → IsStacked all new below
replaced seen all more top new [] w f (bottom h) =
    bottom (subst (λ z. IsStage 0 z new) (sym w) (f seen h))
replaced seen all more top new (outer ∷ below) w f
    (above {inner = inner} {before = before} k lt h e) =
    above k lt (f inner h) (w ∙ ap (λ z. z ++ more) e ∙ append_assoc before (Open ∷ inner) more)

with_atom_stacked : (seen all more : List Token) (top : Stage) (below : List Stage) (atom : Form) →
    IsStacked seen top below → IsAtom (length below) more atom → all ≡ seen ++ more →
    IsStacked all (with_atom top atom) below
with_atom_stacked seen all more top below atom h a w =
    replaced seen all more top (with_atom top atom) below w
    (λ inner k. with_atom_stage (length below) inner more (inner ++ more) top atom k a refl) h

barred : (depth : ℕ) (seen : List Token) (s : Stage) (choices : List Form) →
    closed s ≡ Some choices → IsStage depth seen s →
    IsStage depth (seen ++ Bar ∷ []) (stage choices [] None)
barred depth seen s choices e h = record {
  front = seen ++ Bar ∷ [];
  middle = [];
  back = [];
  whole = sym (append-nil (seen ++ Bar ∷ []));
  chosen = inr (seen, refl, closed_stage depth seen s choices h e);
  factors = inl (refl, refl);
  last = refl;
}

grouped : (seen : List Token) (top : Stage) (below : List Stage) (choices : List Form) (t : Stack) →
    IsStacked seen top below → closed top ≡ Some choices → close_step below (Some choices) ≡ Some t
    → IsSeen (seen ++ Close ∷ []) t
grouped seen top [] choices t h c e = let no : ⊥ = cc in absurd no
grouped seen top (outer ∷ below) choices t (above {inner = inner} {before = before} k lt h w) c e =
    let atom : IsAtom (length below) (Open ∷ inner ++ Close ∷ []) (either (forms_of choices)) =
    group lt (closed_stage (suc (length below)) inner top choices h c) refl refl in
    let whole : seen ++ Close ∷ [] ≡ before ++ (Open ∷ inner ++ Close ∷ []) =
    ap (λ z. z ++ Close ∷ []) w ∙ append_assoc before (Open ∷ inner) (Close ∷ []) in
    subst (IsSeen (seen ++ Close ∷ []))
    (some_same (stack (with_atom outer (either (forms_of choices))) below) t e)
    (with_atom_stacked before (seen ++ Close ∷ []) (Open ∷ inner ++ Close ∷ []) outer below
    (either (forms_of choices)) k atom whole)

closes : (seen : List Token) (top : Stage) (below : List Stage) (o : Option (List Form)) (t : Stack)
    → IsStacked seen top below → closed top ≡ o → close_step below o ≡ Some t →
    IsSeen (seen ++ Close ∷ []) t
closes seen top [] None t h c e = let no : ⊥ = cc in absurd no
closes seen top (outer ∷ below) None t h c e = let no : ⊥ = cc in absurd no
closes seen top below (Some choices) t h c e = grouped seen top below choices t h c e

bars : (seen : List Token) (top : Stage) (below : List Stage) (o : Option (List Form)) (t : Stack) →
    IsStacked seen top below → closed top ≡ o → bar_step below o ≡ Some t →
    IsSeen (seen ++ Bar ∷ []) t
bars seen top below None t h c e = let no : ⊥ = cc in absurd no
bars seen top below (Some choices) t h c e =
    subst (IsSeen (seen ++ Bar ∷ [])) (some_same (stack (stage choices [] None) below) t e)
    (replaced seen (seen ++ Bar ∷ []) (Bar ∷ []) top (stage choices [] None) below refl
    (λ inner k. barred (length below) inner top choices c k) h)

repeats : (seen : List Token) (top : Stage) (below : List Stage) (sign : Repetition)
    (o : Option Form) (t : Stack) → IsStacked seen top below → top.last ≡ o →
    repeat_step top below sign o ≡ Some t → IsSeen (seen ++ Repeat sign ∷ []) t
repeats seen top below sign None t h c e = let no : ⊥ = cc in absurd no
repeats seen top below sign (Some atom) t h c e =
    subst (IsSeen (seen ++ Repeat sign ∷ []))
    (some_same (stack (stage top.choices (top.factors ++ repeated sign atom ∷ [])
    None) below) t e)
    (replaced seen (seen ++ Repeat sign ∷ []) (Repeat sign ∷ []) top
    (stage top.choices (top.factors ++ repeated sign atom ∷ []) None) below refl
    (λ inner k. repeated_stage (length below) inner top sign atom k c) h)

fresh : (depth : ℕ) → IsStage depth [] (stage [] [] None)
fresh depth = record {
  front = [];
  middle = [];
  back = [];
  whole = refl;
  chosen =
      inl (refl, refl);
  factors = inl (refl, refl);
  last = refl;
}

stack_keeps : (seen : List Token) (s : Stack) (token : Token) (t : Stack) → IsSeen seen s →
    stack_step s token ≡ Some t → IsSeen (seen ++ token ∷ []) t
stack_keeps seen s (Character c) t h e =
    subst (IsSeen (seen ++ Character c ∷ []))
    (some_same (stack (with_atom s.top (one (symbol_of c))) s.below) t e)
    (with_atom_stacked seen (seen ++ Character c ∷ []) (Character c ∷ []) s.top s.below
    (one (symbol_of c)) h (character c refl refl) refl)
stack_keeps seen s (Class ranges) t h e =
    subst (IsSeen (seen ++ Class ranges ∷ []))
    (some_same (stack (with_atom s.top (class ranges)) s.below) t e)
    (with_atom_stacked seen (seen ++ Class ranges ∷ []) (Class ranges ∷ []) s.top s.below
    (class ranges) h (of_class ranges refl refl) refl)
stack_keeps seen s Open t h e =
    let q = else_none (nat_lt (length s.below) 200)
    (Some (stack (stage [] [] None) (s.top ∷ s.below))) t e in
    subst (IsSeen (seen ++ Open ∷ []))
    (some_same (stack (stage [] [] None) (s.top ∷ s.below)) t q.1)
    (above h (ltb-true (length s.below) 200 q.0) (fresh (suc (length s.below))) refl)
stack_keeps seen s Close t h e = closes seen s.top s.below (closed s.top) t h refl e
stack_keeps seen s Bar t h e = bars seen s.top s.below (closed s.top) t h refl e
stack_keeps seen s (Repeat sign) t h e = repeats seen s.top s.below sign s.top.last t h refl e

at_bottom : (seen : List Token) (top : Stage) (below : List Stage) (choices : List Form) →
    IsStacked seen top below → (if is_nil below then closed top else None) ≡ Some choices →
    IsChoice 0 seen choices
at_bottom seen top [] choices (bottom h) e = closed_stage 0 seen top choices h e
at_bottom seen top (outer ∷ below) choices h e = let no : ⊥ = cc in absurd no

-- the choices that are read are those of the grammar
pub choices-sound : (tokens : List Token) (choices : List Form) → choices_of tokens ≡ Some choices →
    IsChoice 0 tokens choices
unfolding choices_of
choices-sound tokens choices e =
    let f : CameFrom (run stack_step (Some (stack (stage [] [] None) [])) tokens) stack_end
    choices = came_from (run stack_step (Some (stack (stage [] [] None) [])) tokens)
    stack_end choices e in
    at_bottom tokens f.value.top f.value.below choices
    (run_keeps stack_step IsSeen stack_keeps (stack (stage [] [] None) []) f.value tokens
    (bottom (fresh 0)) f.was) f.gave

-- The other way round: what is read on from a stage, and the factors that it then has.
record IsReadOn (top : Stage) (below : List Stage) (tokens : List Token)
    (factors : List Form) : Type 0 where
  after : Stage
  reads : run stack_step (Some (stack top below)) tokens ≡ Some (stack after below)
  choices : after.choices ≡ top.choices
  flushes : flushed after ≡ factors

-- and the choices
record IsReadAs (top : Stage) (below : List Stage) (tokens : List Token)
    (choices : List Form) : Type 0 where
  after : Stage
  reads : run stack_step (Some (stack top below)) tokens ≡ Some (stack after below)
  closes : closed after ≡ Some choices

nil_behind : {X : Type 0} (xs : List X) (x : X) → is_nil (xs ++ x ∷ []) ≡ false
nil_behind [] x = refl
nil_behind (y ∷ ys) x = refl

some_factors : (depth : ℕ) (tokens : List Token) (factors : List Form) →
    IsSequence depth tokens factors → is_nil factors ≡ false
some_factors depth tokens factors (only f e) = ap is_nil e
some_factors depth tokens factors (with_factor {before = before} {e = e} h f w a) =
    ap is_nil a ∙ nil_behind before e

closed_as : (s : Stage) (choices factors : List Form) → s.choices ≡ choices → flushed s ≡ factors →
    is_nil factors ≡ false → closed s ≡ Some (choices ++ sequence (forms_of factors) ∷ [])
closed_as s choices factors e f n =
    left_out (is_nil (flushed s)) None (Some (s.choices ++ sequence (forms_of (flushed s)) ∷ []))
    (ap is_nil f ∙ n)
    ∙ ap (λ z. Some (z ++ sequence (forms_of (flushed s)) ∷ [])) e
    ∙ ap (λ z. Some (choices ++ sequence (forms_of z) ∷ [])) f

mutual
  reads_atom : (top : Stage) (below : List Stage) (tokens : List Token) (atom : Form) (depth : ℕ) →
      IsAtom depth tokens atom → depth ≡ length below →
      run stack_step (Some (stack top below)) tokens ≡ Some (stack (with_atom top atom) below)
  reads_atom top below tokens atom depth (character c w e) d =
      ap (run stack_step (Some (stack top below))) w
      ∙ ap (λ z. Some (stack (with_atom top z) below)) (sym e)
  reads_atom top below tokens atom depth (of_class ranges w e) d =
      ap (run stack_step (Some (stack top below))) w
      ∙ ap (λ z. Some (stack (with_atom top z) below)) (sym e)
  reads_atom top below tokens atom depth (group {inner = inner} {es = es} lt h w e) d =
      let opened : stack_step (stack top below) Open
      ≡ Some (stack (stage [] [] None) (top ∷ below)) =
      taken (nat_lt (length below) 200) (Some (stack (stage [] [] None) (top ∷ below))) None
      (lt-ltb (length below) 200 (subst (λ z. z < 200) d lt)) in
      let a : IsReadAs (stage [] [] None) (top ∷ below) inner es =
      reads_choice (stage [] [] None) (top ∷ below) inner es (suc depth) h
      (ap suc d) refl refl in
      let closing : stack_step (stack a.after (top ∷ below)) Close
      ≡ Some (stack (with_atom top (either (forms_of es))) below) =
      ap (close_step (top ∷ below)) a.closes in
      ap (run stack_step (Some (stack top below))) w
      ∙ ap (λ z. run stack_step z (inner ++ Close ∷ [])) opened
      ∙ run_then stack_step (Some (stack (stage [] [] None) (top ∷ below)))
      (Some (stack a.after (top ∷ below)))
      (Some (stack (with_atom top (either (forms_of es))) below)) inner (Close ∷ [])
      (inner ++ Close ∷ []) a.reads closing refl
      ∙ ap (λ z. Some (stack (with_atom top z) below)) (sym e)

  reads_factor : (top : Stage) (below : List Stage) (tokens : List Token) (factor : Form)
      (depth : ℕ) → IsFactor depth tokens factor → depth ≡ length below →
      IsReadOn top below tokens (flushed top ++ factor ∷ [])
  reads_factor top below tokens factor depth (once a) d =
      record {
        after = with_atom top factor;
        reads = reads_atom top below tokens factor depth a d;
        choices = refl;
        flushes = refl;
      }
  reads_factor top below tokens factor depth
      (more_often {atom = front} {a = atom} sign a w e) d = record {
        after = stage top.choices (flushed top ++ repeated sign atom ∷ []) None;
        reads = run_then stack_step (Some (stack top below))
            (Some (stack (with_atom top atom) below))
            (Some (stack (stage top.choices (flushed top ++ repeated sign atom ∷ []) None)
            below)) front
            (Repeat sign ∷ []) tokens (reads_atom top below front atom depth a d) refl w;
        choices = refl;
        flushes = append-nil (flushed top ++ repeated sign atom ∷ [])
            ∙ ap (λ z. flushed top ++ z ∷ []) (sym e);
      }

  reads_sequence : (top : Stage) (below : List Stage) (tokens : List Token) (factors : List Form)
      (depth : ℕ) → IsSequence depth tokens factors → depth ≡ length below → flushed top ≡ [] →
      IsReadOn top below tokens factors
  reads_sequence top below tokens factors depth (only {e = e} f a) d n =
      let r : IsReadOn top below tokens (flushed top ++ e ∷ []) =
      reads_factor top below tokens e depth f d in
      record {
        after = r.after;
        reads = r.reads;
        choices = r.choices;
        flushes =
            r.flushes ∙ ap (λ z. z ++ e ∷ []) n ∙ sym a;
      }
  reads_sequence top below tokens factors depth
      (with_factor {front = front} {back = back} {before = before} {e = e} h f w a) d n =
      let r : IsReadOn top below front before = reads_sequence top below front before depth h d n in
      let q : IsReadOn r.after below back (flushed r.after ++ e ∷ []) =
      reads_factor r.after below back e depth f d in
      record {
        after = q.after;
        reads = run_then stack_step (Some (stack top below)) (Some (stack r.after below))
            (Some (stack q.after below)) front back tokens r.reads q.reads w;
        choices = q.choices ∙ r.choices;
        flushes = q.flushes ∙ ap (λ z. z ++ e ∷ []) r.flushes ∙ sym a;
      }

  reads_choice : (top : Stage) (below : List Stage) (tokens : List Token) (choices : List Form)
      (depth : ℕ) → IsChoice depth tokens choices → depth ≡ length below → top.choices ≡ [] →
      flushed top ≡ [] → IsReadAs top below tokens choices
  reads_choice top below tokens choices depth (lone {factors = factors} h a) d n k =
      let r : IsReadOn top below tokens factors =
      reads_sequence top below tokens factors depth h d k in
      record {
        after = r.after;
        reads = r.reads;
        closes =
            closed_as r.after [] factors (r.choices ∙ n) r.flushes
            (some_factors depth tokens factors h) ∙ ap Some (sym a);
      }
  reads_choice top below tokens choices depth
      (with_sequence {front = front} {back = back} {before = before} {factors = factors} c
      h w a) d n k =
      let r : IsReadAs top below front before = reads_choice top below front before depth c d n k in
      let q : IsReadOn (stage before [] None) below back factors =
      reads_sequence (stage before [] None) below back factors depth h d refl in
      let bar : stack_step (stack r.after below) Bar ≡ Some (stack (stage before [] None) below) =
      ap (bar_step below) r.closes in
      record {
        after = q.after;
        reads = run_then stack_step (Some (stack top below)) (Some (stack r.after below))
            (Some (stack q.after below)) front (Bar ∷ back) tokens r.reads
            (ap (λ z. run stack_step z back) bar ∙ q.reads) w;
        closes = closed_as q.after before factors q.choices q.flushes
            (some_factors depth back factors h) ∙ ap Some (sym a);
      }

-- and the choices of the grammar are read
pub choices-complete : (tokens : List Token) (choices : List Form) → IsChoice 0 tokens choices →
    choices_of tokens ≡ Some choices
unfolding choices_of
choices-complete tokens choices h =
    let r : IsReadAs (stage [] [] None) [] tokens choices =
    reads_choice (stage [] [] None) [] tokens choices 0 h refl refl refl in
    goes_on (run stack_step (Some (stack (stage [] [] None) [])) tokens) stack_end
    (stack r.after []) (Some choices) r.reads r.closes
