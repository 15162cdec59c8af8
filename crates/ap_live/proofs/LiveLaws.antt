-- What a live set says, in the words of accepted label lists.
use Rattle.std.proofs.Common.{◌≡◌, ◌⊎◌, inl, inr, ℕ, ◌<◌, ◌≤◌, zero, suc, Bool, true, false, List, [], ◌∷◌, ◌++◌, map, length, take, refl, sym, ◌∙◌, ap, subst, append_assoc, append-nil, arith, Option, Some, None, slice_get}
use Rattle.std.specs.Prelude.{◌↔◌, reverse, IsTrue}
use Rattle.std.specs.Option.{option_to_list}
use Rattle.std.proofs.lemmas.Bool.{and_parts, cases_lt}
use Rattle.std.proofs.lemmas.List.{reverse-reverse}
use Rattle.std.proofs.lemmas.Option.{none-some}
use Rattle.ap_symbol.specs.Fitting.{fits_lem}
use Rattle.ap_symbol.specs.declared.symbol.Symbol.{Symbol}
use Rattle.ap_fst.specs.Lists.{IsIn}
use Rattle.ap_fst.specs.Machines.{Machine, IsMachine}
use Rattle.ap_fst.specs.Walks.{Walk, ends, goes}
use Rattle.ap_fst.specs.Sides.{left_word, right_word}
use Rattle.ap_fst.specs.Trimming.{IsTrimmed, IsReached, IsFinishing}
use Rattle.ap_fst.specs.declared.label.Label.{Label}
use Rattle.ap_fst.specs.declared.label.Edge.{Edge}
use Rattle.ap_fst.proofs.Listing.{in_map, in_mapped, IsImage}
use Rattle.ap_fst.proofs.WalkLaws.{walk_then}
use Rattle.ap_fst.proofs.SilenceLaws.{left_word_then}
use Rattle.ap_live.specs.Fitting.{Input, fits_inputs, fits_side, is_empty_side}
use Rattle.ap_live.specs.Outlines.{IsOutline}
use Rattle.ap_live.specs.Spreads.{Picked}
use Rattle.ap_live.specs.Lives.{IsBefore, IsHeld, IsHeldBy, IsLive, Lives}
use Rattle.ap_live.specs.Rows.{Reach, begin, silent, taken, AreLiveRows}
use Rattle.ap_live.specs.Tails.{AreBacks}
use Rattle.ap_live.specs.Outputs.{IsOutput, FitBeginning}
use Rattle.ap_live.specs.declared.outline.Outline.{Outline}
use Rattle.ap_live.specs.declared.rows.Row.{Row}
use Rattle.ap_live.specs.declared.ways.Ways.{Ways}
use Rattle.ap_live.specs.Trails.{IsTrail, Trails}
use Rattle.ap_live.proofs.Spreading.{both_true, to_in}
use Rattle.ap_live.proofs.RowLaws.{take_taken}
use Rattle.ap_live.proofs.OutputLaws.{output_from_tail, tail_from_output}

-- ---- from a state that is reached on to a final one

-- a walk from the start whose left word fits the inputs
record IsTrace (edges : List Edge) (seen : List Input) (s : ℕ) : Type 0 where
  labels : List Label
  walk : Walk edges 0 labels s
  fit : fits_inputs (left_word labels) seen ≡ true

fits_more : (xs : List Symbol) (x : Symbol) (seen : List Input) (i : Input) →
    fits_inputs xs seen ≡ true → fits_lem i.sensitive x i.symbol ≡ true →
    fits_inputs (xs ++ x ∷ []) (seen ++ i ∷ []) ≡ true
fits_more [] x [] i h k = both_true (fits_lem i.sensitive x i.symbol) true k refl
fits_more [] x (j ∷ seen) i h k = cc
fits_more (y ∷ xs) x [] i h k = cc
fits_more (y ∷ xs) x (j ∷ seen) i h k =
    let p = and_parts (fits_lem j.sensitive y j.symbol) (fits_inputs xs seen) h in
    both_true (fits_lem j.sensitive y j.symbol) (fits_inputs (xs ++ x ∷ []) (seen ++ i ∷ [])) p.0
    (fits_more xs x seen i p.1 k)

silent_word : (labels : List Label) (l : Label) (left : Option Symbol) → l.left ≡ left →
    is_empty_side left ≡ true → left_word (labels ++ l ∷ []) ≡ left_word labels
silent_word labels l (Some x) e h = cc
silent_word labels l None e h = left_word_then labels (l ∷ [])
    ∙ ap (λ (o : Option Symbol). left_word labels ++ (option_to_list o ++ [])) e
    ∙ append-nil (left_word labels)

taken_fit : (labels : List Label) (l : Label) (left : Option Symbol) (seen : List Input) (i : Input)
    → l.left ≡ left → fits_side i left ≡ true → fits_inputs (left_word labels) seen ≡ true →
    fits_inputs (left_word (labels ++ l ∷ [])) (seen ++ i ∷ []) ≡ true
taken_fit labels l None seen i e h k = cc
taken_fit labels l (Some x) seen i e h k =
    let w : left_word (labels ++ l ∷ []) ≡ left_word labels ++ x ∷ [] =
    left_word_then labels (l ∷ [])
    ∙ ap (λ (o : Option Symbol). left_word labels ++ (option_to_list o ++ [])) e in
    ap (λ (z : List Symbol). fits_inputs z (seen ++ i ∷ [])) w
    ∙ fits_more (left_word labels) x seen i k h

step_on : (edges : List Edge) (f s j : ℕ) (labels : List Label) (e : Edge) →
    slice_get edges j ≡ Some e → f ≡ e.from → s ≡ e.to → Walk edges 0 labels f →
    Walk edges 0 (labels ++ e.label ∷ []) s
step_on edges f s j labels e at from to walk =
    walk_then edges 0 f s labels (e.label ∷ []) walk (goes j e at from refl (ends (sym to)))

trace : (edges : List Edge) (seen : List Input) (s : ℕ) → Reach edges seen s → IsTrace edges seen s
trace edges seen s (begin e z) =
    record { labels = []; walk = ends (sym z); fit = ap (fits_inputs []) e }
trace edges seen s (silent f j p more) =
    let t : IsTrace edges seen f = trace edges seen f more in
    record {
      labels = t.labels ++ p.edge.label ∷ [];
      walk = step_on edges f s j t.labels p.edge p.at p.from_is p.to_is t.walk;
      fit = ap (λ (z : List Symbol). fits_inputs z seen)
          (silent_word t.labels p.edge.label p.edge.label.left refl p.passes) ∙ t.fit;
    }
trace edges seen s (taken before input f j p e more) =
    let t : IsTrace edges before f = trace edges before f more in
    record {
      labels = t.labels ++ p.edge.label ∷ [];
      walk = step_on edges f s j t.labels p.edge p.at p.from_is p.to_is t.walk;
      fit = ap (fits_inputs (left_word (t.labels ++ p.edge.label ∷ []))) e
          ∙ taken_fit t.labels p.edge.label p.edge.label.left before input refl p.passes t.fit;
    }

fits_take : (xs ys : List Symbol) (seen : List Input) → fits_inputs xs seen ≡ true →
    fits_inputs (take (length seen) (xs ++ ys)) seen ≡ true
fits_take [] [] [] h = refl
fits_take [] (y ∷ ys) [] h = refl
fits_take [] ys (i ∷ seen) h = cc
fits_take (x ∷ xs) ys [] h = cc
fits_take (x ∷ xs) ys (i ∷ seen) h =
    let p = and_parts (fits_lem i.sensitive x i.symbol) (fits_inputs xs seen) h in
    both_true (fits_lem i.sensitive x i.symbol) (fits_inputs (take (length seen) (xs ++ ys)) seen)
    p.0 (fits_take xs ys seen p.1)

start_finishing : (m : Machine) (finals : List ℕ) → IsMachine m → IsTrimmed m → m.finals ≡ finals →
    (m.finals ≡ [] → ⊥) → IsFinishing m 0
start_finishing m [] ok trimmed e some = absurd (some e)
start_finishing m (x ∷ xs) ok trimmed e some =
    let i : IsIn x m.finals = subst (λ (z : List ℕ). IsIn x z) (sym e) (inl refl) in
    elim (cases_lt 0 x) [
      | inl pos ↦ let r : IsReached m x = trimmed.reached x pos (ok.finals_in x i) in
          record { labels = r.labels; last = x; final = i; walk = r.walk }
      | inr low ↦ record {
        labels = [];
        last = x;
        final = i;
        walk =
            ends (let z : 0 ≡ x = omega arith in z);
      }
    ]

finishing_at : (m : Machine) (s : ℕ) → IsMachine m → IsTrimmed m → (m.finals ≡ [] → ⊥) →
    s < m.states → IsFinishing m s
finishing_at m s ok trimmed some lt =
    elim (cases_lt 0 s) [
      | inl pos ↦ trimmed.finishing s pos lt
      | inr low ↦ subst (λ (z : ℕ). IsFinishing m z) (let z : 0 ≡ s = omega arith in z)
          (start_finishing m m.finals ok trimmed refl some)
    ]

reach_below : (m : Machine) (seen : List Input) (s : ℕ) → IsMachine m →
    Reach m.edges seen s → s < m.states
reach_below m seen s ok (begin e z) = let h : 0 < m.states = ok.some in omega arith
reach_below m seen s ok (silent f j p more) = let h : p.edge.to < m.states =
    to_in m ok j p.edge p.at in let q : s ≡ p.edge.to = p.to_is in omega arith
reach_below m seen s ok (taken before input f j p e more) = let h : p.edge.to < m.states =
    to_in m ok j p.edge p.at in let q : s ≡ p.edge.to = p.to_is in omega arith

pub beginning : (m : Machine) (seen : List Input) (s : ℕ) → IsMachine m → IsTrimmed m →
    (m.finals ≡ [] → ⊥) → Reach m.edges seen s → FitBeginning m seen
beginning m seen s ok trimmed some reach =
    let t : IsTrace m.edges seen s = trace m.edges seen s reach in
    let f : IsFinishing m s = finishing_at m s ok trimmed some (reach_below m seen s ok reach) in
    record {
      labels = t.labels ++ f.labels;
      accepted = record {
        last = f.last;
        final = f.final;
        walk =
            walk_then m.edges 0 s f.last t.labels f.labels t.walk f.walk;
      };
      fit = ap (λ (z : List Symbol). fits_inputs (take (length seen) z) seen)
          (left_word_then t.labels f.labels)
          ∙ fits_take (left_word t.labels) (left_word f.labels) seen t.fit;
    }

-- ---- and back from accepted labels

reach_step : (edges : List Edge) (before later : List Input) (s j : ℕ) (e : Edge)
    (labels : List Label) (left : Option Symbol) → slice_get edges j ≡ Some e → s ≡ e.from →
    e.label.left ≡ left → Reach edges before s
    → fits_inputs (take (length later) (option_to_list left ++ left_word labels)) later ≡ true
    → ((b l : List Input) → Reach edges b e.to → fits_inputs (take (length l) (left_word labels)) l
    ≡ true → (t : ℕ) × Reach edges (b ++ l) t) → (t : ℕ) × Reach edges (before ++ later) t
reach_step edges before later s j e labels None at from is reach fit go =
    let p : Picked edges None s e.to j =
    record { edge = e; at = at; from_is = from; to_is = refl; passes = ap is_empty_side is } in
    go before later (silent s j p reach) fit
reach_step edges before [] s j e labels (Some x) at from is reach fit go =
    (s, subst (λ (z : List Input). Reach edges z s) (sym (append-nil before)) reach)
reach_step edges before (i ∷ more) s j e labels (Some x) at from is reach fit go =
    let both = and_parts (fits_lem i.sensitive x i.symbol)
    (fits_inputs (take (length more) (left_word labels)) more) fit in
    let p : Picked edges (Some i) s e.to j =
    record {
      edge = e;
      at = at;
      from_is = from;
      to_is = refl;
      passes =
          ap (fits_side i) is ∙ both.0;
    } in
    let (t, r) = go (before ++ i ∷ []) more (taken before i s j p refl reach) both.1 in
    (t, subst (λ (z : List Input). Reach edges z t) (append_assoc before (i ∷ []) more) r)

reached_on : (edges : List Edge) (before later : List Input) (s last : ℕ) (labels : List Label) →
    Walk edges s labels last → Reach edges before s →
    fits_inputs (take (length later) (left_word labels)) later ≡ true
    → (t : ℕ) × Reach edges (before ++ later) t
reached_on edges before [] s last labels (ends e) reach fit =
    (s, subst (λ (z : List Input). Reach edges z s) (sym (append-nil before)) reach)
reached_on edges before (i ∷ later) s last labels (ends e) reach fit = cc
reached_on edges before later s last whole (goes {labels = labels} j e at from is walk) reach fit =
    reach_step edges before later s j e labels e.label.left at from refl reach
    (ap (λ (z : List Label). fits_inputs (take (length later) (left_word z)) later)
    (sym is) ∙ fit)
    (λ b l r h. reached_on edges b l e.to last labels walk r h)

-- ---- and at the end of accepted labels

arrive_step : (edges : List Edge) (before later : List Input) (s last j : ℕ) (e : Edge)
    (labels : List Label) (left : Option Symbol) → slice_get edges j ≡ Some e → s ≡ e.from →
    e.label.left ≡ left → Reach edges before s
    → fits_inputs (option_to_list left ++ left_word labels) later ≡ true →
    ((b l : List Input) → Reach edges b e.to → fits_inputs (left_word labels) l ≡ true →
    Reach edges (b ++ l) last) → Reach edges (before ++ later) last
arrive_step edges before later s last j e labels None at from is reach fit go =
    let p : Picked edges None s e.to j =
    record { edge = e; at = at; from_is = from; to_is = refl; passes = ap is_empty_side is } in
    go before later (silent s j p reach) fit
arrive_step edges before [] s last j e labels (Some x) at from is reach fit go = cc
arrive_step edges before (i ∷ more) s last j e labels (Some x) at from is reach fit go =
    let both = and_parts (fits_lem i.sensitive x i.symbol)
    (fits_inputs (left_word labels) more) fit in
    let p : Picked edges (Some i) s e.to j =
    record {
      edge = e;
      at = at;
      from_is = from;
      to_is = refl;
      passes =
          ap (fits_side i) is ∙ both.0;
    } in
    subst (λ (z : List Input). Reach edges z last) (append_assoc before (i ∷ []) more)
    (go (before ++ i ∷ []) more (taken before i s j p refl reach) both.1)

arrive : (edges : List Edge) (before later : List Input) (s last : ℕ) (labels : List Label) →
    Walk edges s labels last → Reach edges before s → fits_inputs (left_word labels) later ≡ true →
    Reach edges (before ++ later) last
arrive edges before [] s last labels (ends e) reach fit =
    subst (λ (z : List Input). Reach edges z last) (sym (append-nil before))
    (subst (λ (z : ℕ). Reach edges before z) e reach)
arrive edges before (i ∷ later) s last labels (ends e) reach fit = cc
arrive edges before later s last whole (goes {labels = labels} j e at from is walk) reach fit =
    arrive_step edges before later s last j e labels e.label.left at from refl reach
    (ap (λ (z : List Label). fits_inputs (left_word z) later) (sym is) ∙ fit)
    (λ b l r h. arrive edges b l e.to last labels walk r h)

-- The inputs that fit a beginning lead to a state, and so do those that have an output.
pub beginning_reaches : (m : Machine) (seen : List Input) → FitBeginning m seen →
    (s : ℕ) × Reach m.edges seen s
beginning_reaches m seen b =
    reached_on m.edges [] seen 0 b.accepted.last b.labels b.accepted.walk (begin refl refl) b.fit

pub output_reaches : (m : Machine) (seen : List Input) (output : List Symbol) →
    (o : IsOutput m seen output) → Reach m.edges seen o.accepted.last
output_reaches m seen output o =
    arrive m.edges [] seen 0 o.accepted.last o.labels o.accepted.walk (begin refl refl) o.fit

-- ---- the calls

pub accepts_law : (m : Machine) (seen : List Input) (answer : Bool) →
    IsTrue answer ↔ ((t : ℕ) × (Reach m.edges seen t × IsIn t m.finals)) →
    IsTrue answer ↔ ((output : List Symbol) × IsOutput m seen output)
accepts_law m seen answer k = (
  (λ t. let (s, (reach, final)) = k.0 t in
      let w : IsTrace m.edges seen s = trace m.edges seen s reach in (
        right_word w.labels,
        record {
          labels = w.labels;
          accepted =
              record { last = s; final = final; walk = w.walk };
          fit = w.fit;
          is = refl;
        },
      )),
  (λ (output, o). k.1 (
    o.accepted.last,
    (
      arrive m.edges [] seen 0 o.accepted.last o.labels o.accepted.walk (begin refl refl)
          o.fit,
      o.accepted.final,
    ),
  )),
)

pub dead_law : (m : Machine) (seen : List Input) (l : Lives) (void none : Bool) → IsMachine m →
    IsTrimmed m → IsLive m seen l → void ≡ l.is_void → void ≡ false →
    IsTrue none ↔ ((t : ℕ) → Reach m.edges seen t → ⊥) → IsTrue none ↔ (FitBeginning m seen → ⊥)
dead_law m seen l void none ok trimmed live v not_void k =
    let some : m.finals ≡ [] → ⊥ = λ e. let t : l.is_void ≡ true = live.void_is.1 e in cc in (
      (λ t b. let (s, reach) = beginning_reaches m seen b in k.0 t s reach),
      (λ f. k.1 (λ s reach. f (beginning m seen s ok trimmed some reach))),
    )

pub outputs_law : (m : Machine) (seen : List Input) (backs words : List (List Symbol)) →
    AreBacks m seen backs → ((w : List Symbol) → IsIn w words ↔ IsIn w (map reverse backs)) →
    (output : List Symbol) → IsIn output words ↔ IsOutput m seen output
outputs_law m seen backs words are k output = (
  (λ i. let b : IsImage reverse output backs = in_mapped reverse output backs ((k output).0 i) in
      subst (λ (z : List Symbol). IsOutput m seen z) (sym b.image)
      (output_from_tail m seen b.source (are.sound b.source b.listed))),
  (λ o. (k output).1 (subst (λ (z : List Symbol). IsIn z (map reverse backs))
      (reverse-reverse output)
      (in_map reverse (reverse output) backs
      (are.complete (reverse output) (tail_from_output m seen output o))))),
)

-- what is reached, as it is seen
pub held_as : (m : Machine) (seen : List Input) (l : Lives) (ways : Ways) → ways ≡ l.ways →
    IsLive m seen l → IsHeld m seen ways
held_as m seen l ways e live = subst (λ (z : Ways). IsHeld m seen z) (sym e) live.held

pub outline_there : (m : Machine) (seen : List Input) (l : Lives) (outline : Outline) →
    outline ≡ l.outline → IsLive m seen l → IsOutline m.edges outline
outline_there m seen l outline e live =
    subst (λ (z : Outline). IsOutline m.edges z) (sym e) live.outline_is

pub same_members : (m : Machine) (seen : List Input) (words found : List (List Symbol)) →
    found ≡ words → ((w : List Symbol) → IsIn w words ↔ IsOutput m seen w) → (w : List Symbol) →
    IsIn w found ↔ IsOutput m seen w
same_members m seen words found e h w =
    subst (λ (z : List (List Symbol)). IsIn w z ↔ IsOutput m seen w) (sym e) (h w)

pub live_on : (m : Machine) (seen seen' : List Input) (l old new : Lives) → IsLive m seen l →
    old ≡ l → (IsHeld m seen old.ways → IsHeld m seen' new.ways) → new.outline ≡ old.outline →
    new.is_void ≡ old.is_void → IsLive m seen' new
live_on m seen seen' l old new live o h t v =
    let live' : IsLive m seen old = subst (λ (z : Lives). IsLive m seen z) (sym o) live in
    record {
      held = h live'.held;
      outline_is =
          subst (λ (z : Outline). IsOutline m.edges z) (sym t) live'.outline_is;
      void_is =
          subst (λ (z : Bool). IsTrue z ↔ (m.finals ≡ [])) (sym v) live'.void_is;
    }

-- ---- by either

by_rows_of : (m : Machine) (seen : List Input) (trail : Option Trails) (rows : List Row) →
    IsHeldBy m seen trail (Some rows) → AreLiveRows m seen rows × IsBefore m seen trail
by_rows_of m seen None rows held = held
by_rows_of m seen (Some trail) rows held = held

pub by_rows : (m : Machine) (seen : List Input) (w : Ways) (rows : List Row) → w.rows ≡ Some rows →
    IsHeld m seen w → AreLiveRows m seen rows × IsBefore m seen w.trail
by_rows m seen w rows e held = by_rows_of m seen w.trail rows
    (subst (λ (z : Option (List Row)). IsHeldBy m seen w.trail z) e held)

pub by_trail : (m : Machine) (seen : List Input) (w : Ways) (trail : Trails) → w.rows ≡ None →
    w.trail ≡ Some trail → IsHeld m seen w → IsTrail m.edges seen trail
by_trail m seen w trail none e held =
    subst (λ (z : Option Trails). IsHeldBy m seen z None) e
    (subst (λ (z : Option (List Row)). IsHeldBy m seen w.trail z) none held)

-- ---- back to fewer inputs

-- Back to the inputs of the trail, or of the nodes.
pub cut_back : (m : Machine) (seen : List Input) (len : ℕ) (trail : Option Trails)
    (rows : Option (List Row)) (new : Ways) →
    ((t : Trails) → trail ≡ Some t → (s : List Input) → IsTrail m.edges s t →
    IsHeld m (take len s) new) →
    (rows ≡ None) ⊎ (((t : Trails) → trail ≡ Some t → len ≤ length t.inputs)
    × (trail ≡ None → ⊥)) → IsHeldBy m seen trail rows → IsHeld m (take len seen) new
cut_back m seen len None None new f short held = elim held [ ]
cut_back m seen len (Some t) None new f short held = f t refl seen held
cut_back m seen len None (Some r) new f (inl e) held = absurd (none-some r (sym e))
cut_back m seen len None (Some r) new f (inr (few, some)) held = absurd (some refl)
cut_back m seen len (Some t) (Some r) new f (inl e) held = absurd (none-some r (sym e))
cut_back m seen len (Some t) (Some r) new f (inr (few, some)) held =
    subst (λ (z : List Input). IsHeld m z new)
    (take_taken seen (length t.inputs) len (few t refl))
    (f t refl (take (length t.inputs) seen) held.1.1)

long_enough : {X : Type 0} (xs : List X) (n len : ℕ) → n ≤ length xs → n ≤ len →
    n ≤ length (take len xs)
long_enough [] n len h k = omega arith
long_enough (x ∷ xs) n zero h k = omega arith
long_enough (x ∷ xs) zero (suc len) h k = omega arith
long_enough (x ∷ xs) (suc n) (suc len) h k =
    let l : n ≤ length (take len xs) = long_enough xs n len (omega arith) (omega arith) in
    omega arith

-- A trail of fewer inputs stays that of the first of them.
pub before_cut : (m : Machine) (seen : List Input) (len : ℕ) (trail : Option Trails) →
    ((t : Trails) → trail ≡ Some t → length t.inputs < len) → IsBefore m seen trail →
    IsBefore m (take len seen) trail
before_cut m seen len None few h = h
before_cut m seen len (Some t) few h =
    let less : length t.inputs < len = few t refl in (
      long_enough seen (length t.inputs) len h.0 (omega arith),
      subst (λ (z : List Input). IsTrail m.edges z t)
          (sym (take_taken seen len (length t.inputs) (omega arith))) h.1,
    )
