-- The edges and final states that are read make a transducer with plain labels.
use Rattle.std.proofs.Common.{◌≡◌, inl, inr, ℕ, suc, zero, ◌+◌, ◌<◌, ◌≤◌, Bool, true, false, not, nat_le, nat_lt, List, [], ◌∷◌, ◌++◌, length, refl, sym, ◌∙◌, ap, subst, arith, Option, Some, None, Result, Ok, Err, IfOk}
use Rattle.std.specs.Prelude.{IsTrue, if◌then◌else◌}
use Rattle.std.specs.Ordering.{nat_cmp, is_lt}
use Rattle.std.specs.declared.cmp.Ordering.{Ordering}
use Rattle.std.specs.declared.cmp.Ordering.TheVariants.{Less, Equal, Greater}
use Rattle.std.proofs.lemmas.Bool.{and_parts}
use Rattle.std.proofs.lemmas.Bool.Decides.{nat_tests}
use Rattle.ap_fst.specs.Lists.{IsIn, Ascends}
use Rattle.ap_fst.specs.Machines.{Machine, IsEdgeWithin}
use Rattle.ap_fst.specs.Order.{edge_cmp}
use Rattle.ap_fst.specs.Sections.{is_plain_label}
use Rattle.ap_fst.specs.declared.label.Edge.{Edge}
use Rattle.ap_fst.proofs.OrderLaws.{edge_total}
use Rattle.ap_fst.proofs.PlaceLaws.{cmp_less}
use Rattle.ap_binary.specs.Grammar.{IsRaw}
use Rattle.ap_binary.specs.Pieces.{edge_at, final_at}
use Rattle.ap_binary.specs.Lines.{◌>>=◌, fault, on_line, follows, is_within, judged_edge, edge_line, edges_in, with_edges, judged_final, final_line, finals_in, with_finals}
use Rattle.ap_binary.specs.declared.refusal.BinaryFault.{BinaryFault}
use Rattle.ap_binary.specs.declared.refusal.BinaryKind.TheVariants.{BadLine, OutOfRange}
use Rattle.ap_binary.proofs.Options.{some_holds}
use Rattle.ap_binary.proofs.Labels.{IsGoodLabel, edge_good}

-- ---- what holds of each value that is read

pub bind_ok : {A B : Type 0} (r : Result A BinaryFault) (f : A → Result B BinaryFault) (P : B →
    Type 0) → ((x : A) → r ≡ Ok x → IfOk (f x) P) → IfOk (◌>>=◌ {A = A} {B = B} r f) P
bind_ok (Err e) f P h = tt
bind_ok (Ok x) f P h = h x refl

abbrev unwrapped : {A : Type 0} → A → Result A BinaryFault → A
unwrapped d (Ok x) = x
unwrapped d (Err e) = d

pub same_Ok : {A : Type 0} (x y : A) → (let r : Result A BinaryFault = Ok x in r) ≡ Ok y → x ≡ y
same_Ok {A} x y e = ap (λ (r : Result A BinaryFault). unwrapped x r) e

pub ok_holds : {A : Type 0} (r : Result A BinaryFault) (x : A) (P : A → Type 0) → IfOk r P →
    r ≡ Ok x → P x
ok_holds (Ok y) x P h e = subst P (same_Ok y x e) h
ok_holds (Err f) x P h e = cc

pub on_line_some : {A : Type 0} (line : ℕ) (r : Option A) (x : A) →
    on_line line r ≡ Ok x → r ≡ Some x
on_line_some {A} line (Some y) x e = ap (λ (z : A). let o : Option A = Some z in o) (same_Ok y x e)
on_line_some line None x e = cc

pub if_ok : {A : Type 0} (r : Result A BinaryFault) (P : A → Type 0) →
    ((x : A) → r ≡ Ok x → P x) → IfOk r P
if_ok (Ok x) P h = h x refl
if_ok (Err e) P h = tt

record IsBoundOk {A B : Type 0} (r : Result A BinaryFault) (f : A → Result B BinaryFault)
    (y : B) : Type 0 where
  x : A
  is : r ≡ Ok x
  gives : f x ≡ Ok y

bound_ok : {A B : Type 0} (r : Result A BinaryFault) (f : A → Result B BinaryFault) (y : B) →
    ◌>>=◌ {A = A} {B = B} r f ≡ Ok y → IsBoundOk r f y
bound_ok (Ok x) f y h = record { x = x; is = refl; gives = h }
bound_ok (Err e) f y h = cc

unless_err : {A : Type 0} (b : Bool) (f : BinaryFault) (r : Result A BinaryFault) (x : A) →
    (if not b then Err f else r) ≡ Ok x → r ≡ Ok x
unless_err true f r x h = h
unless_err false f r x h = cc

or_else : {A : Type 0} (b : Bool) (x : A) (f : BinaryFault) (P : A → Type 0)
    (r : Result A BinaryFault) → (b ≡ true → IfOk r P) → IfOk (if not b then Err f else r) P
or_else true x f P r h = h refl
or_else false x f P r h = tt

-- ---- edges

pub record IsNextEdge (states : ℕ) (before : Option Edge) (e : Edge) : Type 0 where
  pub behind : follows before e ≡ true
  pub within : is_within states e ≡ true
  pub good : IsGoodLabel e.label

pub next_edge : (states line : ℕ) (before : Option Edge) (bytes : List ℕ) →
    IfOk (edge_line states before line bytes) (λ x. IsNextEdge states before x.0)
unfolding edge_line
next_edge states line before bytes =
    let P : Edge × List ℕ → Type 0 = λ x. IsNextEdge states before x.0 in
    bind_ok {A = Edge × List ℕ} {B = Edge × List ℕ} (on_line line (edge_at bytes))
    (judged_edge states before line) P
    (λ x is. let good : IsGoodLabel x.0.label =
    some_holds (edge_at bytes) x (λ y. IsGoodLabel y.0.label) (edge_good bytes)
    (on_line_some line (edge_at bytes) x is) in
    or_else (follows before x.0) x (fault BadLine line) P (if not (is_within states x.0)
    then Err (fault OutOfRange line) else Ok x)
    (λ b. or_else (is_within states x.0) x (fault OutOfRange line) P (Ok x)
    (λ w. record { behind = b; within = w; good = good })))

-- what is read is what stands on the line
pub judged_is : (states line : ℕ) (before : Option Edge) (bytes : List ℕ) (x : Edge × List ℕ) →
    edge_line states before line bytes ≡ Ok x → edge_at bytes ≡ Some x
unfolding edge_line
judged_is states line before bytes x h =
    let E : Type 0 = Edge × List ℕ in
    let b : IsBoundOk (on_line line (edge_at bytes)) (judged_edge states before line) x =
    bound_ok {A = E} {B = E} (on_line line (edge_at bytes))
    (judged_edge states before line) x h in
    let first = unless_err (follows before b.x.0) (fault BadLine line)
    (if not (is_within states b.x.0) then Err (fault OutOfRange line) else Ok b.x) x b.gives in
    let second : (let r : Result E BinaryFault = Ok b.x in r) ≡ Ok x =
    unless_err (is_within states b.x.0) (fault OutOfRange line) (Ok b.x) x first in
    on_line_some line (edge_at bytes) b.x b.is
    ∙ ap (λ (z : E). let o : Option E = Some z in o) (same_Ok b.x x second)

pub record AreEdges (count states : ℕ) (before : Option Edge) (es : List Edge) : Type 0 where
  pub counted : length es ≡ count
  pub ascend : Ascends edge_cmp es
  pub behind : (e : Edge) → IsIn e es → follows before e ≡ true
  pub each : (e : Edge) → IsIn e es → IsEdgeWithin states e
  pub plain : (e : Edge) → IsIn e es → IsTrue (is_plain_label e.label)

lt_less : (o : Ordering) → is_lt o ≡ true → o ≡ Less
lt_less Less h = refl
lt_less Equal h = cc
lt_less Greater h = cc

follows_on : (before : Option Edge) (e d : Edge) → follows before e ≡ true → edge_cmp e d ≡ Less →
    follows before d ≡ true
follows_on None e d h k = refl
follows_on (Some b) e d h k = ap is_lt (edge_total.trans b e d (lt_less (edge_cmp b e) h) k)

pub within_is : (states : ℕ) (e : Edge) → is_within states e ≡ true → IsGoodLabel e.label →
    IsEdgeWithin states e
within_is states e w good =
    let p : (nat_lt e.from states ≡ true) × (nat_lt e.to states ≡ true) =
    and_parts (nat_lt e.from states) (nat_lt e.to states) w in
    record {
      from_in = grind (arith, nat_tests, p.0);
      to_in = grind (arith, nat_tests, p.1);
      sided = good.sided;
    }

pub more_edges : (n states : ℕ) (before : Option Edge) (e : Edge) (es : List Edge) →
    IsNextEdge states before e → AreEdges n states (Some e) es →
    AreEdges (suc n) states before (e ∷ es)
more_edges n states before e es next are = record {
  counted = ap suc are.counted;
  ascend = (λ d i. lt_less (edge_cmp e d) (are.behind d i), are.ascend);
  behind = λ d i. elim i [
    | inl q ↦ ap (follows before) q ∙ next.behind
    | inr k ↦ follows_on before e d next.behind (lt_less (edge_cmp e d) (are.behind d k))
  ];
  each = λ d i. elim i [
    | inl q ↦
        subst (λ (z : Edge). IsEdgeWithin states z) (sym q)
        (within_is states e next.within next.good)
    | inr k ↦ are.each d k
  ];
  plain = λ d i. elim i [
    | inl q ↦
        subst (λ (z : Edge). IsTrue (is_plain_label z.label)) (sym q) next.good.plain
    | inr k ↦
        are.plain d k
  ];
}

pub edges_are : (n states line : ℕ) (before : Option Edge) (bytes : List ℕ) →
    IfOk (edges_in n states before line bytes) (λ x. AreEdges n states before x.0)
unfolding edges_in
edges_are zero states line before bytes =
    record {
      counted = refl;
      ascend = tt;
      behind = λ e i. elim i [ ];
      each =
          λ e i. elim i [ ];
      plain = λ e i. elim i [ ];
    }
edges_are (suc n) states line before bytes =
    let P : List Edge × List ℕ → Type 0 = λ x. AreEdges (suc n) states before x.0 in
    bind_ok {A = Edge × List ℕ} {B = List Edge × List ℕ} (edge_line states before line bytes)
    (λ e. with_edges (e.0 ∷ []) (edges_in n states (Some e.0) (line + 1) e.1)) P
    (λ e is. bind_ok {A = List Edge × List ℕ} {B = List Edge × List ℕ}
    (edges_in n states (Some e.0) (line + 1) e.1) (λ x. Ok ((e.0 ∷ []) ++ x.0, x.1)) P
    (λ x is2. more_edges n states before e.0 x.0
    (ok_holds (edge_line states before line bytes) e (λ y. IsNextEdge states before y.0)
    (next_edge states line before bytes) is)
    (ok_holds (edges_in n states (Some e.0) (line + 1) e.1) x
    (λ y. AreEdges n states (Some e.0) y.0)
    (edges_are n states (line + 1) (Some e.0) e.1) is2)))

-- ---- final states

pub record IsNextFinal (states least s : ℕ) : Type 0 where
  pub behind : least ≤ s
  pub within : s < states

pub next_final : (states least line : ℕ) (bytes : List ℕ) →
    IfOk (final_line states least line bytes) (λ x. IsNextFinal states least x.0)
unfolding final_line
next_final states least line bytes =
    let P : ℕ × List ℕ → Type 0 = λ x. IsNextFinal states least x.0 in
    bind_ok {A = ℕ × List ℕ} {B = ℕ × List ℕ} (on_line line (final_at bytes))
    (judged_final states least line) P
    (λ x is. or_else (nat_le least x.0) x (fault BadLine line) P (if not (nat_lt x.0 states)
    then Err (fault OutOfRange line) else Ok x)
    (λ b. or_else (nat_lt x.0 states) x (fault OutOfRange line) P (Ok x)
    (λ w. record {
      behind = grind (arith, nat_tests, b);
      within =
          grind (arith, nat_tests, w);
    })))

pub judged_final_is : (states least line : ℕ) (bytes : List ℕ) (x : ℕ × List ℕ) →
    final_line states least line bytes ≡ Ok x → final_at bytes ≡ Some x
unfolding final_line
judged_final_is states least line bytes x h =
    let F : Type 0 = ℕ × List ℕ in
    let b : IsBoundOk (on_line line (final_at bytes)) (judged_final states least line) x =
    bound_ok {A = F} {B = F} (on_line line (final_at bytes))
    (judged_final states least line) x h in
    let first = unless_err (nat_le least b.x.0) (fault BadLine line) (if not (nat_lt b.x.0 states)
    then Err (fault OutOfRange line) else Ok b.x) x b.gives in
    let second : (let r : Result F BinaryFault = Ok b.x in r) ≡ Ok x =
    unless_err (nat_lt b.x.0 states) (fault OutOfRange line) (Ok b.x) x first in
    on_line_some line (final_at bytes) b.x b.is
    ∙ ap (λ (z : F). let o : Option F = Some z in o) (same_Ok b.x x second)

pub record AreFinals (count states least : ℕ) (fs : List ℕ) : Type 0 where
  pub counted : length fs ≡ count
  pub ascend : Ascends nat_cmp fs
  pub behind : (s : ℕ) → IsIn s fs → least ≤ s
  pub within : (s : ℕ) → IsIn s fs → s < states

pub more_finals : (n states least s : ℕ) (fs : List ℕ) → IsNextFinal states least s →
    AreFinals n states (s + 1) fs → AreFinals (suc n) states least (s ∷ fs)
more_finals n states least s fs next are = record {
  counted = ap suc are.counted;
  ascend = (λ d i. let lt : s + 1 ≤ d = are.behind d i in cmp_less s d (omega arith), are.ascend);
  behind = λ d i. elim i [
    | inl e ↦ let a : least ≤ s = next.behind in omega arith
    | inr k ↦
        let a : least ≤ s = next.behind in let lt : s + 1 ≤ d = are.behind d k in omega arith
  ];
  within = λ d i. elim i [
    | inl e ↦ let a : s < states = next.within in omega arith
    | inr k ↦
        are.within d k
  ];
}

pub finals_are : (n states least line : ℕ) (bytes : List ℕ) →
    IfOk (finals_in n states least line bytes) (λ x. AreFinals n states least x.0)
unfolding finals_in
finals_are zero states least line bytes =
    record { counted = refl; ascend = tt; behind = λ s i. elim i [ ]; within = λ s i. elim i [ ] }
finals_are (suc n) states least line bytes =
    let P : List ℕ × List ℕ → Type 0 = λ x. AreFinals (suc n) states least x.0 in
    bind_ok {A = ℕ × List ℕ} {B = List ℕ × List ℕ} (final_line states least line bytes)
    (λ s. with_finals (s.0 ∷ []) (finals_in n states (s.0 + 1) (line + 1) s.1)) P
    (λ s is. bind_ok {A = List ℕ × List ℕ} {B = List ℕ × List ℕ}
    (finals_in n states (s.0 + 1) (line + 1) s.1) (λ x. Ok ((s.0 ∷ []) ++ x.0, x.1)) P
    (λ x is2. more_finals n states least s.0 x.0
    (ok_holds (final_line states least line bytes) s (λ y. IsNextFinal states least y.0)
    (next_final states least line bytes) is)
    (ok_holds (finals_in n states (s.0 + 1) (line + 1) s.1) x
    (λ y. AreFinals n states (s.0 + 1) y.0)
    (finals_are n states (s.0 + 1) (line + 1) s.1) is2)))

-- ---- a section

pub raw_read : (m : Machine) (edges finals : ℕ) → 0 < m.states →
    AreEdges edges m.states None m.edges → AreFinals finals m.states 0 m.finals → IsRaw m
raw_read m edges finals some es fs = record {
  sound = record {
    some = some;
    edges_ascend = es.ascend;
    finals_ascend = fs.ascend;
    each =
        es.each;
    finals_in = fs.within;
  };
  plain = es.plain;
}
