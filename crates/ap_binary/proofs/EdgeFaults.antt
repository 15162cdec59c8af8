-- What is wrong where an edge is wanted.
use Rattle.std.proofs.Common.{◌≡◌, inl, inr, ℕ, suc, zero, ◌+◌, ◌-◌, ◌^◌, ◌<◌, true, false, nat_lt, List, [], ◌∷◌, ◌++◌, length, refl, sym, ◌∙◌, ap, subst, arith, append_assoc, Option, Some, None, Ok, Err}
use Rattle.std.specs.Prelude.{◌&&◌}
use Rattle.std.specs.List.{flat_map, list_all}
use Rattle.std.specs.Ordering.{nat_cmp, is_lt, ordering_then}
use Rattle.std.proofs.lemmas.Bool.{and_parts, cases_Bool}
use Rattle.std.proofs.lemmas.Bool.Decides.{nat_tests}
use Rattle.std.proofs.lemmas.Option.{same_Some}
use Rattle.ap_fst.specs.Machines.{IsEdgeWithin}
use Rattle.ap_fst.specs.Order.{label_cmp}
use Rattle.ap_fst.specs.declared.label.Edge.{Edge}
use Rattle.ap_binary.specs.Faults.{HasEdge, IsEdgeFault, bad_edge, edge_out, last_or}
use Rattle.ap_binary.specs.Held.{is_held_edge}
use Rattle.ap_binary.specs.Pieces.{edge_at}
use Rattle.ap_binary.specs.Lines.{◌>>=◌, fault, on_line, follows, is_within, judged_edge, edge_line, with_edges, edges_in}
use Rattle.ap_binary.specs.Text.{edge_text}
use Rattle.ap_binary.specs.declared.refusal.BinaryFault.{BinaryFault}
use Rattle.ap_binary.specs.declared.refusal.BinaryKind.TheVariants.{BadLine, OutOfRange}
use Rattle.ap_binary.proofs.AnyNumbers.{clamped, clamped_below, clamped_order}
use Rattle.ap_binary.proofs.AnyLines.{clamped_edge, IsEdgeRead, edge_found, has_edge}
use Rattle.ap_binary.proofs.Bools.{both_true}
use Rattle.ap_binary.proofs.Edges.{AreEdges, IsNextEdge, more_edges, next_edge, ok_holds, within_is}
use Rattle.ap_binary.proofs.Erring.{same_Err, err_same, ok_no_err, bound_err, judge}
use Rattle.ap_binary.proofs.Inverses.{line_is_edge}
use Rattle.ap_binary.proofs.Options.{some_holds}
use Rattle.ap_binary.proofs.Reread.{line_edge, within_test}
use Rattle.ap_binary.proofs.Rereading.{IsWritable, edge_back}

-- the states of the edge before are below the limit
abbrev pub IsSmall : Option Edge → Type 0
IsSmall None = Unit {0}
IsSmall (Some b) = (b.from < 2 ^ 64 - 1) × (b.to < 2 ^ 64 - 1)

pub follows_same : (before : Option Edge) (e : Edge) → IsSmall before →
    follows before (clamped_edge e) ≡ follows before e
follows_same None e small = refl
follows_same (Some b) e small =
    ap (λ o. is_lt (ordering_then o
    (ordering_then (label_cmp b.label e.label) (nat_cmp b.to (clamped e.to)))))
    (clamped_order b.from e.from small.0)
    ∙ ap (λ o. is_lt (ordering_then (nat_cmp b.from e.from)
    (ordering_then (label_cmp b.label e.label) o))) (clamped_order b.to e.to small.1)

pub within_same : (states : ℕ) (e : Edge) → states < 2 ^ 64 → is_within states (clamped_edge e)
    ≡ is_within states e
within_same states e small =
    ap (λ b. b && nat_lt (clamped e.to) states) (clamped_below e.from states small)
    ∙ ap (λ b. nat_lt e.from states && b) (clamped_below e.to states small)

inside : (states : ℕ) (e : Edge) → (e.from < states) × (e.to < states) → is_within states e ≡ true
inside states e h =
    let p : e.from < states = h.0 in
    let q : e.to < states = h.1 in
    both_true (nat_lt e.from states) (nat_lt e.to states) (grind (arith, nat_tests, p))
    (grind (arith, nat_tests, q))

outside : (states : ℕ) (e : Edge) → ((e.from < states) × (e.to < states) → ⊥) →
    is_within states e ≡ false
outside states e h = elim (cases_Bool (is_within states e)) [
  | inl t ↦
      let p : (nat_lt e.from states ≡ true) × (nat_lt e.to states ≡ true) =
      and_parts (nat_lt e.from states) (nat_lt e.to states) t in
      absurd (h (grind (arith, nat_tests, p.0), grind (arith, nat_tests, p.1)))
  | inr f ↦ f
]

-- ---- one line

-- the edge that is read where one has its line
read_of : (before : Option Edge) (bytes : List ℕ) (x : Edge × List ℕ) (e : Edge)
    (h : HasEdge before bytes e) → edge_at bytes ≡ Some x → x.0 ≡ clamped_edge e
read_of before bytes x e h is =
    ap (λ (v : Edge × List ℕ). v.0)
    (same_Some x (clamped_edge e, h.rest) (sym is ∙ has_edge before bytes e h))

found_aux : (states line : ℕ) (before : Option Edge) (bytes : List ℕ) (g : BinaryFault)
    (r : Option (Edge × List ℕ)) → states < 2 ^ 64 → IsSmall before → edge_at bytes ≡ r
    → ◌>>=◌ {A = Edge × List ℕ} {B = Edge × List ℕ} (on_line line r)
    (judged_edge states before line) ≡ Err g → IsEdgeFault states before line bytes g
found_aux states line before bytes g None small near is h =
    bad_edge (λ e has. let no : None ≡ Some (clamped_edge e, has.rest) =
    sym is ∙ has_edge before bytes e has in cc)
    (sym (same_Err {A = Edge × List ℕ} (fault BadLine line) g h))
found_aux states line before bytes g (Some x) small near is h =
    elim (judge {A = Edge × List ℕ} (follows before x.0) (is_within states x.0) (fault BadLine line)
    (fault OutOfRange line) x g h) [
      | inl k ↦ bad_edge (λ e has.
          let no : follows before e ≡ false = sym (follows_same before e near)
          ∙ ap (follows before) (sym (read_of before bytes x e has is)) ∙ k.0 in
          let yes : follows before e ≡ true = has.behind in
          let both : true ≡ false = sym yes ∙ no in cc) k.1
      | inr k ↦
          let r : IsEdgeRead bytes x =
          some_holds (edge_at bytes) x (IsEdgeRead bytes) (edge_found bytes) is in
          let behind : follows before r.e ≡ true = sym (follows_same before r.e near)
          ∙ ap (follows before) (sym r.read) ∙ k.0 in
          let out : is_within states r.e ≡ false = sym (within_same states r.e small)
          ∙ ap (is_within states) (sym r.read) ∙ k.1 in
          edge_out r.e (record {
            line = r.line;
            rest = x.1;
            is = r.is;
            form =
                r.form;
            behind = behind;
          })
          (λ w. let both : true ≡ false = sym (inside states r.e w) ∙ out in cc) k.2
    ]

pub edge_line_found : (states line : ℕ) (before : Option Edge) (bytes : List ℕ) (g : BinaryFault) →
    states < 2 ^ 64 → IsSmall before → edge_line states before line bytes ≡ Err g →
    IsEdgeFault states before line bytes g
unfolding edge_line
edge_line_found states line before bytes g small near h =
    found_aux states line before bytes g (edge_at bytes) small near refl h

bad_aux : (states line : ℕ) (before : Option Edge) (bytes : List ℕ) (g : BinaryFault)
    (r : Option (Edge × List ℕ)) → IsSmall before → edge_at bytes ≡ r →
    ((e : Edge) → HasEdge before bytes e → ⊥) → g ≡ fault BadLine line
    → ◌>>=◌ {A = Edge × List ℕ} {B = Edge × List ℕ} (on_line line r)
    (judged_edge states before line) ≡ Err g
bad_aux states line before bytes g None near is none p =
    err_same {A = Edge × List ℕ} (fault BadLine line) g (sym p)
bad_aux states line before bytes g (Some x) near is none p =
    elim (cases_Bool (follows before x.0)) [
      | inl t ↦
          let r : IsEdgeRead bytes x =
          some_holds (edge_at bytes) x (IsEdgeRead bytes) (edge_found bytes) is in
          let behind : follows before r.e ≡ true = sym (follows_same before r.e near)
          ∙ ap (follows before) (sym r.read) ∙ t in
          absurd (none r.e (record {
            line = r.line;
            rest = x.1;
            is = r.is;
            form =
                r.form;
            behind = behind;
          }))
      | inr f ↦ rw f (err_same {A = Edge × List ℕ} (fault BadLine line) g (sym p))
    ]

pub edge_line_given : (states line : ℕ) (before : Option Edge) (bytes : List ℕ) (g : BinaryFault) →
    states < 2 ^ 64 → IsSmall before → IsEdgeFault states before line bytes g →
    edge_line states before line bytes ≡ Err g
unfolding edge_line
edge_line_given states line before bytes g small near (bad_edge none p) =
    bad_aux states line before bytes g (edge_at bytes) near refl none p
edge_line_given states line before bytes g small near (edge_out e has out p) =
    let read : edge_at bytes ≡ Some (clamped_edge e, has.rest) = has_edge before bytes e has in
    let f : follows before (clamped_edge e) ≡ true = follows_same before e near ∙ has.behind in
    let w : is_within states (clamped_edge e) ≡ false = within_same states e small
    ∙ outside states e out in
    rw (read, f, w) (err_same {A = Edge × List ℕ} (fault OutOfRange line) g (sym p))

-- ---- the lines

pub record IsEdgesFault (n states : ℕ) (before : Option Edge) (line : ℕ) (bytes : List ℕ)
    (g : BinaryFault) : Type 0 where
  pub es : List Edge
  pub rest : List ℕ
  pub fewer : length es < n
  pub good : AreEdges (length es) states before es
  pub held : list_all is_held_edge es ≡ true
  pub is : bytes ≡ flat_map edge_text es ++ rest
  pub wrong : IsEdgeFault states (last_or before es) (line + length es) rest g

pub edge_moved : (states m n : ℕ) (before : Option Edge) (bytes : List ℕ) (g : BinaryFault) →
    m ≡ n → IsEdgeFault states before m bytes g → IsEdgeFault states before n bytes g
edge_moved states m n before bytes g e h =
    subst (λ (k : ℕ). IsEdgeFault states before k bytes g) e h

no_edges : (states : ℕ) (before : Option Edge) → AreEdges 0 states before []
no_edges states before =
    record {
      counted = refl;
      ascend = tt;
      behind = λ e i. elim i [ ];
      each =
          λ e i. elim i [ ];
      plain = λ e i. elim i [ ];
    }

next_small : (states line : ℕ) (before : Option Edge) (bytes : List ℕ) (x : Edge × List ℕ) →
    states < 2 ^ 64 → edge_line states before line bytes ≡ Ok x → IsSmall (Some x.0)
next_small states line before bytes x small is =
    let n : IsNextEdge states before x.0 =
    ok_holds (edge_line states before line bytes) x (λ y. IsNextEdge states before y.0)
    (next_edge states line before bytes) is in
    let w : IsEdgeWithin states x.0 = within_is states x.0 n.within n.good in
    let p : x.0.from < states = w.from_in in
    let q : x.0.to < states = w.to_in in
    (omega arith, omega arith)

more_fault : (n states line : ℕ) (before : Option Edge) (bytes : List ℕ) (x : Edge × List ℕ)
    (g : BinaryFault) → states < 2 ^ 64 → edge_line states before line bytes ≡ Ok x →
    IsEdgesFault n states (Some x.0) (line + 1) x.1 g →
    IsEdgesFault (suc n) states before line bytes g
more_fault n states line before bytes x g small is later =
    let next : IsNextEdge states before x.0 =
    ok_holds (edge_line states before line bytes) x (λ y. IsNextEdge states before y.0)
    (next_edge states line before bytes) is in
    let a : (bytes ≡ edge_text x.0 ++ x.1) × (is_held_edge x.0 ≡ true) =
    line_is_edge states line before bytes x small is in
    let few : length later.es < n = later.fewer in
    record {
      es = x.0 ∷ later.es;
      rest = later.rest;
      fewer = omega arith;
      good = more_edges (length later.es) states before x.0 later.es next later.good;
      held = both_true (is_held_edge x.0) (list_all is_held_edge later.es) a.1 later.held;
      is = a.0 ∙ ap (λ z. edge_text x.0 ++ z) later.is
          ∙ sym (append_assoc (edge_text x.0) (flat_map edge_text later.es) later.rest);
      wrong = edge_moved states (line + 1 + length later.es) (line + suc (length later.es))
          (last_or (Some x.0) later.es) later.rest g (omega arith) later.wrong;
    }

pub edges_found : (n states line : ℕ) (before : Option Edge) (bytes : List ℕ) (g : BinaryFault) →
    states < 2 ^ 64 → IsSmall before → edges_in n states before line bytes ≡ Err g →
    IsEdgesFault n states before line bytes g
unfolding edges_in
edges_found zero states line before bytes g small near h =
    absurd (ok_no_err {A = List Edge × List ℕ} ([], bytes) g h)
edges_found (suc n) states line before bytes g small near h =
    let E : Type 0 = Edge × List ℕ in
    let V : Type 0 = List Edge × List ℕ in
    elim (bound_err {A = E} {B = V} (edge_line states before line bytes)
    (λ e. with_edges (e.0 ∷ []) (edges_in n states (Some e.0) (line + 1) e.1)) g h) [
      | inl k ↦ record {
        es = [];
        rest = bytes;
        fewer = omega arith;
        good =
            no_edges states before;
        held = refl;
        is = refl;
        wrong =
            edge_moved states line (line + 0) before bytes g (omega arith)
            (edge_line_found states line before bytes g small near k);
      }
      | inr b ↦ elim (bound_err {A = V} {B = V} (edges_in n states (Some b.x.0) (line + 1) b.x.1)
          (λ y. Ok ((b.x.0 ∷ []) ++ y.0, y.1)) g b.gives) [
            | inl k ↦ more_fault n states line before bytes b.x g small b.is
                (edges_found n states (line + 1) (Some b.x.0) b.x.1 g small
                (next_small states line before bytes b.x small b.is) k)
            | inr c ↦ absurd (ok_no_err {A = V} ((b.x.0 ∷ []) ++ c.x.0, c.x.1) g c.gives)
          ]
    ]

rest_edges : (states : ℕ) (before : Option Edge) (e : Edge) (es : List Edge) →
    AreEdges (length (e ∷ es)) states before (e ∷ es) → AreEdges (length es) states (Some e) es
rest_edges states before e es are = record {
  counted = refl;
  ascend = are.ascend.1;
  behind = λ d i. ap is_lt (are.ascend.0 d i);
  each = λ d i. are.each d (inr i);
  plain = λ d i. are.plain d (inr i);
}

pub edges_given : (n states line : ℕ) (before : Option Edge) (es : List Edge) (bytes rest : List ℕ)
    (g : BinaryFault) → states < 2 ^ 64 → IsSmall before → length es < n →
    AreEdges (length es) states before es → list_all is_held_edge es ≡ true
    → bytes ≡ flat_map edge_text es ++ rest →
    IsEdgeFault states (last_or before es) (line + length es) rest g →
    edges_in n states before line bytes ≡ Err g
unfolding edges_in
edges_given zero states line before es bytes rest g small near few good held is wrong =
    absurd (omega arith)
edges_given (suc n) states line before [] bytes rest g small near few good held is wrong =
    let first : edge_line states before line rest ≡ Err g =
    edge_line_given states line before rest g small near
    (edge_moved states (line + 0) line before rest g (omega arith) wrong) in
    ap (edges_in (suc n) states before line) is ∙ rw first refl
edges_given (suc n) states line before (e ∷ es) bytes rest g small near few good held is wrong =
    let more : List ℕ = flat_map edge_text es ++ rest in
    let w : IsEdgeWithin states e = good.each e (inl refl) in
    let p : e.from < states = w.from_in in
    let q : e.to < states = w.to_in in
    let h : (is_held_edge e ≡ true) × (list_all is_held_edge es ≡ true) =
    and_parts (is_held_edge e) (list_all is_held_edge es) held in
    let writable : IsWritable e =
    record {
      held = h.0;
      plain = good.plain e (inl refl);
      sided = w.sided;
      from =
          omega arith;
      to = omega arith;
    } in
    let first : edge_line states before line (edge_text e ++ more) ≡ Ok (e, more) =
    line_edge states line before (edge_text e ++ more) (e, more) (edge_back e more writable)
    (good.behind e (inl refl)) (within_test states e w) in
    let later : edges_in n states (Some e) (line + 1) more ≡ Err g =
    edges_given n states (line + 1) (Some e) es more rest g small (omega arith, omega arith)
    (omega arith) (rest_edges states before e es good) h.1 refl
    (edge_moved states (line + suc (length es)) (line + 1 + length es) (last_or (Some e) es)
    rest g (omega arith) wrong) in
    ap (edges_in (suc n) states before line)
    (is ∙ append_assoc (edge_text e) (flat_map edge_text es) rest) ∙ rw (first, later) refl
