-- What is wrong first in a section.
use Rattle.std.proofs.Common.{◌≡◌, inl, inr, ℕ, ◌+◌, ◌^◌, ◌<◌, eqb, true, false, List, ◌++◌, length, refl, sym, ◌∙◌, ap, arith, Option, Some, None, Result, Ok, Err}
use Rattle.std.specs.List.{flat_map, list_all}
use Rattle.std.proofs.lemmas.Bool.{cases_lt}
use Rattle.std.proofs.lemmas.Bool.Decides.{nat_tests}
use Rattle.ap_fst.specs.declared.compiled.Kind2.{Kind2}
use Rattle.ap_fst.specs.declared.label.Edge.{Edge}
use Rattle.ap_binary.specs.Faults.{HasHead, AreCounts, AreGoodEdges, AreGoodFinals, IsSectionFault, bad_head, head_out, at_edge, at_final}
use Rattle.ap_binary.specs.Held.{is_held_edge}
use Rattle.ap_binary.specs.Pieces.{limited, head_at}
use Rattle.ap_binary.specs.Lines.{◌>>=◌, fault, on_line, edges_in, finals_in, counts_of, head_line, section_in}
use Rattle.ap_binary.specs.Text.{edge_text, final_text, head_of}
use Rattle.ap_binary.specs.declared.heads.Counts.{Counts}
use Rattle.ap_binary.specs.declared.heads.Head.{Head}
use Rattle.ap_binary.specs.declared.refusal.BinaryFault.{BinaryFault}
use Rattle.ap_binary.specs.declared.refusal.BinaryKind.TheVariants.{BadLine, OutOfRange}
use Rattle.ap_binary.specs.declared.sections.Written.{Written}
use Rattle.ap_binary.proofs.AnyLines.{IsHeadRead, head_found, has_head}
use Rattle.ap_binary.proofs.EdgeFaults.{IsEdgesFault, edges_found, edges_given}
use Rattle.ap_binary.proofs.Edges.{AreEdges, AreFinals, edges_are, ok_holds}
use Rattle.ap_binary.proofs.Erring.{same_Err, err_same, ok_no_err, bound_err}
use Rattle.ap_binary.proofs.Files.{head_some}
use Rattle.ap_binary.proofs.FinalFaults.{IsFinalsFault, finals_found, finals_given}
use Rattle.ap_binary.proofs.Inverses.{IsCountsOf, head_line_inv, AreEdgesOf, edges_inv}
use Rattle.ap_binary.proofs.Numbers.{limited_none, limited_some}
use Rattle.ap_binary.proofs.Options.{some_holds}
use Rattle.ap_binary.proofs.Reread.{edges_back, written_listed, head_line_back}
use Rattle.ap_binary.proofs.Rereading.{head_back}

-- ---- the first line

counts_out : (line s e f : ℕ) → (AreCounts s e f → ⊥) →
    counts_of line (limited s) (limited e) (limited f) ≡ Err (fault OutOfRange line)
counts_out line s e f out = elim (cases_lt s (2 ^ 64)) [
  | inr le ↦ rw (limited_none s le) refl
  | inl p ↦ elim (cases_lt e (2 ^ 64)) [
    | inr le ↦ rw (limited_some s p, limited_none e le) refl
    | inl q ↦ elim (cases_lt f (2 ^ 64)) [
      | inr le ↦ rw (limited_some s p, limited_some e q, limited_none f le) refl
      | inl r ↦ elim (cases_lt 0 s) [
        | inl some ↦ absurd (out
            (record { some = some; states_in = p; edges_in = q; finals_in = r }))
        | inr le ↦ let z : eqb s 0 ≡ true = grind (arith, nat_tests, le) in
            rw (limited_some s p, limited_some e q, limited_some f r, z) refl
      ]
    ]
  ]
]

counts_good : (line s e f : ℕ) → AreCounts s e f →
    counts_of line (limited s) (limited e) (limited f)
    ≡ Ok (record { states = s; edges = e; finals = f })
counts_good line s e f c =
    let some : 0 < s = c.some in
    let z : eqb s 0 ≡ false = grind (arith, nat_tests, some) in
    rw (limited_some s c.states_in, limited_some e c.edges_in, limited_some f c.finals_in, z) refl

abbrev line_of : ℕ → Option (Head × List ℕ) → Result (Counts × List ℕ) BinaryFault
line_of line r = ◌>>=◌ {A = Head × List ℕ} {B = Counts × List ℕ} (on_line line r)
    (λ head. ◌>>=◌ {A = Counts} {B = Counts × List ℕ}
    (counts_of line head.0.states head.0.edges head.0.finals) (λ counts. Ok (counts, head.1)))

found_aux : (kind : Kind2) (line : ℕ) (bytes : List ℕ) (g : BinaryFault)
    (r : Option (Head × List ℕ)) → head_at kind bytes ≡ r → line_of line r ≡ Err g →
    IsSectionFault kind line bytes g
found_aux kind line bytes g None is h =
    bad_head (λ s e f has. let no : None
    ≡ Some (record { states = limited s; edges = limited e; finals = limited f }, has.rest) =
    sym is ∙ has_head kind bytes s e f has in cc)
    (sym (same_Err {A = Counts × List ℕ} (fault BadLine line) g h))
found_aux kind line bytes g (Some x) is h =
    let r : IsHeadRead kind bytes x =
    some_holds (head_at kind bytes) x (IsHeadRead kind bytes) (head_found kind bytes) is in
    let C : Type 0 = Counts × List ℕ in
    let h' : ◌>>=◌ {A = Counts} {B = C}
    (counts_of line (limited r.states) (limited r.edges) (limited r.finals))
    (λ counts. Ok (counts, x.1)) ≡ Err g =
    ap (λ (z : Head). ◌>>=◌ {A = Counts} {B = C} (counts_of line z.states z.edges z.finals)
    (λ counts. Ok (counts, x.1))) (sym r.read) ∙ h in
    let out : AreCounts r.states r.edges r.finals → ⊥ =
    λ c. ok_no_err {A = C} (
      record {
        states = r.states;
        edges = r.edges;
        finals =
            r.finals;
      },
      x.1,
    ) g
    (ap (λ (z : Result Counts BinaryFault). ◌>>=◌ {A = Counts} {B = C} z
    (λ counts. Ok (counts, x.1))) (sym (counts_good line r.states r.edges r.finals c)) ∙ h') in
    head_out r.states r.edges r.finals r.has out
    (sym (same_Err {A = C} (fault OutOfRange line) g
    (ap (λ (z : Result Counts BinaryFault). ◌>>=◌ {A = Counts} {B = C} z
    (λ counts. Ok (counts, x.1))) (sym (counts_out line r.states r.edges r.finals out)) ∙ h')))

head_line_found : (kind : Kind2) (line : ℕ) (bytes : List ℕ) (g : BinaryFault) →
    head_line kind line bytes ≡ Err g → IsSectionFault kind line bytes g
unfolding head_line
head_line_found kind line bytes g h = found_aux kind line bytes g (head_at kind bytes) refl h

bad_aux : (kind : Kind2) (line : ℕ) (bytes : List ℕ) (g : BinaryFault) (r : Option (Head × List ℕ))
    → head_at kind bytes ≡ r →
    ((states edges finals : ℕ) → HasHead kind bytes states edges finals → ⊥) →
    g ≡ fault BadLine line → line_of line r ≡ Err g
bad_aux kind line bytes g None is none p =
    err_same {A = Counts × List ℕ} (fault BadLine line) g (sym p)
bad_aux kind line bytes g (Some x) is none p = let r : IsHeadRead kind bytes x =
    some_holds (head_at kind bytes) x (IsHeadRead kind bytes) (head_found kind bytes) is in
    absurd (none r.states r.edges r.finals r.has)

no_head_line : (kind : Kind2) (line : ℕ) (bytes : List ℕ) (g : BinaryFault) →
    ((states edges finals : ℕ) → HasHead kind bytes states edges finals → ⊥) →
    g ≡ fault BadLine line → head_line kind line bytes ≡ Err g
unfolding head_line
no_head_line kind line bytes g none p = bad_aux kind line bytes g (head_at kind bytes) refl none p

head_line_out : (kind : Kind2) (line : ℕ) (bytes : List ℕ) (g : BinaryFault) (s e f : ℕ) →
    HasHead kind bytes s e f → (AreCounts s e f → ⊥) → g ≡ fault OutOfRange line →
    head_line kind line bytes ≡ Err g
unfolding head_line
head_line_out kind line bytes g s e f has out p =
    rw (has_head kind bytes s e f has, counts_out line s e f out)
    (err_same {A = Counts × List ℕ} (fault OutOfRange line) g (sym p))

-- ---- a section

good_edges : (n states : ℕ) (es : List Edge) → AreEdges n states None es → list_all is_held_edge es
    ≡ true → AreGoodEdges states es
good_edges n states es are held =
    record { ascend = are.ascend; within = are.each; plain = are.plain; held = held }

edges_of_good : (states : ℕ) (es : List Edge) → AreGoodEdges states es →
    AreEdges (length es) states None es
edges_of_good states es good =
    record {
      counted = refl;
      ascend = good.ascend;
      behind = λ e i. refl;
      each =
          good.within;
      plain = good.plain;
    }

finals_of_good : (states : ℕ) (fs : List ℕ) → AreGoodFinals states fs →
    AreFinals (length fs) states 0 fs
finals_of_good states fs good =
    record {
      counted = refl;
      ascend = good.ascend;
      behind = λ s i. omega arith;
      within =
          good.within;
    }

counts_are : (kind : Kind2) (line : ℕ) (bytes : List ℕ) (x : Counts × List ℕ) →
    head_line kind line bytes ≡ Ok x → AreCounts x.0.states x.0.edges x.0.finals
counts_are kind line bytes x is =
    let c : IsCountsOf kind bytes x =
    ok_holds (head_line kind line bytes) x (IsCountsOf kind bytes)
    (head_line_inv kind line bytes) is in
    record {
      some = ok_holds (head_line kind line bytes) x (λ y. 0 < y.0.states)
          (head_some kind line bytes) is;
      states_in = c.states;
      edges_in =
          c.edges;
      finals_in = c.finals;
    }

edge_wrong : (kind : Kind2) (line : ℕ) (bytes : List ℕ) (g : BinaryFault) (head : Counts × List ℕ) →
    head_line kind line bytes ≡ Ok head →
    IsEdgesFault head.0.edges head.0.states None (line + 1) head.1 g →
    IsSectionFault kind line bytes g
edge_wrong kind line bytes g head is f =
    let c : IsCountsOf kind bytes head =
    ok_holds (head_line kind line bytes) head (IsCountsOf kind bytes)
    (head_line_inv kind line bytes) is in
    at_edge head.0.states head.0.edges head.0.finals f.es f.rest
    (counts_are kind line bytes head is)
    (good_edges (length f.es) head.0.states f.es f.good f.held) f.fewer
    (c.whole ∙ ap (λ z. head_of kind head.0.states head.0.edges head.0.finals ++ z) f.is) f.wrong

final_wrong : (kind : Kind2) (line : ℕ) (bytes : List ℕ) (g : BinaryFault) (head : Counts × List ℕ)
    (edges : List Edge × List ℕ) → head_line kind line bytes ≡ Ok head →
    edges_in head.0.edges head.0.states None (line + 1) head.1 ≡ Ok edges
    → IsFinalsFault head.0.finals head.0.states None (line + 1 + head.0.edges) edges.1 g →
    IsSectionFault kind line bytes g
final_wrong kind line bytes g head edges is is2 f =
    let c : IsCountsOf kind bytes head =
    ok_holds (head_line kind line bytes) head (IsCountsOf kind bytes)
    (head_line_inv kind line bytes) is in
    let es : AreEdges head.0.edges head.0.states None edges.0 =
    ok_holds (edges_in head.0.edges head.0.states None (line + 1) head.1) edges
    (λ x. AreEdges head.0.edges head.0.states None x.0)
    (edges_are head.0.edges head.0.states (line + 1) None head.1) is2 in
    let e : AreEdgesOf head.1 edges =
    ok_holds (edges_in head.0.edges head.0.states None (line + 1) head.1) edges
    (AreEdgesOf head.1) (edges_inv head.0.edges head.0.states (line + 1) None head.1
    c.states) is2 in
    at_final head.0.states head.0.edges head.0.finals edges.0 f.fs f.rest
    (counts_are kind line bytes head is) (good_edges head.0.edges head.0.states edges.0 es e.1)
    es.counted (record { ascend = f.good.ascend; within = f.good.within }) f.fewer
    (c.whole ∙ ap (λ z. head_of kind head.0.states head.0.edges head.0.finals ++ z)
    (e.0 ∙ ap (λ z. flat_map edge_text edges.0 ++ z) f.is)) f.wrong

pub section_found : (kind : Kind2) (line : ℕ) (bytes : List ℕ) (g : BinaryFault) →
    section_in kind line bytes ≡ Err g → IsSectionFault kind line bytes g
unfolding section_in
section_found kind line bytes g h =
    let C : Type 0 = Counts × List ℕ in
    let E : Type 0 = List Edge × List ℕ in
    let F : Type 0 = List ℕ × List ℕ in
    let W : Type 0 = Written × List ℕ in
    elim (bound_err {A = C} {B = W} (head_line kind line bytes)
    (λ head. ◌>>=◌ {A = E} {B = W} (edges_in head.0.edges head.0.states None (line + 1) head.1)
    (λ edges. ◌>>=◌ {A = F} {B = W}
    (finals_in head.0.finals head.0.states 0 (line + 1 + head.0.edges) edges.1)
    (λ finals. Ok (
      record {
        fst =
            record { states = head.0.states; edges = edges.0; finals = finals.0 };
        line = line;
      },
      finals.1,
    )))) g h) [
      | inl k ↦ head_line_found kind line bytes g k
      | inr a ↦
          let small : a.x.0.states < 2 ^ 64 = (counts_are kind line bytes a.x a.is).states_in in
          elim (bound_err {A = E} {B = W} (edges_in a.x.0.edges a.x.0.states None (line + 1) a.x.1)
          (λ edges. ◌>>=◌ {A = F} {B = W}
          (finals_in a.x.0.finals a.x.0.states 0 (line + 1 + a.x.0.edges) edges.1)
          (λ finals. Ok (
            record {
              fst =
                  record { states = a.x.0.states; edges = edges.0; finals = finals.0 };
              line = line;
            },
            finals.1,
          ))) g a.gives) [
            | inl k ↦ edge_wrong kind line bytes g a.x a.is
                (edges_found a.x.0.edges a.x.0.states (line + 1) None a.x.1 g small tt k)
            | inr b ↦ elim (bound_err {A = F} {B = W}
                (finals_in a.x.0.finals a.x.0.states 0 (line + 1 + a.x.0.edges) b.x.1)
                (λ finals. Ok (
                  record {
                    fst =
                        record { states = a.x.0.states; edges = b.x.0; finals = finals.0 };
                    line = line;
                  },
                  finals.1,
                )) g b.gives) [
                  | inl k ↦ final_wrong kind line bytes g a.x b.x a.is b.is
                      (finals_found a.x.0.finals a.x.0.states (line + 1 + a.x.0.edges) None b.x.1 g
                      small (omega arith) k)
                  | inr c ↦ absurd (ok_no_err {A = W} (
                    record {
                      fst = record { states = a.x.0.states; edges = b.x.0; finals = c.x.0 };
                      line = line;
                    },
                    c.x.1,
                  ) g c.gives)
                ]
          ]
    ]

head_err : (kind : Kind2) (line : ℕ) (bytes : List ℕ) (g : BinaryFault) → head_line kind line bytes
    ≡ Err g → section_in kind line bytes ≡ Err g
unfolding section_in
head_err kind line bytes g h = rw h refl

edges_err : (kind : Kind2) (line : ℕ) (bytes a : List ℕ) (k : Counts) (g : BinaryFault) →
    head_line kind line bytes ≡ Ok (k, a) → edges_in k.edges k.states None (line + 1) a ≡ Err g →
    section_in kind line bytes ≡ Err g
unfolding section_in
edges_err kind line bytes a k g h e = rw (h, e) refl

finals_err : (kind : Kind2) (line : ℕ) (bytes a b : List ℕ) (k : Counts) (es : List Edge)
    (g : BinaryFault) → head_line kind line bytes ≡ Ok (k, a) →
    edges_in k.edges k.states None (line + 1) a ≡ Ok (es, b) →
    finals_in k.finals k.states 0 (line + 1 + k.edges) b ≡ Err g →
    section_in kind line bytes ≡ Err g
unfolding section_in
finals_err kind line bytes a b k es g h e f = rw (h, e, f) refl

head_again : (kind : Kind2) (line s e f : ℕ) (bytes rest : List ℕ) → AreCounts s e f →
    bytes ≡ head_of kind s e f ++ rest → head_line kind line bytes
    ≡ Ok (record { states = s; edges = e; finals = f }, rest)
head_again kind line s e f bytes rest c is =
    head_line_back kind line s e f bytes rest c.some
    (ap (head_at kind) is ∙ head_back kind s e f rest c.states_in c.edges_in c.finals_in)

pub section_given : (kind : Kind2) (line : ℕ) (bytes : List ℕ) (g : BinaryFault) →
    IsSectionFault kind line bytes g → section_in kind line bytes ≡ Err g
section_given kind line bytes g (bad_head none p) =
    head_err kind line bytes g (no_head_line kind line bytes g none p)
section_given kind line bytes g (head_out s e f has out p) =
    head_err kind line bytes g (head_line_out kind line bytes g s e f has out p)
section_given kind line bytes g (at_edge s e f es rest c good few is wrong) =
    edges_err kind line bytes (flat_map edge_text es ++ rest)
    (record { states = s; edges = e; finals = f }) g
    (head_again kind line s e f bytes (flat_map edge_text es ++ rest) c is)
    (edges_given e s (line + 1) None es (flat_map edge_text es ++ rest) rest g c.states_in tt few
    (edges_of_good s es good) good.held refl wrong)
section_given kind line bytes g (at_final s e f es fs rest c good count finals few is wrong) =
    let more : List ℕ = flat_map final_text fs ++ rest in
    finals_err kind line bytes (flat_map edge_text es ++ more) more
    (record { states = s; edges = e; finals = f }) es g
    (head_again kind line s e f bytes (flat_map edge_text es ++ more) c is)
    (edges_back e s (line + 1) None es more count
    (written_listed s es c.states_in good.ascend good.within good.plain good.held))
    (finals_given f s (line + 1 + e) None fs more rest g c.states_in (omega arith) few
    (finals_of_good s fs finals) refl wrong)
