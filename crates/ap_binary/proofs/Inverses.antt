-- The lines of a file, written again, are the text that was read.
use Rattle.std.proofs.Common.{◌≡◌, ◌⊎◌, inl, inr, ℕ, suc, zero, ◌+◌, ◌-◌, ◌^◌, ◌<◌, Bool, true, false, List, [], ◌∷◌, ◌++◌, length, refl, sym, ◌∙◌, ap, arith, append_assoc, append-nil, Option, Some, None, Result, Ok, Err, IfOk, IfSome}
use Rattle.std.specs.Prelude.{◌==◌, if◌then◌else◌, codes, ◌↔◌}
use Rattle.std.specs.List.{flat_map, list_all}
use Rattle.ap_fst.specs.Machines.{Machine}
use Rattle.ap_fst.specs.Sections.{Parts}
use Rattle.ap_fst.specs.declared.compiled.Kind2.{Kind2}
use Rattle.ap_fst.specs.declared.compiled.Kind2.TheVariants.{Standard, Inconditional, Postblank, Preblank}
use Rattle.ap_fst.specs.declared.compiled.Way.{Way}
use Rattle.ap_fst.specs.declared.compiled.Way.TheVariants.{Lr, Rl, Untold}
use Rattle.ap_fst.specs.declared.label.Edge.{Edge}
use Rattle.ap_binary.specs.Grammar.{IsLeftOf, IsTextOf}
use Rattle.ap_binary.specs.Held.{is_held_edge, IsHeldMachine, AreHeldSections, IsHeld}
use Rattle.ap_binary.specs.Pieces.{word_at, either_at, version_at, way_at, final_at, head_at, alphabet_at}
use Rattle.ap_binary.specs.Lines.{◌>>=◌, fault, on_line, on_header, way_in, header_in, alphabet_place, over, edge_line, edges_in, with_edges, final_line, finals_in, with_finals, counts_of, head_line, section_in, line_after, sections_in, end_in, file_in}
use Rattle.ap_binary.specs.Spelling.{IsSpelled, Spells}
use Rattle.ap_binary.specs.Text.{edge_text, final_text, head_of, head_text, section_text, sections_text, alphabet_text, header_text, compiled_text}
use Rattle.ap_binary.specs.declared.file.File.{File}
use Rattle.ap_binary.specs.declared.heads.Counts.{Counts}
use Rattle.ap_binary.specs.declared.heads.Head.{Head}
use Rattle.ap_binary.specs.declared.refusal.BinaryFault.{BinaryFault}
use Rattle.ap_binary.specs.declared.refusal.BinaryKind.TheVariants.{OutOfRange}
use Rattle.ap_binary.specs.declared.sections.Sections.{Sections}
use Rattle.ap_binary.specs.declared.sections.Written.{Written}
use Rattle.ap_binary.proofs.Bools.{both_true}
use Rattle.ap_binary.proofs.Options.{some_holds}
use Rattle.ap_binary.proofs.Edges.{bind_ok, ok_holds, if_ok, on_line_some, same_Ok, AreEdges, AreFinals, edges_are, finals_are, IsNextEdge, next_edge, IsNextFinal, next_final, judged_is, judged_final_is, within_is}
use Rattle.ap_binary.proofs.Files.{IsRawFile, file_raw}
use Rattle.ap_binary.proofs.Inverse.{edge_use, final_inv, head_inv, AreHeadsOf, IsHeadOf, alphabet_inv, IsAlphabetOf, word_is}
use Rattle.ap_binary.specs.Faults.{written_at}
use Rattle.ap_binary.proofs.Reread.{placed_file, file_back}

-- ---- edges

abbrev pub AreEdgesOf : List ℕ → List Edge × List ℕ → Type 0
AreEdgesOf bytes v = (bytes ≡ flat_map edge_text v.0 ++ v.1) × (list_all is_held_edge v.0 ≡ true)

pub line_is_edge : (states line : ℕ) (before : Option Edge) (bytes : List ℕ) (x : Edge × List ℕ) →
    states < 2 ^ 64 → edge_line states before line bytes ≡ Ok x → (bytes ≡ edge_text x.0 ++ x.1)
    × (is_held_edge x.0 ≡ true)
line_is_edge states line before bytes x small is =
    let n : IsNextEdge states before x.0 =
    ok_holds (edge_line states before line bytes) x (λ y. IsNextEdge states before y.0)
    (next_edge states line before bytes) is in
    let w = within_is states x.0 n.within n.good in
    let p : x.0.from < states = w.from_in in
    let q : x.0.to < states = w.to_in in
    edge_use bytes x (judged_is states line before bytes x is) (omega arith) (omega arith)

pub edges_inv : (n states line : ℕ) (before : Option Edge) (bytes : List ℕ) → states < 2 ^ 64 →
    IfOk (edges_in n states before line bytes) (AreEdgesOf bytes)
unfolding edges_in
edges_inv zero states line before bytes small = (refl, refl)
edges_inv (suc n) states line before bytes small =
    let E : Type 0 = Edge × List ℕ in
    let V : Type 0 = List Edge × List ℕ in
    bind_ok {A = E} {B = V} (edge_line states before line bytes)
    (λ e. with_edges (e.0 ∷ []) (edges_in n states (Some e.0) (line + 1) e.1))
    (AreEdgesOf bytes)
    (λ e is. bind_ok {A = V} {B = V} (edges_in n states (Some e.0) (line + 1) e.1)
    (λ x. Ok ((e.0 ∷ []) ++ x.0, x.1)) (AreEdgesOf bytes)
    (λ x is2.
    let a : (bytes ≡ edge_text e.0 ++ e.1) × (is_held_edge e.0 ≡ true) =
    line_is_edge states line before bytes e small is in
    let b : AreEdgesOf e.1 x =
    ok_holds (edges_in n states (Some e.0) (line + 1) e.1) x (AreEdgesOf e.1)
    (edges_inv n states (line + 1) (Some e.0) e.1 small) is2 in (
      a.0 ∙ ap (λ z. edge_text e.0 ++ z) b.0
          ∙ sym (append_assoc (edge_text e.0) (flat_map edge_text x.0) x.1),
      both_true (is_held_edge e.0) (list_all is_held_edge x.0) a.1 b.1,
    )))

-- ---- final states

pub line_is_final : (states least line : ℕ) (bytes : List ℕ) (x : ℕ × List ℕ) → states < 2 ^ 64 →
    final_line states least line bytes ≡ Ok x → bytes ≡ final_text x.0 ++ x.1
line_is_final states least line bytes x small is =
    let n : IsNextFinal states least x.0 =
    ok_holds (final_line states least line bytes) x (λ y. IsNextFinal states least y.0)
    (next_final states least line bytes) is in
    let p : x.0 < states = n.within in
    some_holds (final_at bytes) x (λ v. v.0 < 2 ^ 64 - 1 → bytes ≡ final_text v.0 ++ v.1)
    (final_inv bytes) (judged_final_is states least line bytes x is) (omega arith)

pub finals_inv : (n states least line : ℕ) (bytes : List ℕ) → states < 2 ^ 64 →
    IfOk (finals_in n states least line bytes) (λ v. bytes ≡ flat_map final_text v.0 ++ v.1)
unfolding finals_in
finals_inv zero states least line bytes small = refl
finals_inv (suc n) states least line bytes small =
    let V : Type 0 = List ℕ × List ℕ in
    let P : V → Type 0 = λ v. bytes ≡ flat_map final_text v.0 ++ v.1 in
    bind_ok {A = ℕ × List ℕ} {B = V} (final_line states least line bytes)
    (λ s. with_finals (s.0 ∷ []) (finals_in n states (s.0 + 1) (line + 1) s.1)) P
    (λ s is. bind_ok {A = V} {B = V} (finals_in n states (s.0 + 1) (line + 1) s.1)
    (λ x. Ok ((s.0 ∷ []) ++ x.0, x.1)) P
    (λ x is2.
    let b : s.1 ≡ flat_map final_text x.0 ++ x.1 =
    ok_holds (finals_in n states (s.0 + 1) (line + 1) s.1) x (λ v. s.1 ≡ flat_map final_text v.0
    ++ v.1) (finals_inv n states (s.0 + 1) (line + 1) s.1 small) is2 in
    line_is_final states least line bytes s small is ∙ ap (λ z. final_text s.0 ++ z) b
    ∙ sym (append_assoc (final_text s.0) (flat_map final_text x.0) x.1)))

-- ---- sections

pub record IsCountsOf (kind : Kind2) (bytes : List ℕ) (v : Counts × List ℕ) : Type 0 where
  pub whole : bytes ≡ head_of kind v.0.states v.0.edges v.0.finals ++ v.1
  pub states : v.0.states < 2 ^ 64
  pub edges : v.0.edges < 2 ^ 64
  pub finals : v.0.finals < 2 ^ 64

some_counts : (b : Bool) (f : BinaryFault) (k : Counts) (P : Counts → Type 0) → P k →
    IfOk (if b then (let r : Result Counts BinaryFault = Err f in r) else Ok k) P
some_counts true f k P h = tt
some_counts false f k P h = h

counts_inv : (kind : Kind2) (line : ℕ) (bytes rest : List ℕ) (a b c : Option ℕ) →
    AreHeadsOf kind bytes (record { states = a; edges = b; finals = c }, rest) →
    IfOk (counts_of line a b c) (λ k. IsCountsOf kind bytes (k, rest))
counts_inv kind line bytes rest (Some s) (Some e) (Some f) h =
    let k : IsHeadOf kind bytes (record { states = Some s; edges = Some e; finals = Some f }, rest)
    s e f = h s e f refl refl refl in
    some_counts (s == 0) (fault OutOfRange line) (record { states = s; edges = e; finals = f })
    (λ k. IsCountsOf kind bytes (k, rest))
    (record { whole = k.whole; states = k.states; edges = k.edges; finals = k.finals })
counts_inv kind line bytes rest (Some s) (Some e) None h = tt
counts_inv kind line bytes rest (Some s) None c h = tt
counts_inv kind line bytes rest None b c h = tt

pub head_line_inv : (kind : Kind2) (line : ℕ) (bytes : List ℕ) →
    IfOk (head_line kind line bytes) (IsCountsOf kind bytes)
unfolding head_line
head_line_inv kind line bytes =
    let H : Type 0 = Head × List ℕ in
    let C : Type 0 = Counts × List ℕ in
    bind_ok {A = H} {B = C} (on_line line (head_at kind bytes))
    (λ head. ◌>>=◌ {A = Counts} {B = C}
    (counts_of line head.0.states head.0.edges head.0.finals) (λ counts. Ok (counts, head.1)))
    (IsCountsOf kind bytes)
    (λ head is. bind_ok {A = Counts} {B = C}
    (counts_of line head.0.states head.0.edges head.0.finals) (λ counts. Ok (counts, head.1))
    (IsCountsOf kind bytes)
    (λ counts is2.
    let h : AreHeadsOf kind bytes head =
    some_holds (head_at kind bytes) head (AreHeadsOf kind bytes) (head_inv kind bytes)
    (on_line_some line (head_at kind bytes) head is) in
    ok_holds (counts_of line head.0.states head.0.edges head.0.finals) counts
    (λ k. IsCountsOf kind bytes (k, head.1))
    (counts_inv kind line bytes head.1 head.0.states head.0.edges head.0.finals h) is2))

pub record IsSectionOf (kind : Kind2) (bytes : List ℕ) (v : Written × List ℕ) : Type 0 where
  pub whole : bytes ≡ section_text kind v.0.fst ++ v.1
  pub held : IsHeldMachine v.0.fst

section_whole : (kind : Kind2) (line : ℕ) (bytes : List ℕ) (head : Counts × List ℕ)
    (edges : List Edge × List ℕ) (finals : List ℕ × List ℕ) → head_line kind line bytes ≡ Ok head →
    edges_in head.0.edges head.0.states None (line + 1) head.1 ≡ Ok edges
    → finals_in head.0.finals head.0.states 0 (line + 1 + head.0.edges) edges.1 ≡ Ok finals →
    IsSectionOf kind bytes (
      record {
        fst =
            record { states = head.0.states; edges = edges.0; finals = finals.0 };
        line =
            line;
      },
      finals.1,
    )
section_whole kind line bytes head edges finals is is2 is3 =
    let h : IsCountsOf kind bytes head =
    ok_holds (head_line kind line bytes) head (IsCountsOf kind bytes)
    (head_line_inv kind line bytes) is in
    let e : AreEdgesOf head.1 edges =
    ok_holds (edges_in head.0.edges head.0.states None (line + 1) head.1) edges
    (AreEdgesOf head.1) (edges_inv head.0.edges head.0.states (line + 1) None head.1
    h.states) is2 in
    let f : edges.1 ≡ flat_map final_text finals.0 ++ finals.1 =
    ok_holds (finals_in head.0.finals head.0.states 0 (line + 1 + head.0.edges) edges.1) finals
    (λ v. edges.1 ≡ flat_map final_text v.0 ++ v.1)
    (finals_inv head.0.finals head.0.states 0 (line + 1 + head.0.edges) edges.1 h.states) is3 in
    let es : AreEdges head.0.edges head.0.states None edges.0 =
    ok_holds (edges_in head.0.edges head.0.states None (line + 1) head.1) edges
    (λ x. AreEdges head.0.edges head.0.states None x.0)
    (edges_are head.0.edges head.0.states (line + 1) None head.1) is2 in
    let fs : AreFinals head.0.finals head.0.states 0 finals.0 =
    ok_holds (finals_in head.0.finals head.0.states 0 (line + 1 + head.0.edges) edges.1) finals
    (λ x. AreFinals head.0.finals head.0.states 0 x.0)
    (finals_are head.0.finals head.0.states 0 (line + 1 + head.0.edges) edges.1) is3 in
    let m : Machine = record { states = head.0.states; edges = edges.0; finals = finals.0 } in
    let a : List ℕ = flat_map edge_text edges.0 in
    let b : List ℕ = flat_map final_text finals.0 in
    let first : head_of kind head.0.states head.0.edges head.0.finals ≡ head_text kind m =
    ap (λ n. head_of kind head.0.states n head.0.finals) (sym es.counted)
    ∙ ap (λ n. head_of kind head.0.states (length edges.0) n) (sym fs.counted) in
    let whole : bytes ≡ head_text kind m ++ (a ++ (b ++ finals.1)) =
    h.whole ∙ ap (λ z. z ++ head.1) first
    ∙ ap (λ z. head_text kind m ++ z) (e.0 ∙ ap (λ z. a ++ z) f) in
    let assoc : section_text kind m ++ finals.1 ≡ head_text kind m ++ (a ++ (b ++ finals.1)) =
    append_assoc (head_text kind m) (a ++ b) finals.1
    ∙ ap (λ z. head_text kind m ++ z) (append_assoc a b finals.1) in
    record {
      whole = whole ∙ sym assoc;
      held =
          record {
            states = h.states;
            edge_count = rw es.counted h.edges;
            final_count =
                rw fs.counted h.finals;
            edges = e.1;
          };
    }

section_inv : (kind : Kind2) (line : ℕ) (bytes : List ℕ) →
    IfOk (section_in kind line bytes) (IsSectionOf kind bytes)
unfolding section_in
section_inv kind line bytes =
    let C : Type 0 = Counts × List ℕ in
    let E : Type 0 = List Edge × List ℕ in
    let F : Type 0 = List ℕ × List ℕ in
    let W : Type 0 = Written × List ℕ in
    let P : W → Type 0 = IsSectionOf kind bytes in
    bind_ok {A = C} {B = W} (head_line kind line bytes)
    (λ head. ◌>>=◌ {A = E} {B = W} (edges_in head.0.edges head.0.states None (line + 1) head.1)
    (λ edges. ◌>>=◌ {A = F} {B = W}
    (finals_in head.0.finals head.0.states 0 (line + 1 + head.0.edges) edges.1)
    (λ finals. Ok (
      record {
        fst =
            record { states = head.0.states; edges = edges.0; finals = finals.0 };
        line = line;
      },
      finals.1,
    )))) P
    (λ head is. bind_ok {A = E} {B = W} (edges_in head.0.edges head.0.states None (line + 1) head.1)
    (λ edges. ◌>>=◌ {A = F} {B = W}
    (finals_in head.0.finals head.0.states 0 (line + 1 + head.0.edges) edges.1)
    (λ finals. Ok (
      record {
        fst =
            record { states = head.0.states; edges = edges.0; finals = finals.0 };
        line = line;
      },
      finals.1,
    ))) P
    (λ edges is2. bind_ok {A = F} {B = W}
    (finals_in head.0.finals head.0.states 0 (line + 1 + head.0.edges) edges.1)
    (λ finals. Ok (
      record {
        fst =
            record { states = head.0.states; edges = edges.0; finals = finals.0 };
        line =
            line;
      },
      finals.1,
    )) P
    (λ finals is3. section_whole kind line bytes head edges finals is is2 is3)))

pub section_is : (kind : Kind2) (line : ℕ) (bytes : List ℕ) (x : Written × List ℕ) →
    section_in kind line bytes ≡ Ok x → IsSectionOf kind bytes x
section_is kind line bytes x is =
    ok_holds (section_in kind line bytes) x (IsSectionOf kind bytes)
    (section_inv kind line bytes) is

-- what sections of a file are as parts, with a direction and an alphabet
abbrev pub parts_of : Way → List ℕ → Sections → Parts
parts_of way letters s =
    record {
      alphabet = letters;
      way = way;
      standard = s.standard.fst;
      inconditional =
          s.inconditional.fst;
      postblank = s.postblank.fst;
      preblank = s.preblank.fst;
    }

record AreSectionsOf (bytes : List ℕ) (v : Sections × List ℕ) : Type 0 where
  whole : (way : Way) (letters : List ℕ) → bytes ≡ sections_text (parts_of way letters v.0) ++ v.1
  held : (way : Way) (letters : List ℕ) → AreHeldSections (parts_of way letters v.0)

sections_whole : (line : ℕ) (bytes : List ℕ) (a b c d : Written × List ℕ) →
    section_in Standard line bytes ≡ Ok a → section_in Inconditional (line_after a.0) a.1 ≡ Ok b →
    section_in Postblank (line_after b.0) b.1 ≡ Ok c →
    section_in Preblank (line_after c.0) c.1 ≡ Ok d
    → AreSectionsOf bytes (
      record {
        standard = a.0;
        inconditional = b.0;
        postblank =
            c.0;
        preblank = d.0;
      },
      d.1,
    )
sections_whole line bytes a b c d is is2 is3 is4 =
    let p : IsSectionOf Standard bytes a = section_is Standard line bytes a is in
    let q : IsSectionOf Inconditional a.1 b = section_is Inconditional (line_after a.0) a.1 b is2 in
    let r : IsSectionOf Postblank b.1 c = section_is Postblank (line_after b.0) b.1 c is3 in
    let s : IsSectionOf Preblank c.1 d = section_is Preblank (line_after c.0) c.1 d is4 in
    let u : List ℕ = section_text Standard a.0.fst in
    let v : List ℕ = section_text Inconditional b.0.fst in
    let w : List ℕ = section_text Postblank c.0.fst in
    let x : List ℕ = section_text Preblank d.0.fst in
    let assoc : (u ++ (v ++ (w ++ x))) ++ d.1 ≡ u ++ (v ++ (w ++ (x ++ d.1))) =
    append_assoc u (v ++ (w ++ x)) d.1
    ∙ ap (λ z. u ++ z) (append_assoc v (w ++ x) d.1
    ∙ ap (λ z. v ++ z) (append_assoc w x d.1)) in
    record {
      whole = λ way letters. p.whole
          ∙ ap (λ z. u ++ z) (q.whole
          ∙ ap (λ z. v ++ z) (r.whole ∙ ap (λ z. w ++ z) s.whole)) ∙ sym assoc;
      held = λ way letters. record {
        standard = p.held;
        inconditional = q.held;
        postblank =
            r.held;
        preblank = s.held;
      };
    }

sections_inv : (line : ℕ) (bytes : List ℕ) → IfOk (sections_in line bytes) (AreSectionsOf bytes)
unfolding sections_in
sections_inv line bytes =
    let W : Type 0 = Written × List ℕ in
    let S : Type 0 = Sections × List ℕ in
    let P : S → Type 0 = AreSectionsOf bytes in
    bind_ok {A = W} {B = S} (section_in Standard line bytes)
    (λ a. ◌>>=◌ {A = W} {B = S} (section_in Inconditional (line_after a.0) a.1)
    (λ b. ◌>>=◌ {A = W} {B = S} (section_in Postblank (line_after b.0) b.1)
    (λ c. ◌>>=◌ {A = W} {B = S} (section_in Preblank (line_after c.0) c.1)
    (λ d. Ok (
      record {
        standard = a.0;
        inconditional = b.0;
        postblank = c.0;
        preblank =
            d.0;
      },
      d.1,
    ))))) P
    (λ a is. bind_ok {A = W} {B = S} (section_in Inconditional (line_after a.0) a.1)
    (λ b. ◌>>=◌ {A = W} {B = S} (section_in Postblank (line_after b.0) b.1)
    (λ c. ◌>>=◌ {A = W} {B = S} (section_in Preblank (line_after c.0) c.1)
    (λ d. Ok (
      record {
        standard = a.0;
        inconditional = b.0;
        postblank = c.0;
        preblank =
            d.0;
      },
      d.1,
    )))) P
    (λ b is2. bind_ok {A = W} {B = S} (section_in Postblank (line_after b.0) b.1)
    (λ c. ◌>>=◌ {A = W} {B = S} (section_in Preblank (line_after c.0) c.1)
    (λ d. Ok (
      record {
        standard = a.0;
        inconditional = b.0;
        postblank = c.0;
        preblank =
            d.0;
      },
      d.1,
    ))) P
    (λ c is3. bind_ok {A = W} {B = S} (section_in Preblank (line_after c.0) c.1)
    (λ d. Ok (
      record {
        standard = a.0;
        inconditional = b.0;
        postblank = c.0;
        preblank =
            d.0;
      },
      d.1,
    )) P
    (λ d is4. sections_whole line bytes a b c d is is2 is3 is4))))

-- ---- the file

pub over_inv : (line : ℕ) (bytes none : List ℕ) → over line bytes ≡ Ok none → bytes ≡ []
over_inv line [] none h = refl
over_inv line (b ∷ bytes) none h = cc

end_inv : (line : ℕ) (bytes : List ℕ) → IfOk (end_in line bytes) (λ none. bytes ≡ codes "end\n")
unfolding end_in
end_inv line bytes = bind_ok {A = List ℕ} {B = List ℕ}
    (on_line line (word_at (codes "end\n") bytes)) (over (line + 1)) (λ none. bytes ≡ codes "end\n")
    (λ rest is. if_ok (over (line + 1) rest) (λ none. bytes ≡ codes "end\n")
    (λ none is2. word_is (codes "end\n") bytes rest
    (on_line_some line (word_at (codes "end\n") bytes) rest is)
    ∙ ap (λ z. codes "end\n" ++ z) (over_inv (line + 1) rest none is2)
    ∙ append-nil (codes "end\n")))

pub header_some : {A : Type 0} (r : Option A) (x : A) → on_header r ≡ Ok x → r ≡ Some x
header_some {A} (Some y) x e = ap (λ (z : A). let o : Option A = Some z in o) (same_Ok y x e)
header_some None x e = cc

either_by : {A : Type 0} (a b : A) (first second bytes : List ℕ) (r q : Option (List ℕ)) →
    ((rest : List ℕ) → r ≡ Some rest → bytes ≡ first ++ rest) →
    ((rest : List ℕ) → q ≡ Some rest → bytes ≡ second ++ rest)
    → IfSome (either_at a b r q) (λ x. ((x.0 ≡ a) × (bytes ≡ first ++ x.1))
    ⊎ ((x.0 ≡ b) × (bytes ≡ second ++ x.1)))
either_by a b first second bytes (Some rest) q f g = inl (refl, f rest refl)
either_by a b first second bytes None (Some rest) f g = inr (refl, g rest refl)
either_by a b first second bytes None None f g = tt

either_is : {A : Type 0} (a b : A) (first second bytes : List ℕ) →
    IfSome (either_at a b (word_at first bytes) (word_at second bytes))
    (λ x. ((x.0 ≡ a) × (bytes ≡ first ++ x.1)) ⊎ ((x.0 ≡ b) × (bytes ≡ second ++ x.1)))
either_is {A} a b first second bytes =
    either_by a b first second bytes (word_at first bytes) (word_at second bytes)
    (λ rest e. word_is first bytes rest e) (λ rest e. word_is second bytes rest e)

-- the lines before the alphabet are those of the direction
pub version_is : (text : List ℕ) →
    IfSome (version_at text) (λ x. ((x.0 ≡ false) × (text ≡ codes "LTC1\n" ++ x.1))
    ⊎ ((x.0 ≡ true) × (text ≡ codes "LTC2\n" ++ x.1)))
unfolding version_at
version_is text = either_is false true (codes "LTC1\n") (codes "LTC2\n") text

pub way_is : (bytes : List ℕ) →
    IfSome (way_at bytes) (λ x. ((x.0 ≡ Lr) × (bytes ≡ codes "way lr\n" ++ x.1))
    ⊎ ((x.0 ≡ Rl) × (bytes ≡ codes "way rl\n" ++ x.1)))
unfolding way_at
way_is bytes = either_is Lr Rl (codes "way lr\n") (codes "way rl\n") bytes

told : (text rest : List ℕ) (x : Way × List ℕ) → text ≡ codes "LTC2\n" ++ rest →
    ((x.0 ≡ Lr) × (rest ≡ codes "way lr\n" ++ x.1))
    ⊎ ((x.0 ≡ Rl) × (rest ≡ codes "way rl\n" ++ x.1)) → text ≡ header_text x.0 ++ x.1
told text rest x e (inl w) = e ∙ ap (λ z. codes "LTC2\n" ++ z) w.1
    ∙ ap (λ (z : Way). header_text z ++ x.1) (sym w.0)
told text rest x e (inr w) = e ∙ ap (λ z. codes "LTC2\n" ++ z) w.1
    ∙ ap (λ (z : Way). header_text z ++ x.1) (sym w.0)

way_whole : (text rest : List ℕ) (tells : Bool) (x : Way × List ℕ) →
    ((tells ≡ false) × (text ≡ codes "LTC1\n" ++ rest))
    ⊎ ((tells ≡ true) × (text ≡ codes "LTC2\n" ++ rest)) → way_in tells rest ≡ Ok x →
    text ≡ header_text x.0 ++ x.1
way_whole text rest false x (inl v) h =
    v.1 ∙ ap (λ (z : Way × List ℕ). header_text z.0 ++ z.1) (same_Ok (Untold, rest) x h)
way_whole text rest true x (inl v) h = cc
way_whole text rest false x (inr v) h = cc
way_whole text rest true x (inr v) h =
    told text rest x v.1 (some_holds (way_at rest) x
    (λ y. ((y.0 ≡ Lr) × (rest ≡ codes "way lr\n" ++ y.1))
    ⊎ ((y.0 ≡ Rl) × (rest ≡ codes "way rl\n" ++ y.1))) (way_is rest)
    (on_line_some 2 (way_at rest) x h))

pub header_inv : (text : List ℕ) → IfOk (header_in text) (λ x. text ≡ header_text x.0 ++ x.1)
unfolding header_in
header_inv text =
    let V : Type 0 = Bool × List ℕ in
    let H : Type 0 = Way × List ℕ in
    let P : H → Type 0 = λ x. text ≡ header_text x.0 ++ x.1 in
    bind_ok {A = V} {B = H} (on_header (version_at text)) (λ first. way_in first.0 first.1) P
    (λ first is. if_ok (way_in first.0 first.1) P
    (λ x is2. way_whole text first.1 first.0 x
    (some_holds (version_at text) first (λ y. ((y.0 ≡ false) × (text ≡ codes "LTC1\n" ++ y.1))
    ⊎ ((y.0 ≡ true) × (text ≡ codes "LTC2\n" ++ y.1))) (version_is text)
    (header_some (version_at text) first is)) is2))

abbrev pub file_parts_of : File → Parts
file_parts_of f = parts_of f.way f.alphabet f.sections

pub record IsFileOf (text : List ℕ) (f : File) : Type 0 where
  pub whole : text ≡ compiled_text (file_parts_of f)
  pub held : IsHeld (file_parts_of f)

file_whole : (text : List ℕ) (header : Way × List ℕ) (alphabet : List ℕ × List ℕ)
    (sections : Sections × List ℕ) (none : List ℕ) → header_in text ≡ Ok header →
    on_line (alphabet_place header.0) (alphabet_at header.1) ≡ Ok alphabet →
    sections_in (alphabet_place header.0 + 1) alphabet.1 ≡ Ok sections
    → end_in (line_after sections.0.preblank) sections.1 ≡ Ok none →
    IsFileOf text (record { way = header.0; alphabet = alphabet.0; sections = sections.0 })
unfolding compiled_text
file_whole text header alphabet sections none is is2 is3 is4 =
    let line : ℕ = alphabet_place header.0 in
    let first : List ℕ = header_text header.0 in
    let a : text ≡ first ++ header.1 =
    ok_holds (header_in text) header (λ x. text ≡ header_text x.0 ++ x.1)
    (header_inv text) is in
    let b : IsAlphabetOf header.1 alphabet =
    some_holds (alphabet_at header.1) alphabet (IsAlphabetOf header.1) (alphabet_inv header.1)
    (on_line_some line (alphabet_at header.1) alphabet is2) in
    let c : AreSectionsOf alphabet.1 sections =
    ok_holds (sections_in (line + 1) alphabet.1) sections (AreSectionsOf alphabet.1)
    (sections_inv (line + 1) alphabet.1) is3 in
    let d : sections.1 ≡ codes "end\n" =
    ok_holds (end_in (line_after sections.0.preblank) sections.1) none
    (λ z. sections.1 ≡ codes "end\n")
    (end_inv (line_after sections.0.preblank) sections.1) is4 in
    let s : List ℕ = sections_text (parts_of header.0 alphabet.0 sections.0) in
    record {
      whole = a ∙ ap (λ z. first ++ z)
          (b.0 ∙ ap (λ z. alphabet_text alphabet.0 ++ z) (c.whole header.0 alphabet.0
          ∙ ap (λ z. s ++ z) d)) ∙ sym
          (append_assoc first (alphabet_text alphabet.0) (s ++ codes "end\n"));
      held = record { letters = b.1; sections = c.held header.0 alphabet.0 };
    }

pub file_inv : (text : List ℕ) → IfOk (file_in text) (IsFileOf text)
unfolding file_in
file_inv text =
    let H : Type 0 = Way × List ℕ in
    let A2 : Type 0 = List ℕ × List ℕ in
    let S : Type 0 = Sections × List ℕ in
    let P : File → Type 0 = IsFileOf text in
    bind_ok {A = H} {B = File} (header_in text)
    (λ header. ◌>>=◌ {A = A2} {B = File}
    (on_line (alphabet_place header.0) (alphabet_at header.1))
    (λ alphabet. ◌>>=◌ {A = S} {B = File} (sections_in (alphabet_place header.0 + 1) alphabet.1)
    (λ sections. ◌>>=◌ {A = List ℕ} {B = File}
    (end_in (line_after sections.0.preblank) sections.1)
    (λ none. Ok (record { way = header.0; alphabet = alphabet.0; sections = sections.0 }))))) P
    (λ header is. bind_ok {A = A2} {B = File}
    (on_line (alphabet_place header.0) (alphabet_at header.1))
    (λ alphabet. ◌>>=◌ {A = S} {B = File} (sections_in (alphabet_place header.0 + 1) alphabet.1)
    (λ sections. ◌>>=◌ {A = List ℕ} {B = File}
    (end_in (line_after sections.0.preblank) sections.1)
    (λ none. Ok (record { way = header.0; alphabet = alphabet.0; sections = sections.0 })))) P
    (λ alphabet is2. bind_ok {A = S} {B = File}
    (sections_in (alphabet_place header.0 + 1) alphabet.1)
    (λ sections. ◌>>=◌ {A = List ℕ} {B = File}
    (end_in (line_after sections.0.preblank) sections.1)
    (λ none. Ok (record { way = header.0; alphabet = alphabet.0; sections = sections.0 }))) P
    (λ sections is3. bind_ok {A = List ℕ} {B = File}
    (end_in (line_after sections.0.preblank) sections.1)
    (λ none. Ok (record { way = header.0; alphabet = alphabet.0; sections = sections.0 })) P
    (λ none is4. file_whole text header alphabet sections none is is2 is3 is4))))

-- ---- both ways

left_of : (w : Written) (m : Machine) → IsSpelled w m → IsLeftOf w.fst m
left_of w m s = record { cycles = s.fine.cycles; sides = s.fine.sides; trimmed = s.trimmed }

spelled_of : (line : ℕ) (raw m : Machine) → IsLeftOf raw m → IsSpelled (written_at line raw) m
spelled_of line raw m l =
    record { fine = record { cycles = l.cycles; sides = l.sides }; trimmed = l.trimmed }

text_of_spelled : (text : List ℕ) (c : Parts) → Spells text c → IsTextOf text c
text_of_spelled text c s =
    let f : IsFileOf text s.file =
    ok_holds (file_in text) s.file (IsFileOf text) (file_inv text) s.lines in
    let r : IsRawFile s.file = ok_holds (file_in text) s.file IsRawFile (file_raw text) s.lines in
    record {
      raw = file_parts_of s.file;
      text_is = f.whole;
      are = record {
        alphabet = r.alphabet;
        standard = r.sections.standard;
        inconditional =
            r.sections.inconditional;
        postblank = r.sections.postblank;
        preblank =
            r.sections.preblank;
      };
      held = f.held;
      way = s.way;
      alphabet = s.alphabet;
      standard = left_of s.file.sections.standard c.standard s.sections.standard;
      inconditional = left_of s.file.sections.inconditional c.inconditional
          s.sections.inconditional;
      postblank = left_of s.file.sections.postblank c.postblank s.sections.postblank;
      preblank = left_of s.file.sections.preblank c.preblank s.sections.preblank;
    }

spelled_by_text : (text : List ℕ) (c : Parts) → IsTextOf text c → Spells text c
spelled_by_text text c t = record {
  file = placed_file t.raw;
  lines = ap file_in t.text_is ∙ file_back t.raw t.are t.held;
  way = t.way;
  alphabet = t.alphabet;
  sections = record {
    standard = spelled_of _ t.raw.standard c.standard t.standard;
    inconditional =
        spelled_of _ t.raw.inconditional c.inconditional t.inconditional;
    postblank =
        spelled_of _ t.raw.postblank c.postblank t.postblank;
    preblank =
        spelled_of _ t.raw.preblank c.preblank t.preblank;
  };
}

pub spells_texts : (text : List ℕ) (c : Parts) → Spells text c ↔ IsTextOf text c
spells_texts text c = (text_of_spelled text c, spelled_by_text text c)
