-- Lines with numbers of any size: what is read of them, and that they are read again.
use Rattle.std.proofs.Common.{◌≡◌, ℕ, List, ◌∷◌, ◌++◌, refl, sym, ◌∙◌, ap, append_assoc, IfSome, Option, Some}
use Rattle.std.specs.Prelude.{codes}
use Rattle.ap_fst.specs.declared.compiled.Kind2.{Kind2}
use Rattle.ap_fst.specs.declared.label.Edge.{Edge}
use Rattle.ap_fst.specs.declared.label.Label.{Label}
use Rattle.ap_binary.specs.Faults.{IsNumeral, IsEdgeLine, HasEdge, HasHead}
use Rattle.ap_binary.specs.Reading.{◌>>=◌}
use Rattle.ap_binary.specs.Pieces.{byte_at, limited, state_of, number_then, label_at, edge_at, final_at, kind_at, head_at}
use Rattle.ap_binary.specs.Text.{side_text, then_space, then_end, section_name}
use Rattle.ap_binary.specs.declared.heads.Head.{Head}
use Rattle.ap_binary.proofs.AnyNumbers.{IsNumberRead, number_read, number_again, clamped}
use Rattle.ap_binary.proofs.Inverse.{IsLabelOf, label_inv, byte_is, kind_inv}
use Rattle.ap_binary.proofs.Labels.{IsGoodLabel, label_good}
use Rattle.ap_binary.proofs.Numerals.{byte_back}
use Rattle.ap_binary.proofs.Options.{bind_some, some_holds}
use Rattle.ap_binary.proofs.Rereading.{label_back, kind_back, spaced, ended, four}

-- ---- edges

-- an edge whose states are as read, where a number over 64 bits is as good as the limit
abbrev pub clamped_edge : Edge → Edge
clamped_edge e = record { from = clamped e.from; label = e.label; to = clamped e.to }

pub record IsEdgeRead (bytes : List ℕ) (v : Edge × List ℕ) : Type 0 where
  pub e : Edge
  pub line : List ℕ
  pub form : IsEdgeLine line e
  pub is : bytes ≡ line ++ v.1
  pub read : v.0 ≡ clamped_edge e

edge_whole : (bytes after : List ℕ) (from to : Option ℕ × List ℕ) (label : Label × List ℕ) →
    number_then 32 bytes ≡ Some from → label_at from.1 ≡ Some label →
    byte_at 32 label.1 ≡ Some after → number_then 10 after ≡ Some to
    → IsEdgeRead bytes (
      record {
        from = state_of from.0;
        label = label.0;
        to =
            state_of to.0;
      },
      to.1,
    )
edge_whole bytes after from to label is is2 is3 is4 =
    let a : IsNumberRead 32 bytes from = number_read 32 bytes from is in
    let d : IsNumberRead 10 after to = number_read 10 after to is4 in
    let l : IsLabelOf from.1 label =
    some_holds (label_at from.1) label (IsLabelOf from.1) (label_inv from.1) is2 in
    let g : IsGoodLabel label.0 =
    some_holds (label_at from.1) label (λ x. IsGoodLabel x.0) (label_good from.1) is2 in
    let f : List ℕ = then_space a.digits in
    let left : List ℕ = then_space (side_text label.0.left) in
    let right : List ℕ = side_text label.0.right in
    let t : List ℕ = then_end d.digits in
    let tail : label.1 ≡ 32 ∷ (t ++ to.1) = byte_is 32 label.1 after is3
    ∙ ap (λ z. 32 ∷ z) (d.is ∙ sym (ended d.digits to.1)) in
    let middle : from.1 ≡ left ++ (then_space right ++ (t ++ to.1)) =
    l.0 ∙ ap (λ z. left ++ z) (ap (λ z. right ++ z) tail ∙ sym (spaced right (t ++ to.1))) in
    let whole : bytes ≡ f ++ (left ++ (then_space right ++ (t ++ to.1))) =
    a.is ∙ ap (λ z. a.digits ++ 32 ∷ z) middle
    ∙ sym (spaced a.digits (left ++ (then_space right ++ (t ++ to.1)))) in
    record {
      e = record { from = a.n; label = label.0; to = d.n };
      line = f ++ ((left ++ then_space right) ++ t);
      form = record {
        from = a.digits;
        to = d.digits;
        from_is = a.numeral;
        to_is =
            d.numeral;
        sided = g.sided;
        plain = g.plain;
        held = l.1;
        is = refl;
      };
      is = whole ∙ sym (four f left (then_space right) t to.1);
      read = ap (λ (n : Option ℕ). let z : Edge =
          record { from = state_of n; label = label.0; to = state_of to.0 } in z) a.read
          ∙ ap (λ (n : Option ℕ). let z : Edge =
          record { from = clamped a.n; label = label.0; to = state_of n } in z) d.read;
    }

pub edge_found : (bytes : List ℕ) → IfSome (edge_at bytes) (IsEdgeRead bytes)
unfolding edge_at
edge_found bytes =
    let N : Type 0 = Option ℕ × List ℕ in
    let E : Type 0 = Edge × List ℕ in
    bind_some {A = N} {B = E} (number_then 32 bytes)
    (λ from. ◌>>=◌ {A = Label × List ℕ} {B = E} (label_at from.1)
    (λ label. ◌>>=◌ {A = List ℕ} {B = E} (byte_at 32 label.1)
    (λ after. ◌>>=◌ {A = N} {B = E} (number_then 10 after)
    (λ to. Some (
      record { from = state_of from.0; label = label.0; to = state_of to.0 },
      to.1,
    ))))) (IsEdgeRead bytes)
    (λ from is. bind_some {A = Label × List ℕ} {B = E} (label_at from.1)
    (λ label. ◌>>=◌ {A = List ℕ} {B = E} (byte_at 32 label.1)
    (λ after. ◌>>=◌ {A = N} {B = E} (number_then 10 after)
    (λ to. Some (
      record { from = state_of from.0; label = label.0; to = state_of to.0 },
      to.1,
    )))) (IsEdgeRead bytes)
    (λ label is2. bind_some {A = List ℕ} {B = E} (byte_at 32 label.1)
    (λ after. ◌>>=◌ {A = N} {B = E} (number_then 10 after)
    (λ to. Some (record { from = state_of from.0; label = label.0; to = state_of to.0 }, to.1)))
    (IsEdgeRead bytes)
    (λ after is3. bind_some {A = N} {B = E} (number_then 10 after)
    (λ to. Some (record { from = state_of from.0; label = label.0; to = state_of to.0 }, to.1))
    (IsEdgeRead bytes)
    (λ to is4. edge_whole bytes after from to label is is2 is3 is4))))

edge_parts : (bytes after after2 rest : List ℕ) (a b : Option ℕ) (l : Label) →
    number_then 32 bytes ≡ Some (a, after) → label_at after ≡ Some (l, 32 ∷ after2) →
    number_then 10 after2 ≡ Some (b, rest) →
    edge_at bytes ≡ Some (record { from = state_of a; label = l; to = state_of b }, rest)
unfolding edge_at
edge_parts bytes after after2 rest a b l p q r = rw (p, q, byte_back 32 after2, r) refl

edge_again : (line rest : List ℕ) (e : Edge) → IsEdgeLine line e →
    edge_at (line ++ rest) ≡ Some (clamped_edge e, rest)
edge_again line rest e form =
    let left : List ℕ = then_space (side_text e.label.left) in
    let right : List ℕ = then_space (side_text e.label.right) in
    let last : List ℕ = then_end form.to in
    ap (λ z. edge_at (z ++ rest)) form.is
    ∙ ap edge_at (four (then_space form.from) left right last rest)
    ∙ edge_parts (then_space form.from ++ (left ++ (right ++ (last ++ rest))))
    (left ++ (right ++ (last ++ rest))) (last ++ rest) rest (limited e.from)
    (limited e.to) e.label
    (ap (number_then 32) (spaced form.from (left ++ (right ++ (last ++ rest))))
    ∙ number_again form.from e.from 32 (left ++ (right ++ (last ++ rest))) form.from_is refl)
    (label_back e.label (last ++ rest) form.held form.plain form.sided)
    (ap (number_then 10) (ended form.to rest) ∙ number_again form.to e.to 10 rest form.to_is refl)

pub has_edge : (before : Option Edge) (bytes : List ℕ) (e : Edge) (h : HasEdge before bytes e) →
    edge_at bytes ≡ Some (clamped_edge e, h.rest)
has_edge before bytes e h = ap edge_at h.is ∙ edge_again h.line h.rest e h.form

-- ---- final states

pub record IsFinalRead (bytes : List ℕ) (v : ℕ × List ℕ) : Type 0 where
  pub digits : List ℕ
  pub s : ℕ
  pub form : IsNumeral digits s
  pub is : bytes ≡ then_end digits ++ v.1
  pub read : v.0 ≡ clamped s

pub final_found : (bytes : List ℕ) → IfSome (final_at bytes) (IsFinalRead bytes)
unfolding final_at
final_found bytes = bind_some {A = Option ℕ × List ℕ} {B = ℕ × List ℕ} (number_then 10 bytes)
    (λ n. Some (state_of n.0, n.1)) (IsFinalRead bytes)
    (λ n is.
    let r : IsNumberRead 10 bytes n = number_read 10 bytes n is in
    record {
      digits = r.digits;
      s = r.n;
      form = r.numeral;
      is = r.is ∙ sym (ended r.digits n.1);
      read = ap state_of r.read;
    })

pub final_again : (digits rest : List ℕ) (s : ℕ) → IsNumeral digits s →
    final_at (then_end digits ++ rest) ≡ Some (clamped s, rest)
unfolding final_at
final_again digits rest s form =
    let e : number_then 10 (then_end digits ++ rest) ≡ Some (limited s, rest) =
    ap (number_then 10) (ended digits rest) ∙ number_again digits s 10 rest form refl in
    rw e refl

-- ---- the first line of a section

pub record IsHeadRead (kind : Kind2) (bytes : List ℕ) (v : Head × List ℕ) : Type 0 where
  pub states : ℕ
  pub edges : ℕ
  pub finals : ℕ
  pub has : HasHead kind bytes states edges finals
  pub read : v.0 ≡ record {
    states = limited states;
    edges = limited edges;
    finals =
        limited finals;
  }

head_whole : (kind : Kind2) (bytes name : List ℕ) (states edges finals : Option ℕ × List ℕ) →
    kind_at kind bytes ≡ Some name → number_then 32 name ≡ Some states →
    number_then 32 states.1 ≡ Some edges → number_then 10 edges.1 ≡ Some finals
    → IsHeadRead kind bytes (
      record {
        states = states.0;
        edges = edges.0;
        finals =
            finals.0;
      },
      finals.1,
    )
head_whole kind bytes name states edges finals is is2 is3 is4 =
    let k : List ℕ = codes "section " ++ then_space (section_name kind) in
    let whole : bytes ≡ k ++ name =
    some_holds (kind_at kind bytes) name (λ rest. bytes ≡ k ++ rest) (kind_inv kind bytes) is in
    let a : IsNumberRead 32 name states = number_read 32 name states is2 in
    let b : IsNumberRead 32 states.1 edges = number_read 32 states.1 edges is3 in
    let c : IsNumberRead 10 edges.1 finals = number_read 10 edges.1 finals is4 in
    let x : List ℕ = then_space a.digits in
    let y : List ℕ = then_space b.digits in
    let z : List ℕ = then_end c.digits in
    let c' : edges.1 ≡ z ++ finals.1 = c.is ∙ sym (ended c.digits finals.1) in
    let b' : states.1 ≡ y ++ (z ++ finals.1) = b.is ∙ sym (spaced b.digits edges.1)
    ∙ ap (λ w. y ++ w) c' in
    let a' : name ≡ x ++ (y ++ (z ++ finals.1)) = a.is ∙ sym (spaced a.digits states.1)
    ∙ ap (λ w. x ++ w) b' in
    let assoc : (k ++ (x ++ (y ++ z))) ++ finals.1 ≡ k ++ (x ++ (y ++ (z ++ finals.1))) =
    append_assoc k (x ++ (y ++ z)) finals.1
    ∙ ap (λ w. k ++ w) (append_assoc x (y ++ z) finals.1
    ∙ ap (λ w. x ++ w) (append_assoc y z finals.1)) in
    record {
      states = a.n;
      edges = b.n;
      finals = c.n;
      has = record {
        first = a.digits;
        second = b.digits;
        third = c.digits;
        rest =
            finals.1;
        states_is = a.numeral;
        edges_is = b.numeral;
        finals_is = c.numeral;
        is =
            whole ∙ ap (λ w. k ++ w) a' ∙ sym assoc;
      };
      read = ap (λ (n : Option ℕ). let h : Head =
          record { states = n; edges = edges.0; finals = finals.0 } in h) a.read
          ∙ ap (λ (n : Option ℕ). let h : Head =
          record { states = limited a.n; edges = n; finals = finals.0 } in h) b.read
          ∙ ap (λ (n : Option ℕ). let h : Head =
          record { states = limited a.n; edges = limited b.n; finals = n } in h) c.read;
    }

pub head_found : (kind : Kind2) (bytes : List ℕ) →
    IfSome (head_at kind bytes) (IsHeadRead kind bytes)
unfolding head_at
head_found kind bytes =
    let N : Type 0 = Option ℕ × List ℕ in
    let H : Type 0 = Head × List ℕ in
    bind_some {A = List ℕ} {B = H} (kind_at kind bytes)
    (λ name. ◌>>=◌ {A = N} {B = H} (number_then 32 name)
    (λ states. ◌>>=◌ {A = N} {B = H} (number_then 32 states.1)
    (λ edges. ◌>>=◌ {A = N} {B = H} (number_then 10 edges.1)
    (λ finals. Some (
      record { states = states.0; edges = edges.0; finals = finals.0 },
      finals.1,
    ))))) (IsHeadRead kind bytes)
    (λ name is. bind_some {A = N} {B = H} (number_then 32 name)
    (λ states. ◌>>=◌ {A = N} {B = H} (number_then 32 states.1)
    (λ edges. ◌>>=◌ {A = N} {B = H} (number_then 10 edges.1)
    (λ finals. Some (
      record { states = states.0; edges = edges.0; finals = finals.0 },
      finals.1,
    )))) (IsHeadRead kind bytes)
    (λ states is2. bind_some {A = N} {B = H} (number_then 32 states.1)
    (λ edges. ◌>>=◌ {A = N} {B = H} (number_then 10 edges.1)
    (λ finals. Some (
      record { states = states.0; edges = edges.0; finals = finals.0 },
      finals.1,
    ))) (IsHeadRead kind bytes)
    (λ edges is3. bind_some {A = N} {B = H} (number_then 10 edges.1)
    (λ finals. Some (
      record { states = states.0; edges = edges.0; finals = finals.0 },
      finals.1,
    )) (IsHeadRead kind bytes)
    (λ finals is4. head_whole kind bytes name states edges finals is is2 is3 is4))))

head_parts : (kind : Kind2) (bytes a b c rest : List ℕ) (states edges finals : Option ℕ) →
    kind_at kind bytes ≡ Some a → number_then 32 a ≡ Some (states, b) →
    number_then 32 b ≡ Some (edges, c) → number_then 10 c ≡ Some (finals, rest)
    → head_at kind bytes ≡ Some (record { states = states; edges = edges; finals = finals }, rest)
unfolding head_at
head_parts kind bytes a b c rest states edges finals p q r s = rw (p, q, r, s) refl

pub has_head : (kind : Kind2) (bytes : List ℕ) (states edges finals : ℕ)
    (h : HasHead kind bytes states edges finals) →
    head_at kind bytes ≡ Some
    (record { states = limited states; edges = limited edges; finals = limited finals }, h.rest)
has_head kind bytes states edges finals h =
    let k : List ℕ = codes "section " ++ then_space (section_name kind) in
    let a : List ℕ = then_space h.first in
    let b : List ℕ = then_space h.second in
    let c : List ℕ = then_end h.third in
    let e : (k ++ (a ++ (b ++ c))) ++ h.rest ≡ k ++ (a ++ (b ++ (c ++ h.rest))) =
    append_assoc k (a ++ (b ++ c)) h.rest
    ∙ ap (λ z. k ++ z) (append_assoc a (b ++ c) h.rest
    ∙ ap (λ z. a ++ z) (append_assoc b c h.rest)) in
    ap (head_at kind) (h.is ∙ e)
    ∙ head_parts kind (k ++ (a ++ (b ++ (c ++ h.rest)))) (a ++ (b ++ (c ++ h.rest)))
    (b ++ (c ++ h.rest)) (c ++ h.rest) h.rest (limited states) (limited edges) (limited finals)
    (kind_back kind (a ++ (b ++ (c ++ h.rest))))
    (ap (number_then 32) (spaced h.first (b ++ (c ++ h.rest)))
    ∙ number_again h.first states 32 (b ++ (c ++ h.rest)) h.states_is refl)
    (ap (number_then 32) (spaced h.second (c ++ h.rest))
    ∙ number_again h.second edges 32 (c ++ h.rest) h.edges_is refl)
    (ap (number_then 10) (ended h.third h.rest)
    ∙ number_again h.third finals 10 h.rest h.finals_is refl)
