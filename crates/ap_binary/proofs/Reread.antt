-- The lines of a compiled dictionary that is written are read again.
use Rattle.std.proofs.Common.{◌≡◌, inl, inr, ℕ, suc, zero, ◌+◌, ◌^◌, ◌<◌, ◌≤◌, eqb, true, false, not, nat_le, nat_lt, List, [], ◌∷◌, ◌++◌, length, refl, ◌∙◌, ap, arith, append_assoc, Option, Some, None, Ok}
use Rattle.std.specs.Prelude.{codes}
use Rattle.std.specs.List.{flat_map, list_all}
use Rattle.std.specs.Ordering.{nat_cmp, is_lt}
use Rattle.std.proofs.lemmas.Bool.Decides.{nat_tests}
use Rattle.ap_symbol.specs.Words.{is_white}
use Rattle.ap_fst.specs.Lists.{IsIn, Ascends}
use Rattle.ap_fst.specs.Machines.{Machine, IsEdgeWithin}
use Rattle.ap_fst.specs.Order.{edge_cmp}
use Rattle.ap_fst.specs.Sections.{Parts, IsAlphabet, is_plain_label}
use Rattle.ap_fst.specs.declared.compiled.Kind2.{Kind2}
use Rattle.ap_fst.specs.declared.compiled.Kind2.TheVariants.{Standard, Inconditional, Postblank, Preblank}
use Rattle.ap_fst.specs.declared.compiled.Way.{Way}
use Rattle.ap_fst.specs.declared.compiled.Way.TheVariants.{Lr, Rl, Untold}
use Rattle.ap_fst.specs.declared.label.Edge.{Edge}
use Rattle.ap_fst.proofs.PlaceLaws.{less_from_cmp}
use Rattle.ap_binary.specs.Faults.{written_at, placed_sections}
use Rattle.ap_binary.specs.Grammar.{IsRaw, AreRawParts}
use Rattle.ap_binary.specs.Held.{is_held_edge, IsHeldMachine, IsHeld}
use Rattle.ap_binary.specs.Pieces.{word_at, version_at, way_at, is_character, edge_at, final_at, head_at, alphabet_at}
use Rattle.ap_binary.specs.Lines.{follows, is_within, edge_line, edges_in, final_line, finals_in, head_line, section_in, line_after, sections_in, end_in, header_in, alphabet_place, file_in}
use Rattle.ap_binary.specs.Text.{edge_text, final_text, head_text, section_text, sections_text, alphabet_text, header_text, compiled_text}
use Rattle.ap_binary.specs.declared.file.File.{File}
use Rattle.ap_binary.specs.declared.heads.Counts.{Counts}
use Rattle.ap_binary.specs.declared.sections.Sections.{Sections}
use Rattle.ap_binary.specs.declared.sections.Written.{Written}
use Rattle.ap_binary.proofs.Bools.{not_true}
use Rattle.ap_binary.proofs.Letters.{AreLetters}
use Rattle.ap_binary.proofs.Numerals.{word_back}
use Rattle.ap_binary.proofs.Rereading.{IsWritable, edge_back, final_back, head_back}
use Rattle.ap_binary.proofs.Realphabet.{pass_at, alphabet_back}

-- ---- edges

pub line_edge : (states line : ℕ) (before : Option Edge) (bytes : List ℕ) (x : Edge × List ℕ) →
    edge_at bytes ≡ Some x → follows before x.0 ≡ true → is_within states x.0 ≡ true →
    edge_line states before line bytes ≡ Ok x
unfolding edge_line
line_edge states line before bytes x p f w = rw (p, f, w) refl

pub record AreWritten (states : ℕ) (before : Option Edge) (es : List Edge) : Type 0 where
  pub ascend : Ascends edge_cmp es
  pub behind : (e : Edge) → IsIn e es → follows before e ≡ true
  pub within : (e : Edge) → IsIn e es → is_within states e ≡ true
  pub writable : (e : Edge) → IsIn e es → IsWritable e

rest_written : (states : ℕ) (before : Option Edge) (e : Edge) (es : List Edge) →
    AreWritten states before (e ∷ es) → AreWritten states (Some e) es
rest_written states before e es are = record {
  ascend = are.ascend.1;
  behind = λ d i. ap is_lt (are.ascend.0 d i);
  within = λ d i. are.within d (inr i);
  writable = λ d i. are.writable d (inr i);
}

pub edges_back : (n states line : ℕ) (before : Option Edge) (es : List Edge) (rest : List ℕ) →
    length es ≡ n → AreWritten states before es →
    edges_in n states before line (flat_map edge_text es ++ rest) ≡ Ok (es, rest)
unfolding edges_in
edges_back zero states line before [] rest e are = refl
edges_back (suc n) states line before [] rest e are = absurd (omega arith)
edges_back zero states line before (d ∷ es) rest e are = absurd (omega arith)
edges_back (suc n) states line before (d ∷ es) rest e are =
    let more : List ℕ = flat_map edge_text es ++ rest in
    let assoc : flat_map edge_text (d ∷ es) ++ rest ≡ edge_text d ++ more =
    append_assoc (edge_text d) (flat_map edge_text es) rest in
    let first : edge_line states before line (edge_text d ++ more) ≡ Ok (d, more) =
    line_edge states line before (edge_text d ++ more) (d, more)
    (edge_back d more (are.writable d (inl refl))) (are.behind d (inl refl))
    (are.within d (inl refl)) in
    let later : edges_in n states (Some d) (line + 1) more ≡ Ok (es, rest) =
    edges_back n states (line + 1) (Some d) es rest (omega arith)
    (rest_written states before d es are) in
    ap (edges_in (suc n) states before line) assoc ∙ rw (first, later) refl

-- ---- final states

pub line_final : (states least line : ℕ) (bytes : List ℕ) (x : ℕ × List ℕ) →
    final_at bytes ≡ Some x → nat_le least x.0 ≡ true → nat_lt x.0 states ≡ true →
    final_line states least line bytes ≡ Ok x
unfolding final_line
line_final states least line bytes x p f w = rw (p, f, w) refl

record AreWrittenFinals (states least : ℕ) (fs : List ℕ) : Type 0 where
  ascend : Ascends nat_cmp fs
  behind : (s : ℕ) → IsIn s fs → least ≤ s
  within : (s : ℕ) → IsIn s fs → s < states

rest_finals : (states least s : ℕ) (fs : List ℕ) → AreWrittenFinals states least (s ∷ fs) →
    AreWrittenFinals states (s + 1) fs
rest_finals states least s fs are = record {
  ascend = are.ascend.1;
  behind = λ d i. let lt : s < d = less_from_cmp s d (are.ascend.0 d i) in omega arith;
  within = λ d i. are.within d (inr i);
}

finals_back : (n states least line : ℕ) (fs rest : List ℕ) → length fs ≡ n → states < 2 ^ 64 →
    AreWrittenFinals states least fs →
    finals_in n states least line (flat_map final_text fs ++ rest) ≡ Ok (fs, rest)
unfolding finals_in
finals_back zero states least line [] rest e small are = refl
finals_back (suc n) states least line [] rest e small are = absurd (omega arith)
finals_back zero states least line (s ∷ fs) rest e small are = absurd (omega arith)
finals_back (suc n) states least line (s ∷ fs) rest e small are =
    let more : List ℕ = flat_map final_text fs ++ rest in
    let assoc : flat_map final_text (s ∷ fs) ++ rest ≡ final_text s ++ more =
    append_assoc (final_text s) (flat_map final_text fs) rest in
    let behind : least ≤ s = are.behind s (inl refl) in
    let within : s < states = are.within s (inl refl) in
    let first : final_line states least line (final_text s ++ more) ≡ Ok (s, more) =
    line_final states least line (final_text s ++ more) (s, more)
    (final_back s more (omega arith)) (grind (arith, nat_tests, behind))
    (grind (arith, nat_tests, within)) in
    let later : finals_in n states (s + 1) (line + 1) more ≡ Ok (fs, rest) =
    finals_back n states (s + 1) (line + 1) fs rest (omega arith) small
    (rest_finals states least s fs are) in
    ap (finals_in (suc n) states least line) assoc ∙ rw (first, later) refl

-- ---- sections

pub head_line_back : (kind : Kind2) (line states edges finals : ℕ) (bytes rest : List ℕ) →
    0 < states → head_at kind bytes
    ≡ Some (record { states = Some states; edges = Some edges; finals = Some finals }, rest)
    → head_line kind line bytes
    ≡ Ok (record { states = states; edges = edges; finals = finals }, rest)
unfolding head_line
head_line_back kind line states edges finals bytes rest some p = let b : eqb states 0 ≡ false =
    grind (arith, nat_tests, some) in rw (p, b) refl

section_parts : (kind : Kind2) (line : ℕ) (bytes a b rest : List ℕ) (k : Counts) (es : List Edge)
    (fs : List ℕ) → head_line kind line bytes ≡ Ok (k, a) →
    edges_in k.edges k.states None (line + 1) a ≡ Ok (es, b) →
    finals_in k.finals k.states 0 (line + 1 + k.edges) b ≡ Ok (fs, rest)
    → section_in kind line bytes
    ≡ Ok (
      record {
        fst = record { states = k.states; edges = es; finals = fs };
        line =
            line;
      },
      rest,
    )
unfolding section_in
section_parts kind line bytes a b rest k es fs p q r = rw (p, q, r) refl

pub within_test : (states : ℕ) (e : Edge) → IsEdgeWithin states e → is_within states e ≡ true
within_test states e w =
    let p : e.from < states = w.from_in in
    let q : e.to < states = w.to_in in
    let a : nat_lt e.from states ≡ true = grind (arith, nat_tests, p) in
    let b : nat_lt e.to states ≡ true = grind (arith, nat_tests, q) in
    rw (a, b) refl

pub written_listed : (states : ℕ) (es : List Edge) → states < 2 ^ 64 → Ascends edge_cmp es →
    ((e : Edge) → IsIn e es → IsEdgeWithin states e) →
    ((e : Edge) → IsIn e es → is_plain_label e.label ≡ true) → list_all is_held_edge es ≡ true →
    AreWritten states None es
written_listed states es small ascend each plain held = record {
  ascend = ascend;
  behind = λ e i. refl;
  within = λ e i. within_test states e (each e i);
  writable = λ e i.
      let w : IsEdgeWithin states e = each e i in
      let p : e.from < states = w.from_in in
      let q : e.to < states = w.to_in in
      record {
        held = pass_at is_held_edge es e held i;
        plain = plain e i;
        sided = w.sided;
        from =
            omega arith;
        to = omega arith;
      };
}

written_edges : (m : Machine) → IsRaw m → IsHeldMachine m → AreWritten m.states None m.edges
written_edges m raw held =
    written_listed m.states m.edges held.states raw.sound.edges_ascend raw.sound.each
    raw.plain held.edges

pub section_back : (kind : Kind2) (line : ℕ) (m : Machine) (rest : List ℕ) → IsRaw m →
    IsHeldMachine m → section_in kind line (section_text kind m ++ rest)
    ≡ Ok (written_at line m, rest)
section_back kind line m rest raw held =
    let edges : List ℕ = flat_map edge_text m.edges in
    let finals : List ℕ = flat_map final_text m.finals in
    let assoc : section_text kind m ++ rest ≡ head_text kind m ++ (edges ++ (finals ++ rest)) =
    append_assoc (head_text kind m) (edges ++ finals) rest
    ∙ ap (λ z. head_text kind m ++ z) (append_assoc edges finals rest) in
    let k : Counts = record {
      states = m.states;
      edges = length m.edges;
      finals =
          length m.finals;
    } in
    ap (section_in kind line) assoc
    ∙ section_parts kind line (head_text kind m ++ (edges ++ (finals ++ rest)))
    (edges ++ (finals ++ rest)) (finals ++ rest) rest k m.edges m.finals
    (head_line_back kind line m.states (length m.edges) (length m.finals)
    (head_text kind m ++ (edges ++ (finals ++ rest))) (edges ++ (finals ++ rest)) raw.sound.some
    (head_back kind m.states (length m.edges) (length m.finals) (edges ++ (finals ++ rest))
    held.states held.edge_count held.final_count))
    (edges_back (length m.edges) m.states (line + 1) None m.edges (finals ++ rest) refl
    (written_edges m raw held))
    (finals_back (length m.finals) m.states 0 (line + 1 + length m.edges) m.finals rest refl
    held.states (record {
      ascend = raw.sound.finals_ascend;
      behind =
          λ s i. omega arith;
      within = raw.sound.finals_in;
    }))

sections_parts : (line : ℕ) (bytes a b c rest : List ℕ) (w x y z : Written) →
    section_in Standard line bytes ≡ Ok (w, a) → section_in Inconditional (line_after w) a
    ≡ Ok (x, b) → section_in Postblank (line_after x) b ≡ Ok (y, c) →
    section_in Preblank (line_after y) c ≡ Ok (z, rest)
    → sections_in line bytes
    ≡ Ok (record { standard = w; inconditional = x; postblank = y; preblank = z }, rest)
unfolding sections_in
sections_parts line bytes a b c rest w x y z p q r s = rw (p, q, r, s) refl

sections_back : (line : ℕ) (p : Parts) (rest : List ℕ) → AreRawParts p → IsHeld p →
    sections_in line (sections_text p ++ rest) ≡ Ok (placed_sections line p, rest)
sections_back line p rest raw held =
    let a : List ℕ = section_text Standard p.standard in
    let b : List ℕ = section_text Inconditional p.inconditional in
    let c : List ℕ = section_text Postblank p.postblank in
    let d : List ℕ = section_text Preblank p.preblank in
    let assoc : sections_text p ++ rest ≡ a ++ (b ++ (c ++ (d ++ rest))) =
    append_assoc a (b ++ (c ++ d)) rest
    ∙ ap (λ z. a ++ z) (append_assoc b (c ++ d) rest
    ∙ ap (λ z. b ++ z) (append_assoc c d rest)) in
    let s : Sections = placed_sections line p in
    ap (sections_in line) assoc
    ∙ sections_parts line (a ++ (b ++ (c ++ (d ++ rest)))) (b ++ (c ++ (d ++ rest)))
    (c ++ (d ++ rest)) (d ++ rest) rest s.standard s.inconditional s.postblank s.preblank
    (section_back Standard line p.standard (b ++ (c ++ (d ++ rest))) raw.standard
    held.sections.standard)
    (section_back Inconditional (line_after s.standard) p.inconditional (c ++ (d ++ rest))
    raw.inconditional held.sections.inconditional)
    (section_back Postblank (line_after s.inconditional) p.postblank (d ++ rest) raw.postblank
    held.sections.postblank)
    (section_back Preblank (line_after s.postblank) p.preblank rest raw.preblank
    held.sections.preblank)

-- ---- the file

abbrev pub placed_file : Parts → File
placed_file p = record {
  way = p.way;
  alphabet = p.alphabet;
  sections =
      placed_sections (alphabet_place p.way + 1) p;
}

end_back : (line : ℕ) → end_in line (codes "end\n") ≡ Ok []
unfolding end_in
end_back line = let e : word_at (codes "end\n") (codes "end\n") ≡ Some [] =
    word_back (codes "end\n") [] in rw e refl

pub untold_back : (rest : List ℕ) → version_at (codes "LTC1\n" ++ rest) ≡ Some (false, rest)
unfolding version_at
untold_back rest = rw (word_back (codes "LTC1\n") rest) refl

not_first : (rest : List ℕ) → word_at (codes "LTC1\n") (codes "LTC2\n" ++ rest) ≡ None
unfolding word_at
not_first rest = refl

pub told_back : (rest : List ℕ) → version_at (codes "LTC2\n" ++ rest) ≡ Some (true, rest)
unfolding version_at
told_back rest = rw (not_first rest, word_back (codes "LTC2\n") rest) refl

not_lr : (rest : List ℕ) → word_at (codes "way lr\n") (codes "way rl\n" ++ rest) ≡ None
unfolding word_at
not_lr rest = refl

pub lr_back : (rest : List ℕ) → way_at (codes "way lr\n" ++ rest) ≡ Some (Lr, rest)
unfolding way_at
lr_back rest = rw (word_back (codes "way lr\n") rest) refl

pub rl_back : (rest : List ℕ) → way_at (codes "way rl\n" ++ rest) ≡ Some (Rl, rest)
unfolding way_at
rl_back rest = rw (not_lr rest, word_back (codes "way rl\n") rest) refl

pub header_back : (way : Way) (rest : List ℕ) → header_in (header_text way ++ rest) ≡ Ok (way, rest)
unfolding header_in
header_back Untold rest = rw (untold_back rest) refl
header_back Lr rest = rw (told_back (codes "way lr\n" ++ rest), lr_back rest) refl
header_back Rl rest = rw (told_back (codes "way rl\n" ++ rest), rl_back rest) refl

file_parts : (text a b c : List ℕ) (way : Way) (letters : List ℕ) (s : Sections) →
    header_in text ≡ Ok (way, a) → alphabet_at a ≡ Some (letters, b) →
    sections_in (alphabet_place way + 1) b ≡ Ok (s, c) → end_in (line_after s.preblank) c ≡ Ok []
    → file_in text ≡ Ok (record { way = way; alphabet = letters; sections = s })
unfolding file_in
file_parts text a b c way letters s p q r u = rw (p, q, r, u) refl

pub letters_held : (letters : List ℕ) → IsAlphabet letters → list_all is_character letters ≡ true →
    AreLetters 0 letters
letters_held letters is held = record {
  ascend = is.ascend;
  above = λ c i. omega arith;
  plain = λ c i. record {
    char = pass_at is_character letters c held i;
    plain =
        not_true (is_white c) (pass_at (λ d. not (is_white d)) letters c is.no_white i);
  };
}

pub file_back : (p : Parts) → AreRawParts p → IsHeld p → file_in (compiled_text p)
    ≡ Ok (placed_file p)
unfolding compiled_text
file_back p raw held =
    let b : List ℕ = sections_text p ++ codes "end\n" in
    let first : List ℕ = header_text p.way in
    let line : ℕ = alphabet_place p.way + 1 in
    let assoc : (first ++ alphabet_text p.alphabet) ++ b ≡ first
    ++ (alphabet_text p.alphabet ++ b) = append_assoc first (alphabet_text p.alphabet) b in
    ap file_in assoc
    ∙ file_parts (first ++ (alphabet_text p.alphabet ++ b)) (alphabet_text p.alphabet ++ b) b
    (codes "end\n") p.way p.alphabet (placed_sections line p)
    (header_back p.way (alphabet_text p.alphabet ++ b))
    (alphabet_back p.alphabet b (letters_held p.alphabet raw.alphabet held.letters)
    raw.alphabet.closed) (sections_back line p (codes "end\n") raw held)
    (end_back (line_after (placed_sections line p).preblank))
