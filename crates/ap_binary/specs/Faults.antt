-- The first fault of a compiled file, in sentences over its lines: those before it have their
-- forms, are in order and in range, and this one isn't. They tell of no reader.
use Rattle.std.specs.Prelude.{◌≡◌, ℕ, ◌+◌, ◌^◌, ◌<◌, List, [], ◌∷◌, ◌++◌, length, Option, Some, None, IsTrue, codes}
use Rattle.std.specs.List.{flat_map, list_all}
use Rattle.std.specs.Ordering.{nat_cmp}
use Rattle.ap_fst.specs.Lists.{IsIn, Ascends}
use Rattle.ap_fst.specs.Machines.{Machine, IsEdgeWithin}
use Rattle.ap_fst.specs.Order.{edge_cmp}
use Rattle.ap_fst.specs.Sections.{Parts, IsAlphabet, is_plain_label}
use Rattle.ap_fst.specs.Sides.{has_side}
use Rattle.ap_fst.specs.declared.compiled.Kind2.{Kind2}
use Rattle.ap_fst.specs.declared.compiled.Kind2.TheVariants.{Standard, Inconditional, Postblank, Preblank}
use Rattle.ap_fst.specs.declared.compiled.Way.{Way}
use Rattle.ap_fst.specs.declared.label.Edge.{Edge}
use Rattle.ap_binary.specs.Grammar.{IsRaw, AreRawParts}
use Rattle.ap_binary.specs.Held.{is_held_label, is_held_edge, IsHeldMachine, IsHeld}
use Rattle.ap_binary.specs.Lines.{fault, follows, alphabet_place, line_after}
use Rattle.ap_binary.specs.Pieces.{is_digit, is_numeral, value_after, is_character}
use Rattle.ap_binary.specs.Spelling.{IsFirstIn, in_order}
use Rattle.ap_binary.specs.Text.{side_text, then_space, then_end, edge_text, final_text, section_name, head_of, section_text, alphabet_text, header_text, compiled_text}
use Rattle.ap_binary.specs.declared.refusal.BinaryFault.{BinaryFault}
use Rattle.ap_binary.specs.declared.refusal.BinaryKind.TheVariants.{BadHeader, BadLine, OutOfRange}
use Rattle.ap_binary.specs.declared.sections.Sections.{Sections}
use Rattle.ap_binary.specs.declared.sections.Written.{Written}

-- Digits, one at least and no zero before others, that write this number, however great.
pub record IsNumeral (digits : List ℕ) (n : ℕ) : Type 0 where
  pub each : IsTrue (list_all is_digit digits)
  pub form : IsTrue (is_numeral digits)
  pub value : n ≡ value_after 0 digits

abbrev pub BeginsWith : List ℕ → List ℕ → Type 0
BeginsWith bytes word = (rest : List ℕ) × (bytes ≡ word ++ rest)

-- ---- the lines of a section

-- the item of these that stands last, or where there is none the one before them
abbrev pub last_or : {X : Type 0} → Option X → List X → Option X
last_or before [] = before
last_or before (x ∷ xs) = last_or (Some x) xs

-- The line of an edge: the number of a state, the two sides, of which one is there, and the number
-- of a state.
pub record IsEdgeLine (line : List ℕ) (e : Edge) : Type 0 where
  pub from : List ℕ
  pub to : List ℕ
  pub from_is : IsNumeral from e.from
  pub to_is : IsNumeral to e.to
  pub sided : IsTrue (has_side e.label)
  pub plain : IsTrue (is_plain_label e.label)
  pub held : IsTrue (is_held_label e.label)
  pub is : line ≡ then_space from
      ++ ((then_space (side_text e.label.left) ++ then_space (side_text e.label.right))
      ++ then_end to)

-- the bytes begin with the line of this edge, which stands behind the one before
pub record HasEdge (before : Option Edge) (bytes : List ℕ) (e : Edge) : Type 0 where
  pub line : List ℕ
  pub rest : List ℕ
  pub is : bytes ≡ line ++ rest
  pub form : IsEdgeLine line e
  pub behind : IsTrue (follows before e)

-- An edge is wanted on this line. BadLine: no edge's line stands there, or its edge doesn't stand
-- behind the one before. OutOfRange: it does, and a state isn't below the number of states.
pub data IsEdgeFault (states : ℕ) (before : Option Edge) (line : ℕ) (bytes : List ℕ) : BinaryFault
    → Type 0 where
  bad_edge : {g : BinaryFault} → ((e : Edge) → HasEdge before bytes e → ⊥) →
      g ≡ fault BadLine line → IsEdgeFault states before line bytes g
  edge_out : {g : BinaryFault} (e : Edge) → HasEdge before bytes e →
      ((e.from < states) × (e.to < states) → ⊥) → g ≡ fault OutOfRange line →
      IsEdgeFault states before line bytes g

abbrev pub IsAbove : Option ℕ → ℕ → Type 0
IsAbove None s = Unit {0}
IsAbove (Some before) s = before < s

-- the bytes begin with the line of this final state, which is above the one before
pub record HasFinal (before : Option ℕ) (bytes : List ℕ) (s : ℕ) : Type 0 where
  pub digits : List ℕ
  pub rest : List ℕ
  pub is : bytes ≡ then_end digits ++ rest
  pub form : IsNumeral digits s
  pub above : IsAbove before s

-- A final state is wanted on this line.
pub data IsFinalFault (states : ℕ) (before : Option ℕ) (line : ℕ) (bytes : List ℕ) : BinaryFault
    → Type 0 where
  bad_final : {g : BinaryFault} → ((s : ℕ) → HasFinal before bytes s → ⊥) → g ≡ fault BadLine line →
      IsFinalFault states before line bytes g
  final_out : {g : BinaryFault} (s : ℕ) → HasFinal before bytes s → (s < states → ⊥) →
      g ≡ fault OutOfRange line → IsFinalFault states before line bytes g

-- the bytes begin with the first line of a section of the kind, with these numbers of states, edges
-- and final states
pub record HasHead (kind : Kind2) (bytes : List ℕ) (states edges finals : ℕ) : Type 0 where
  pub first : List ℕ
  pub second : List ℕ
  pub third : List ℕ
  pub rest : List ℕ
  pub states_is : IsNumeral first states
  pub edges_is : IsNumeral second edges
  pub finals_is : IsNumeral third finals
  pub is : bytes ≡ ((codes "section " ++ then_space (section_name kind))
      ++ (then_space first ++ (then_space second ++ then_end third))) ++ rest

-- there is a state, and each number is within 64 bits
pub record AreCounts (states edges finals : ℕ) : Type 0 where
  pub some : 0 < states
  pub states_in : states < 2 ^ 64
  pub edges_in : edges < 2 ^ 64
  pub finals_in : finals < 2 ^ 64

-- edges whose lines have their form, are in order and in range
pub record AreGoodEdges (states : ℕ) (es : List Edge) : Type 0 where
  pub ascend : Ascends edge_cmp es
  pub within : (e : Edge) → IsIn e es → IsEdgeWithin states e
  pub plain : (e : Edge) → IsIn e es → IsTrue (is_plain_label e.label)
  pub held : IsTrue (list_all is_held_edge es)

-- final states whose lines are in order and in range
pub record AreGoodFinals (states : ℕ) (fs : List ℕ) : Type 0 where
  pub ascend : Ascends nat_cmp fs
  pub within : (s : ℕ) → IsIn s fs → s < states

-- The first fault of the section of a kind that begins on this line: on its first line; on a line
-- where an edge is wanted, behind the edges above; or where a final state is wanted, behind all
-- edges and the final states above.
pub data IsSectionFault (kind : Kind2) (line : ℕ) (bytes : List ℕ) : BinaryFault → Type 0 where
  bad_head : {g : BinaryFault} →
      ((states edges finals : ℕ) → HasHead kind bytes states edges finals → ⊥) →
      g ≡ fault BadLine line → IsSectionFault kind line bytes g
  head_out : {g : BinaryFault} (states edges finals : ℕ) → HasHead kind bytes states edges finals →
      (AreCounts states edges finals → ⊥) → g ≡ fault OutOfRange line →
      IsSectionFault kind line bytes g
  at_edge : {g : BinaryFault} (states edges finals : ℕ) (es : List Edge) (rest : List ℕ) →
      AreCounts states edges finals → AreGoodEdges states es → length es < edges
      → bytes ≡ head_of kind states edges finals ++ (flat_map edge_text es ++ rest) →
      IsEdgeFault states (last_or None es) (line + 1 + length es) rest g →
      IsSectionFault kind line bytes g
  at_final : {g : BinaryFault} (states edges finals : ℕ) (es : List Edge) (fs rest : List ℕ) →
      AreCounts states edges finals → AreGoodEdges states es → length es ≡ edges →
      AreGoodFinals states fs → length fs < finals
      → bytes ≡ head_of kind states edges finals
      ++ (flat_map edge_text es ++ (flat_map final_text fs ++ rest)) →
      IsFinalFault states (last_or None fs) (line + 1 + edges + length fs) rest g →
      IsSectionFault kind line bytes g

-- ---- the whole file

-- The first fault from this line on, where sections of these kinds are wanted and then `end` and
-- nothing more: that of the next section; or, behind it whole, the first fault from the line behind
-- it on; or that no `end` stands there, or something behind it.
pub data IsFaultFrom : List Kind2 → ℕ → List ℕ → BinaryFault → Type 0 where
  in_section : {kinds : List Kind2} {line : ℕ} {bytes : List ℕ} {g : BinaryFault} (kind : Kind2)
      (later : List Kind2) → kinds ≡ kind ∷ later → IsSectionFault kind line bytes g →
      IsFaultFrom kinds line bytes g
  past_section : {kinds : List Kind2} {line : ℕ} {bytes : List ℕ} {g : BinaryFault} (kind : Kind2)
      (later : List Kind2) (m : Machine) (rest : List ℕ) → kinds ≡ kind ∷ later → IsRaw m →
      IsHeldMachine m → bytes ≡ section_text kind m ++ rest
      → IsFaultFrom later (line + 1 + length m.edges + length m.finals) rest g →
      IsFaultFrom kinds line bytes g
  no_end : {kinds : List Kind2} {line : ℕ} {bytes : List ℕ} {g : BinaryFault} → kinds ≡ [] →
      (BeginsWith bytes (codes "end\n") → ⊥) → g ≡ fault BadLine line →
      IsFaultFrom kinds line bytes g
  behind_end : {kinds : List Kind2} {line : ℕ} {bytes : List ℕ} {g : BinaryFault} (rest : List ℕ) →
      kinds ≡ [] → bytes ≡ codes "end\n" ++ rest → (rest ≡ [] → ⊥) → g ≡ fault BadLine (line + 1) →
      IsFaultFrom kinds line bytes g

abbrev pub all_kinds : List Kind2
all_kinds = Standard ∷ Inconditional ∷ Postblank ∷ Preblank ∷ []

-- letters whose line has its form
pub record IsLettersLine (letters : List ℕ) : Type 0 where
  pub alphabet : IsAlphabet letters
  pub held : IsTrue (list_all is_character letters)

-- The first fault among the lines: BadHeader; BadLine where the line of the direction or that of
-- the alphabet is wanted; or the first from the line behind the alphabet on.
pub data IsLineFault (text : List ℕ) : BinaryFault → Type 0 where
  bad_header : {g : BinaryFault} → (BeginsWith text (codes "LTC1\n") → ⊥) →
      (BeginsWith text (codes "LTC2\n") → ⊥) → g ≡ fault BadHeader 1 → IsLineFault text g
  bad_way : {g : BinaryFault} (rest : List ℕ) → text ≡ codes "LTC2\n" ++ rest →
      (BeginsWith rest (codes "way lr\n") → ⊥) → (BeginsWith rest (codes "way rl\n") → ⊥) →
      g ≡ fault BadLine 2 → IsLineFault text g
  bad_alphabet : {g : BinaryFault} (way : Way) (rest : List ℕ) → text ≡ header_text way ++ rest →
      ((letters : List ℕ) → IsLettersLine letters → BeginsWith rest (alphabet_text letters) → ⊥) →
      g ≡ fault BadLine (alphabet_place way) → IsLineFault text g
  behind_alphabet : {g : BinaryFault} (way : Way) (letters rest : List ℕ) →
      text ≡ header_text way ++ (alphabet_text letters ++ rest) → IsLettersLine letters →
      IsFaultFrom all_kinds (alphabet_place way + 1) rest g → IsLineFault text g

-- a section, with the line on which it is written
abbrev pub written_at : ℕ → Machine → Written
written_at line m = record { fst = m; line = line }

-- the sections, written one behind the other from this line on
abbrev pub placed_sections : ℕ → Parts → Sections
placed_sections line p =
    let a : Written = written_at line p.standard in
    let b : Written = written_at (line_after a) p.inconditional in
    let c : Written = written_at (line_after b) p.postblank in
    record {
      standard = a;
      inconditional = b;
      postblank = c;
      preblank =
          written_at (line_after c) p.preblank;
    }

-- The first fault of the text: the first among its lines; or, where it is the text of an alphabet
-- and of sections, the EmptyCycle or EmptySide of the first section that has one.
pub data HasFirstFault (text : List ℕ) (g : BinaryFault) : Type 0 where
  at_line : IsLineFault text g → HasFirstFault text g
  of_section : (raw : Parts) → AreRawParts raw → IsHeld raw → text ≡ compiled_text raw →
      IsFirstIn (in_order (placed_sections (alphabet_place raw.way + 1) raw)) g →
      HasFirstFault text g
