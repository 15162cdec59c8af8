-- What the lines of a compiled file say, or the first fault among them. Faults of the lines come in
-- the order of the lines, and on one line BadLine comes before OutOfRange.
use Rattle.std.specs.Prelude.{◌≡◌, ℕ, zero, suc, ◌+◌, Bool, true, false, not, ◌&&◌, nat_lt, nat_le, ◌==◌, List, [], ◌∷◌, ◌++◌, length, Option, Some, None, Result, Ok, Err, if◌then◌else◌, codes}
use Rattle.std.specs.Ordering.{is_lt}
use Rattle.ap_fst.specs.Order.{edge_cmp}
use Rattle.ap_fst.specs.declared.compiled.Kind2.{Kind2}
use Rattle.ap_fst.specs.declared.compiled.Kind2.TheVariants.{Standard, Inconditional, Postblank, Preblank}
use Rattle.ap_fst.specs.declared.compiled.Way.{Way}
use Rattle.ap_fst.specs.declared.compiled.Way.TheVariants.{Lr, Rl, Untold}
use Rattle.ap_fst.specs.declared.label.Edge.{Edge}
use Rattle.ap_binary.specs.Pieces.{word_at, version_at, way_at, edge_at, final_at, head_at, alphabet_at}
use Rattle.ap_binary.specs.declared.file.File.{File}
use Rattle.ap_binary.specs.declared.heads.Counts.{Counts}
use Rattle.ap_binary.specs.declared.refusal.BinaryFault.{BinaryFault}
use Rattle.ap_binary.specs.declared.refusal.BinaryKind.{BinaryKind}
use Rattle.ap_binary.specs.declared.refusal.BinaryKind.TheVariants.{BadHeader, BadLine, OutOfRange}
use Rattle.ap_binary.specs.declared.refusal.BinaryRefusal.{BinaryRefusal}
use Rattle.ap_binary.specs.declared.refusal.BinaryRefusal.TheVariants.{Fault, Memory}
use Rattle.ap_binary.specs.declared.sections.Sections.{Sections}
use Rattle.ap_binary.specs.declared.sections.Written.{Written}

infixl 10 ◌>>=◌
abbrev pub ◌>>=◌ : {A B : Type 0} → Result A BinaryFault → (A → Result B BinaryFault) →
    Result B BinaryFault
(Ok x) >>= f = f x
(Err e) >>= f = Err e

-- what a reader of the program answers: the value; the fault; or want of memory, which says nothing
abbrev pub FailsBy : {Y : Type 0} → BinaryRefusal → Result Y BinaryFault → Type 0
FailsBy (Fault f) read = read ≡ Err f
FailsBy Memory read = Unit {0}

abbrev pub Tells : {X Y : Type 0} → (X → Y) → Result X BinaryRefusal → Result Y BinaryFault → Type 0
Tells view (Ok x) read = read ≡ Ok (view x)
Tells view (Err e) read = FailsBy e read

abbrev pub fault : BinaryKind → ℕ → BinaryFault
fault kind line = record { kind = kind; line = line }

-- what stands on this line, which is bad where it is not of its form
abbrev pub on_line : {A : Type 0} → ℕ → Option A → Result A BinaryFault
on_line line None = Err (fault BadLine line)
on_line line (Some x) = Ok x

-- ---- edges

-- the edge stands behind the one on the line before, if one is
abbrev pub follows : Option Edge → Edge → Bool
follows None e = true
follows (Some before) e = is_lt (edge_cmp before e)

abbrev pub is_within : ℕ → Edge → Bool
is_within states e = nat_lt e.from states && nat_lt e.to states

abbrev pub judged_edge : ℕ → Option Edge → ℕ → Edge × List ℕ → Result (Edge × List ℕ) BinaryFault
judged_edge states before line read =
    if not (follows before read.0) then Err (fault BadLine line)
    else if not (is_within states read.0) then Err (fault OutOfRange line)
    else Ok read

-- this line is that of an edge, in order and between states that there are
unfoldable pub edge_line : ℕ → Option Edge → ℕ → List ℕ → Result (Edge × List ℕ) BinaryFault
edge_line states before line bytes = on_line line (edge_at bytes) >>= judged_edge states before line

abbrev pub with_edges : List Edge → Result (List Edge × List ℕ) BinaryFault →
    Result (List Edge × List ℕ) BinaryFault
with_edges front read = read >>= λ x. Ok (front ++ x.0, x.1)

-- so many lines of edges from this line on
unfoldable pub edges_in : ℕ → ℕ → Option Edge → ℕ → List ℕ → Result (List Edge × List ℕ) BinaryFault
edges_in zero states before line bytes = Ok ([], bytes)
edges_in (suc n) states before line bytes =
    edge_line states before line bytes >>= λ e. with_edges (e.0 ∷ [])
    (edges_in n states (Some e.0) (line + 1) e.1)

-- ---- final states

abbrev pub judged_final : ℕ → ℕ → ℕ → ℕ × List ℕ → Result (ℕ × List ℕ) BinaryFault
judged_final states least line read =
    if not (nat_le least read.0) then Err (fault BadLine line)
    else if not (nat_lt read.0 states) then Err (fault OutOfRange line)
    else Ok read

-- this line is that of a final state, one that there is, and no less than this
unfoldable pub final_line : ℕ → ℕ → ℕ → List ℕ → Result (ℕ × List ℕ) BinaryFault
final_line states least line bytes =
    on_line line (final_at bytes) >>= judged_final states least line

abbrev pub with_finals : List ℕ → Result (List ℕ × List ℕ) BinaryFault →
    Result (List ℕ × List ℕ) BinaryFault
with_finals front read = read >>= λ x. Ok (front ++ x.0, x.1)

-- so many lines of final states from this line on, ascending
unfoldable pub finals_in : ℕ → ℕ → ℕ → ℕ → List ℕ → Result (List ℕ × List ℕ) BinaryFault
finals_in zero states least line bytes = Ok ([], bytes)
finals_in (suc n) states least line bytes =
    final_line states least line bytes >>= λ s. with_finals (s.0 ∷ [])
    (finals_in n states (s.0 + 1) (line + 1) s.1)

-- ---- sections

abbrev pub counts_of : ℕ → Option ℕ → Option ℕ → Option ℕ → Result Counts BinaryFault
counts_of line (Some states) (Some edges) (Some finals) =
    if states == 0 then Err (fault OutOfRange line)
    else Ok (record { states = states; edges = edges; finals = finals })
counts_of line _ _ _ = Err (fault OutOfRange line)

-- the first line of a section: each number within 64 bits, and a state at least
unfoldable pub head_line : Kind2 → ℕ → List ℕ → Result (Counts × List ℕ) BinaryFault
head_line kind line bytes = do
  head ← on_line line (head_at kind bytes)
  counts ← counts_of line head.0.states head.0.edges head.0.finals
  Ok (counts, head.1)

-- the section of a kind from this line on
unfoldable pub section_in : Kind2 → ℕ → List ℕ → Result (Written × List ℕ) BinaryFault
section_in kind line bytes = do
  head ← head_line kind line bytes
  edges ← edges_in head.0.edges head.0.states None (line + 1) head.1
  finals ← finals_in head.0.finals head.0.states 0 (line + 1 + head.0.edges) edges.1
  Ok (
    record {
      fst = record { states = head.0.states; edges = edges.0; finals = finals.0 };
      line =
          line;
    },
    finals.1,
  )

-- the line behind a section
abbrev pub line_after : Written → ℕ
line_after w = w.line + 1 + length w.fst.edges + length w.fst.finals

-- the sections, in the order of their kinds
unfoldable pub sections_in : ℕ → List ℕ → Result (Sections × List ℕ) BinaryFault
sections_in line bytes = do
  standard ← section_in Standard line bytes
  inconditional ← section_in Inconditional (line_after standard.0) standard.1
  postblank ← section_in Postblank (line_after inconditional.0) inconditional.1
  preblank ← section_in Preblank (line_after postblank.0) postblank.1
  Ok (
    record {
      standard = standard.0;
      inconditional = inconditional.0;
      postblank =
          postblank.0;
      preblank = preblank.0;
    },
    preblank.1,
  )

-- ---- the file

abbrev pub on_header : {A : Type 0} → Option A → Result A BinaryFault
on_header None = Err (fault BadHeader 1)
on_header (Some x) = Ok x

-- the line of the direction, where the first line is `LTC2`
abbrev pub way_in : Bool → List ℕ → Result (Way × List ℕ) BinaryFault
way_in false rest = Ok (Untold, rest)
way_in true rest = on_line 2 (way_at rest)

-- the lines before the alphabet
unfoldable pub header_in : List ℕ → Result (Way × List ℕ) BinaryFault
header_in text = on_header (version_at text) >>= λ first. way_in first.0 first.1

-- the line on which the alphabet stands
abbrev pub alphabet_place : Way → ℕ
alphabet_place Untold = 2
alphabet_place Lr = 3
alphabet_place Rl = 3

-- nothing stands on this line
abbrev pub over : ℕ → List ℕ → Result (List ℕ) BinaryFault
over line [] = Ok []
over line (b ∷ bytes) = Err (fault BadLine line)

-- the last line, and nothing behind it
unfoldable pub end_in : ℕ → List ℕ → Result (List ℕ) BinaryFault
end_in line bytes = on_line line (word_at (codes "end\n") bytes) >>= over (line + 1)

-- The lines of a file: `LTC1`, or `LTC2` and the direction; the alphabet, the sections, and `end`.
unfoldable pub file_in : List ℕ → Result File BinaryFault
file_in text = do
  header ← header_in text
  alphabet ← on_line (alphabet_place header.0) (alphabet_at header.1)
  sections ← sections_in (alphabet_place header.0 + 1) alphabet.1
  none ← end_in (line_after sections.0.preblank) sections.1
  Ok (record { way = header.0; alphabet = alphabet.0; sections = sections.0 })
