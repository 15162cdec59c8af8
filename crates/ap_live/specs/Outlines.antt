-- What of a transducer is read at each step.
use Rattle.std.specs.Prelude.{◌≡◌, ◌⊎◌, ℕ, ◌+◌, ◌-◌, ◌<◌, ◌≤◌, true, List, Option, Some, None, slice_get, length}
use Rattle.std.specs.Int.{bit_at}
use Rattle.ap_symbol.specs.declared.symbol.Symbol.{Symbol}
use Rattle.ap_symbol.specs.declared.symbol.Symbol.TheVariants.{Letter, Tag, Blank, Join, Queue, Alarm, Star, At}
use Rattle.ap_fst.specs.Lists.{Ascends}
use Rattle.ap_fst.specs.Machines.{IsSpan}
use Rattle.ap_fst.specs.Order.{edge_cmp}
use Rattle.ap_fst.specs.declared.label.Edge.{Edge}
use Rattle.ap_live.specs.Fitting.{Input, picks}
use Rattle.ap_live.specs.declared.outline.Entry.{Entry}
use Rattle.ap_live.specs.declared.outline.First.{First}
use Rattle.ap_live.specs.declared.outline.Outline.{Outline}

-- the code of a side, left or right
abbrev pub side_code : Option Symbol → ℕ
side_code None = 0
side_code (Some (Letter c)) = c + 1
side_code (Some (Tag name)) = 4294967295
side_code (Some Blank) = 4294967295
side_code (Some Join) = 4294967295
side_code (Some Queue) = 4294967295
side_code (Some Alarm) = 4294967295
side_code (Some Star) = 4294967295
side_code (Some At) = 4294967295

-- Edges before this place leave smaller states, and those from it on do not.
pub record IsFirstPlace (edges : List Edge) (state place : ℕ) : Type 0 where
  pub end : place ≤ length edges
  pub before : (j : ℕ) (e : Edge) → slice_get edges j ≡ Some e → j < place → e.from < state
  pub behind : (j : ℕ) (e : Edge) → slice_get edges j ≡ Some e → place ≤ j → state ≤ e.from

-- the bit of a code: that of a small letter, and that of an empty side
abbrev pub IsBit : ℕ → ℕ → Type 0
IsBit code bit = ((code ≡ bit + 98) × (bit < 26)) ⊎ ((code ≡ 0) × (bit ≡ 31))

-- Of the edges between these places each whose left side has a bit has it set.
abbrev pub AreCodes : List Edge → ℕ → ℕ → ℕ → Type 0
AreCodes edges first last codes = (j : ℕ) (e : Edge) → slice_get edges j ≡ Some e → first ≤ j →
    j < last → (bit : ℕ) → IsBit (side_code e.label.left) bit → bit_at codes bit ≡ 1

-- for each of the first states the place where its edges begin, and behind it their codes
pub record AreFirsts (edges : List Edge) (firsts : List First) : Type 0 where
  pub places : (state : ℕ) (f : First) → slice_get firsts state ≡ Some f →
      IsFirstPlace edges state f.place
  pub codes : (state : ℕ) (f g : First) → slice_get firsts state ≡ Some f →
      slice_get firsts (state + 1) ≡ Some g → AreCodes edges f.place g.place g.codes

-- the codes of the edges from where those of the last state begin up to a place
abbrev pub SoFar : List Edge → List First → ℕ → ℕ → Type 0
SoFar edges firsts place codes = (state : ℕ) (f : First) → slice_get firsts state ≡ Some f →
    length firsts ≡ state + 1 → AreCodes edges f.place place codes

-- the edge at a place has this right side
abbrev pub HasRight : List Edge → ℕ → Option Symbol → Type 0
HasRight edges place side = (e : Edge) × ((slice_get edges place ≡ Some e) × (e.label.right ≡ side))

-- A code tells a right side: it is the side's, or it tells the place of an edge that has the side.
abbrev pub TellsRight : List Edge → ℕ → Option Symbol → Type 0
TellsRight edges code side = (code < 2097152 → side_code side ≡ code)
    × (2097152 ≤ code → code < 4294967295 → HasRight edges (code - 2097152) side)

pub record IsEntry (edges : List Edge) (e : Edge) (entry : Entry) : Type 0 where
  pub left_is : entry.left ≡ side_code e.label.left
  pub small : entry.left ≤ 4294967295
  pub to_is : entry.to ≡ e.to
  pub right_is : TellsRight edges entry.right e.label.right

-- entries of the first edges
abbrev pub AreEntries : List Edge → List Entry → Type 0
AreEntries edges entries = (j : ℕ) (e : Edge) (entry : Entry) → slice_get edges j ≡ Some e →
    slice_get entries j ≡ Some entry → IsEntry edges e entry

pub record IsOutline (edges : List Edge) (o : Outline) : Type 0 where
  pub firsts : AreFirsts edges o.firsts.items
  pub entries : AreEntries edges o.entries.items

-- Between these places codes rise.
abbrev pub Rises : List Entry → ℕ → ℕ → Type 0
Rises entries first last = (j k : ℕ) (x y : Entry) → slice_get entries j ≡ Some x →
    slice_get entries k ≡ Some y → first ≤ j → j ≤ k → k < last → x.left ≤ y.left

-- Between these places the entries before this one have smaller codes, and the others do not.
pub record IsCut (entries : List Entry) (first last code low : ℕ) : Type 0 where
  pub from : first ≤ low
  pub before : (j : ℕ) (x : Entry) → slice_get entries j ≡ Some x → first ≤ j → j < low →
      x.left < code
  pub behind : (j : ℕ) (x : Entry) → slice_get entries j ≡ Some x → low ≤ j → j < last →
      code ≤ x.left

-- The edges of a state stand at these places, and those with this left side, which are picked, are
-- told by this code, and are not before this place.
pub record IsCoded (edges : List Edge) (o : Outline) (pick : Option Input)
    (from first last low code : ℕ) (left : Option Symbol) : Type 0 where
  pub outline_is : IsOutline edges o
  pub ascend : Ascends edge_cmp edges
  pub span : IsSpan edges from first last
  pub cut : IsCut o.entries.items first last code low
  pub code_is : (side : Option Symbol) → side_code side ≡ code → side ≡ left
  pub left_is : side_code left ≡ code
  pub picked : (e : Edge) → e.label.left ≡ left → picks pick e ≡ true
