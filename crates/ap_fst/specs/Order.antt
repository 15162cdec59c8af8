use Rattle.std.specs.Prelude.{ℕ, Option, Some, None, List, [], ◌∷◌}
use Rattle.std.specs.declared.cmp.Ordering.{Ordering}
use Rattle.std.specs.Ordering.{nat_cmp, ordering_then, ordering_index}
use Rattle.std.specs.Cmp.Lexicographic.{slice_cmp}
use Rattle.ap_symbol.specs.declared.symbol.Symbol.{Symbol}
use Rattle.ap_symbol.specs.declared.symbol.Symbol.TheVariants.{Letter, Tag, Blank, Join, Queue, Alarm, Star, At}
use Rattle.ap_fst.specs.declared.label.Label.{Label}
use Rattle.ap_fst.specs.declared.label.Edge.{Edge}

-- where a side stands: no symbol, letters, tags, and then the marks one by one
abbrev pub side_class : Option Symbol → ℕ
side_class None = 0
side_class (Some (Letter c)) = 1
side_class (Some (Tag name)) = 2
side_class (Some Blank) = 3
side_class (Some Join) = 4
side_class (Some Queue) = 5
side_class (Some Alarm) = 6
side_class (Some Star) = 7
side_class (Some At) = 8

-- within a class: a letter's code point, the bytes of a tag's name
abbrev pub side_text : Option Symbol → List ℕ
side_text None = []
side_text (Some (Letter c)) = c ∷ []
side_text (Some (Tag name)) = name
side_text (Some Blank) = []
side_text (Some Join) = []
side_text (Some Queue) = []
side_text (Some Alarm) = []
side_text (Some Star) = []
side_text (Some At) = []

-- the order of sides: by class, and within a class by the text
abbrev pub side_cmp : Option Symbol → Option Symbol → Ordering
side_cmp a b = ordering_then (nat_cmp (side_class a) (side_class b))
    (slice_cmp nat_cmp (side_text a) (side_text b))

-- labels are ordered by the left side, then by the right
abbrev pub label_cmp : Label → Label → Ordering
label_cmp a b = ordering_then (side_cmp a.left b.left) (side_cmp a.right b.right)

-- edges are ordered by the state that they leave, then by the label, then by the state that they
-- enter
abbrev pub edge_cmp : Edge → Edge → Ordering
edge_cmp a b = ordering_then (nat_cmp a.from b.from)
    (ordering_then (label_cmp a.label b.label) (nat_cmp a.to b.to))

-- how an edge stands to the edges of a state with a left side
abbrev pub left_cmp : Edge → ℕ → Option Symbol → Ordering
left_cmp e state left = ordering_then (nat_cmp e.from state) (side_cmp e.label.left left)

-- the same as a number: before them 0, among them 1, behind them 2
abbrev pub left_place : ℕ → Option Symbol → Edge → ℕ
left_place state left e = ordering_index (left_cmp e state left)
