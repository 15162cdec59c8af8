-- The text of a compiled dictionary. Its lines end with a line feed, its fields are parted by
-- spaces, and its numbers are decimal without leading zeros.
use Rattle.std.specs.Prelude.{ℕ, List, ◌++◌, length, Option, Some, None, codes, decimal}
use Rattle.std.specs.List.{flat_map}
use Rattle.ap_symbol.specs.declared.symbol.Symbol.{Symbol}
use Rattle.ap_symbol.specs.declared.symbol.Symbol.TheVariants.{Letter, Tag, Blank, Join, Queue, Alarm, Star, At}
use Rattle.ap_fst.specs.Machines.{Machine}
use Rattle.ap_fst.specs.Sections.{Parts}
use Rattle.ap_fst.specs.declared.label.Edge.{Edge}
use Rattle.ap_fst.specs.declared.compiled.Kind2.{Kind2}
use Rattle.ap_fst.specs.declared.compiled.Kind2.TheVariants.{Standard, Inconditional, Postblank, Preblank}
use Rattle.ap_fst.specs.declared.compiled.Way.{Way}
use Rattle.ap_fst.specs.declared.compiled.Way.TheVariants.{Lr, Rl, Untold}

-- A side: `-` for none, `L` and the code point of a letter, `T` and the name of a tag, and a letter
-- for each mark. No side of a compiled dictionary holds Star or At.
abbrev pub side_text : Option Symbol → List ℕ
side_text None = codes "-"
side_text (Some (Letter c)) = codes "L" ++ decimal c
side_text (Some (Tag name)) = codes "T" ++ name
side_text (Some Blank) = codes "B"
side_text (Some Join) = codes "J"
side_text (Some Queue) = codes "Q"
side_text (Some Alarm) = codes "A"
side_text (Some Star) = codes "*"
side_text (Some At) = codes "@"

-- what follows a field: a space, or the end of the line
abbrev pub then_space : List ℕ → List ℕ
then_space field = field ++ codes " "

abbrev pub then_end : List ℕ → List ℕ
then_end field = field ++ codes "\n"

-- the line of an edge: the state that it leaves, its sides, and the state that it enters
abbrev pub edge_text : Edge → List ℕ
edge_text e = then_space (decimal e.from)
    ++ ((then_space (side_text e.label.left) ++ then_space (side_text e.label.right))
    ++ then_end (decimal e.to))

-- the line of a final state
abbrev pub final_text : ℕ → List ℕ
final_text s = then_end (decimal s)

abbrev pub section_name : Kind2 → List ℕ
section_name Standard = codes "standard"
section_name Inconditional = codes "inconditional"
section_name Postblank = codes "postblank"
section_name Preblank = codes "preblank"

-- the first line of a section: its kind, and how many states, edges and final states it has
abbrev pub head_of : Kind2 → ℕ → ℕ → ℕ → List ℕ
head_of kind states edges finals = (codes "section " ++ then_space (section_name kind))
    ++ (then_space (decimal states) ++ (then_space (decimal edges) ++ then_end (decimal finals)))

abbrev pub head_text : Kind2 → Machine → List ℕ
head_text kind m = head_of kind m.states (length m.edges) (length m.finals)

-- a section: its first line, a line for each edge, and a line for each final state
abbrev pub section_text : Kind2 → Machine → List ℕ
section_text kind m = head_text kind m
    ++ (flat_map edge_text m.edges ++ flat_map final_text m.finals)

-- a space and the code point of a letter
abbrev pub letter_text : ℕ → List ℕ
letter_text c = codes " " ++ decimal c

-- the line of the alphabet
abbrev pub alphabet_text : List ℕ → List ℕ
alphabet_text letters = codes "alphabet" ++ then_end (flat_map letter_text letters)

-- the sections, in the order of their kinds
abbrev pub sections_text : Parts → List ℕ
sections_text p = section_text Standard p.standard
    ++ (section_text Inconditional p.inconditional
    ++ (section_text Postblank p.postblank ++ section_text Preblank p.preblank))

-- The first lines: `LTC1` where no direction is told; else `LTC2` and the line of the direction.
abbrev pub header_text : Way → List ℕ
header_text Untold = codes "LTC1\n"
header_text Lr = codes "LTC2\n" ++ codes "way lr\n"
header_text Rl = codes "LTC2\n" ++ codes "way rl\n"

unfoldable pub compiled_text : Parts → List ℕ
compiled_text p = (header_text p.way ++ alphabet_text p.alphabet)
    ++ (sections_text p ++ codes "end\n")
