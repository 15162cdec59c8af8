-- Right words that can be written in a unit, and are read again as they are written.
use Rattle.std.specs.Prelude.{List, Option, Some, None}
use Rattle.ap_symbol.specs.Coded.{IsCoded, AreCoded}
use Rattle.ap_symbol.specs.Lists.{IsIn}
use Rattle.ap_symbol.specs.Words.{AreProper}
use Rattle.ap_symbol.specs.declared.symbol.Symbol.{Symbol}
use Rattle.ap_fst.specs.Machines.{Machine}
use Rattle.ap_fst.specs.declared.compiled.Kind2.{Kind2}
use Rattle.ap_fst.specs.declared.label.Edge.{Edge}
use Rattle.ap_live.specs.Lexicon.{Lexicon}

-- its symbols are proper, its letters are characters and so are those of its tags' names; every
-- word of the program is so
abbrev pub IsReadable : List Symbol → Type 0
IsReadable word = AreProper word × AreCoded word

-- whatever is looked up, the right words are such words
abbrev pub GivesReadable : Lexicon → Type 0
GivesReadable lexicon = (kind : Kind2) (symbols word : List Symbol)
    → IsIn word (lexicon.readings kind symbols) → IsReadable word

abbrev pub IsCodedSide : Option Symbol → Type 0
IsCodedSide None = Unit {0}
IsCodedSide (Some symbol) = IsCoded symbol

-- the right sides of a transducer are characters and tags of characters
abbrev pub WritesCoded : Machine → Type 0
WritesCoded m = (e : Edge) → IsIn e m.edges → IsCodedSide e.label.right
