-- The relations between left words and right words that lexicons are of.
use Rattle.std.specs.Prelude.{◌↔◌, Bool, List, IsTrue}
use Rattle.ap_symbol.specs.declared.symbol.Symbol.{Symbol}
use Rattle.ap_fst.specs.Sections.{Parts, section_of}
use Rattle.ap_fst.specs.declared.compiled.Kind2.{Kind2}
use Rattle.ap_live.specs.Lexicon.{Spelled}
use Rattle.ap_live.specs.Outputs.{WritesProper}

-- Each right side of a compiled dictionary is proper: no letter is white space, and each tag bears
-- the name of a tag. So is each of the program's. Then right words with equal bytes are equal.
abbrev pub AreSidesProper : Parts → Type 0
AreSidesProper p = (kind : Kind2) → WritesProper (section_of p kind)

-- of each kind of section, the pairs of words that these sections accept
abbrev pub relation_of : Parts → Kind2 → List Symbol → List Symbol → Type 0
relation_of p kind = Spelled (section_of p kind)

-- the pairs of words that pass a test, for each kind of section
abbrev pub Passes : (Kind2 → List Symbol → List Symbol → Bool) → Kind2 → List Symbol →
    List Symbol → Type 0
Passes test kind left right = IsTrue (test kind left right)

-- two relations between left words and right words that relate the same, for each kind of section
abbrev pub AreSameRelations : (Kind2 → List Symbol → List Symbol → Type 0) →
    (Kind2 → List Symbol → List Symbol → Type 0) → Type 0
AreSameRelations R Q = (kind : Kind2) (left right : List Symbol) →
    R kind left right ↔ Q kind left right
