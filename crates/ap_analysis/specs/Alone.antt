-- Of the inside: no public contract stands on this file.
-- Where one standard entry alone reads a surface, in one way.
use Rattle.std.specs.Prelude.{◌≡◌, ℕ, Bool, List, [], ◌++◌}
use Rattle.ap_symbol.specs.declared.symbol.Symbol.{Symbol}
use Rattle.ap_fst.specs.declared.compiled.Kind2.TheVariants.{Inconditional, Postblank, Preblank}
use Rattle.ap_stream.specs.declared.item.Read.{Read}
use Rattle.ap_live.specs.Lexicon.{Lexicon}
use Rattle.ap_analysis.specs.Analysis.{known_unit, space_at}

-- what the entries read that are of another kind than the standard one
abbrev pub other_words : Lexicon → List Symbol → List (List Symbol)
other_words lexicon symbols = lexicon.readings Inconditional symbols
    ++ (lexicon.readings Postblank symbols ++ lexicon.readings Preblank symbols)

-- The text is the unit of the first so many items, and no space comes before or behind it.
pub record IsAlone (lexicon : Lexicon) (sensitive : Bool) (reads : List Read) (n : ℕ)
    (text : List ℕ) : Type 0 where
  pub unit : text ≡ known_unit lexicon sensitive reads n
  pub before : space_at lexicon Preblank reads n ≡ []
  pub behind : space_at lexicon Postblank reads n ≡ []
