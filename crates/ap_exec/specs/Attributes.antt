-- Of the inside: no public contract stands on this file.
-- Words that begin with a tag.
use Rattle.std.specs.Prelude.{◌≡◌, ℕ, List, ◌∷◌}
use Rattle.ap_symbol.specs.declared.symbol.Symbol.{Symbol}
use Rattle.ap_symbol.specs.declared.symbol.Symbol.TheVariants.{Tag}

pub record BeginsWithTag (name : List ℕ) (word : List Symbol) : Type 0 where
  pub rest : List Symbol
  pub front : word ≡ Tag name ∷ rest
