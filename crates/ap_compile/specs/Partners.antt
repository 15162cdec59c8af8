-- Of the inside: no public contract stands on this file.
use Rattle.std.specs.Prelude.{◌⊎◌, ℕ, List}
use Rattle.ap_symbol.specs.Case.{partner_lem}
use Rattle.ap_symbol.specs.Lists.{IsIn}

-- the character or its case partner stands in the alphabet
abbrev pub IsPartnered : List ℕ → ℕ → Type 0
IsPartnered alphabet c = IsIn c alphabet ⊎ IsIn (partner_lem c) alphabet
