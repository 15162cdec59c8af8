-- What a file says.
use Rattle.std.specs.Prelude.{List}
use Rattle.ap_choose.specs.declared.forbidden.Pair.{Pair}
use Rattle.ap_dix.specs.declared.dictionary.Dictionary.{Dictionary}
use Rattle.ap_fst.specs.Sections.{Parts}
use Rattle.ap_rules.specs.Plain.{PlainRules}

pub data Said : Type 0 where
  -- the entries of a dictionary
  Entries : Dictionary → Said
  -- the sections of a compiled dictionary
  Sections : Parts → Said
  -- the rules of a rule file
  Rules : PlainRules → Said
  -- forbidden pairs of tags
  Pairs : List Pair → Said
