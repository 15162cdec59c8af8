use Rattle.std.proofs.Common.{◌≡◌, [], fold, map, take}
use Rattle.ap_markup.specs.NameLists.{with_name}
use Rattle.ap_dix.proofs.pardefs.names_of.Given as goal

abbrev pub invariant-pardefs : goal.invariant-pardefs
invariant-pardefs l = l.names
    ≡ fold with_name [] (map (λ pardef. pardef.name) (take l.pardef-index l.pardefs))
