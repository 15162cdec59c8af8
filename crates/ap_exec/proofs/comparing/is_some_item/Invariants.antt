use Rattle.std.proofs.Common.{◌≡◌, drop, map}
use Rattle.ap_exec.specs.Comparing.{compared_some}
use Rattle.ap_exec.specs.Conditions.{word_in}
use Rattle.ap_exec.specs.declared.comparing.Way.TheVariants.{Equals}
use Rattle.ap_exec.proofs.comparing.is_some_item.Given as goal

abbrev pub invariant-loop-item : goal.invariant-loop-item
invariant-loop-item l = compared_some Equals l.caseless l.word
    (map word_in (drop l.item-index l.items))
    ≡ compared_some Equals l.caseless l.word (map word_in l.items)
