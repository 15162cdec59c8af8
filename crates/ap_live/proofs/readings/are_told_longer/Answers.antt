use Rattle.std.proofs.Common.{◌<◌, ◌≤◌, List, arith, length, subst, suc}
use Rattle.ap_symbol.specs.Rendering.{rendering}
use Rattle.ap_symbol.specs.declared.symbol.Symbol.{Symbol}
use Rattle.ap_live.specs.Readings.{parted_size}
use Rattle.ap_live.proofs.Fewer.{fewer_no_longer}
use Rattle.ap_live.proofs.readings.are_told_longer.Goals as goal

pub returns : goal.returns
returns c = λ told whole all.
    let words : List (List Symbol) = c.sort_words.new.words.items in
    let over : c.args.size < parted_size words =
    subst (λ (z : List (List Symbol)). c.args.size < parted_size z) c.as_slice.ensures.value
    (c.are_longer.ensures told) in
    let fewer : parted_size words ≤ parted_size whole =
    fewer_no_longer (λ word. suc (length (rendering word))) words whole c.sort_words.ensures.order
    (λ w i. all w ((c.sort_words.ensures.members w).0 i)) in
    let longer : c.args.size < parted_size whole = omega (arith, over, fewer) in
    longer
