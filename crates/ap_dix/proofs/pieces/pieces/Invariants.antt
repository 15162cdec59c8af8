use Rattle.std.proofs.Common.{◌≡◌, [], false, drop, Some}
use Rattle.ap_dix.specs.Machines.{cut_step, run}
use Rattle.ap_dix.specs.Views.{cut_of}
use Rattle.ap_dix.proofs.pieces.pieces.Given as goal

abbrev pub invariant-text : goal.invariant-text
invariant-text l = run cut_step (Some (cut_of l.cut)) (drop l.c-index l.text)
    ≡ run cut_step (Some (record { made = []; escaping = false })) l.text
