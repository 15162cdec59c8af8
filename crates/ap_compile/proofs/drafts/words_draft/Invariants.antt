use Rattle.std.proofs.Common.{◌≡◌, take}
use Rattle.ap_dix.specs.Derivation.{paired}
use Rattle.ap_compile.specs.Drafts.{IsDraftOf}
use Rattle.ap_compile.proofs.drafts.words_draft.Given as goal

abbrev pub invariant-loop-at : goal.invariant-loop-at
invariant-loop-at l = IsDraftOf (λ w. w ≡ take l.at (paired l.left l.right)) l.made
