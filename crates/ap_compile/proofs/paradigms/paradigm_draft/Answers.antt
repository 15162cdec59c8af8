use Rattle.ap_compile.specs.Drafts.{Any, Spells}
use Rattle.ap_compile.proofs.Telling.{draft_of_same}
use Rattle.ap_compile.proofs.paradigms.paradigm_draft.Goals as goal

pub returns : goal.returns
returns c = λ d are. draft_of_same (Any (Spells d c.args.direction) c.args.entries.now)
    c.in_ok-draft.draft c.in_ok-made.made c.in_ok-made.ensures (c.in_ok-draft.ensures d are)
