use Rattle.std.proofs.Common.{◌∙◌, ap, ◌++◌, List}
use Rattle.ap_exec.specs.Units.{Shown}
use Rattle.ap_chunk.specs.Matches.{shown_items}
use Rattle.ap_chunk.proofs.Shown.{items_shown}
use Rattle.ap_chunk.proofs.matches.units_of.Goals as goal

pub returns : goal.returns
returns c =
    c.in_ok-push_items.ensures
    ∙ ap (λ (us : List Shown). us ++ shown_items c.args.reads.now) c.in_ok-made.ensures.items
    ∙ items_shown c.args.reads.now
