use Rattle.std.proofs.Common.{◌∙◌, ap, sym}
use Rattle.std.specs.Option.{option_copied}
use Rattle.ap_live.specs.Outputs.{is_word_side}
use Rattle.ap_live.proofs.Spreading.{in_from_place}
use Rattle.ap_live.proofs.only.spell_right.Goals as goal

pub spell-requires : goal.spell-requires
spell-requires c =
    let at = sym c.edge_at.ensures ∙ ap option_copied c.in-Some.is in
    ap is_word_side (sym c.in-Some-right.is) ∙ c.requires c.in-Some.edge.now
    (in_from_place c.args.edges.now c.args.place c.in-Some.edge.now at)
