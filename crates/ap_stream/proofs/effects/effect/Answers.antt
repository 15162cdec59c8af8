use Rattle.std.proofs.Common.{◌∙◌}
use Rattle.ap_stream.proofs.effects.effect.Goals as goal

pub returns-in-Start : goal.returns-in-Start
returns-in-Start c =
    rw c.in-Start.is (c.blank_effect.ensures ∙ c.start_effect.ensures c.args.end)

pub returns-in-Inside : goal.returns-in-Inside
returns-in-Inside c = rw c.in-Inside.is (c.inside_effect.ensures c.args.dialect c.args.end)

pub returns-in-Tag : goal.returns-in-Tag
returns-in-Tag c = rw c.in-Tag.is (c.tag_effect.ensures c.args.dialect c.args.end)
