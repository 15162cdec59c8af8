use Rattle.std.proofs.Common.{◌≡◌, ◌+◌, ◌∙◌, sym, ap, subst, drop}
use Rattle.ap_expand.specs.Uses.{with_uses, parts_uses}
use Rattle.ap_expand.specs.declared.uses.Uses.{Uses}
use Rattle.ap_expand.proofs.Using.{parts-on, parts-done}
use Rattle.ap_expand.proofs.uses.parts_uses.Goals as goal

pub loop-part-preserved : goal.loop-part-preserved
loop-part-preserved c =
    subst (λ (u : Uses). with_uses u (parts_uses c.args.uses.now
    (drop (c.loop-part.part-index + 1) c.args.parts.now))
    ≡ parts_uses c.args.uses.now c.args.parts.now)
    (sym (c.behind-made.ensures ∙ ap (with_uses c.loop-part.made) c.part_uses.ensures))
    (parts-on c.args.uses.now c.args.parts.now c.loop-part.part-index c.part-item.result
    c.loop-part.made c.loop-part-test.true c.part-item.is c.loop-part.invariant)

pub returns : goal.returns
returns c = parts-done c.args.uses.now c.args.parts.now c.loop-part.part-index c.loop-part.made
    c.loop-part-test.false c.loop-part.invariant
