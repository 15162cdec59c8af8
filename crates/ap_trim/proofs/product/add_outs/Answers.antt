use Rattle.std.proofs.Common.{◌+◌, take, [], ◌∷◌, ◌++◌, ap, sym, ◌∙◌}
use Rattle.std.proofs.lemmas.List.{take_more}
use Rattle.ap_fst.specs.declared.label.Edge.{Edge}
use Rattle.ap_trim.proofs.Growths.{outs_begun, outs_then}
use Rattle.ap_trim.proofs.product.add_outs.Goals as goal

pub loop-exit-init : goal.loop-exit-init
loop-exit-init c = outs_begun c.args.bilingual.now c.args.watch c.args.from c.args.sets.now
    c.args.pairs.now c.args.edges.now

pub loop-exit-preserved : goal.loop-exit-preserved
loop-exit-preserved c = outs_then c.args.bilingual.now c.args.watch c.args.from c.args.sets.now
    c.loop-exit.sets c.add_out.new.sets c.args.pairs.now c.loop-exit.pairs c.add_out.new.pairs
    c.args.edges.now c.loop-exit.edges c.add_out.new.edges
    (take c.loop-exit.exit-index c.args.exits.now) (c.exit-item.result ∷ [])
    (take (c.loop-exit.exit-index + 1) c.args.exits.now)
    (take_more c.args.exits.now c.loop-exit.exit-index c.exit-item.result c.loop-exit-test.true ∙
    ap (λ (e : Edge). take c.loop-exit.exit-index c.args.exits.now ++ e ∷ [])
    (sym c.exit-item.is)) c.loop-exit.invariant c.in_ok-add_out.ensures
