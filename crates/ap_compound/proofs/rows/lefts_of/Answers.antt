use Rattle.std.proofs.Common.{◌+◌, take, length, ap, ◌∙◌}
use Rattle.std.proofs.lemmas.List.{length_push}
use Rattle.ap_live.specs.Lexicon.{lexicon_of}
use Rattle.ap_live.specs.SectionLives.{AreLive}
use Rattle.ap_compound.proofs.Steps.{lefts_more, live_more}
use Rattle.ap_compound.proofs.rows.lefts_of.Goals as goal

pub loop-symbol-preserved : goal.loop-symbol-preserved
loop-symbol-preserved c =
    let p = c.args.compiled.now in
    let s = c.args.sensitive in
    let symbols = c.args.symbols.now in
    let at = c.loop-symbol.symbol-index in
    let live : AreLive c.args.compiled.now c.args.sensitive
    (take (c.loop-symbol.symbol-index + 1) c.args.symbols.now) c.step.new.self =
    live_more p s symbols at c.symbol-item.result c.step.new.self c.loop-symbol-test.true
    c.symbol-item.is (c.in_ok-step.ensures.ok (take at symbols) c.loop-symbol.invariant.live) in
    record {
      count = ap length c.in_ok-push.ensures.items
          ∙ length_push c.loop-symbol.lefts.items c.in_ok-left_parts.field-0
          ∙ ap (λ n. n + 1) c.loop-symbol.invariant.count;
      lefts = lefts_more (lexicon_of p s) symbols at c.loop-symbol.lefts.items
          c.push.new.self.items c.in_ok-left_parts.field-0 c.loop-symbol.invariant.count
          c.in_ok-push.ensures.items
          (c.in_ok-left_parts.ensures s (take (at + 1) symbols) live)
          c.loop-symbol.invariant.lefts;
      live = live;
    }
