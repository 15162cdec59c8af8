use Rattle.std.proofs.Common.{◌++◌, ◌∷◌, ap, sym, ◌∙◌}
use Rattle.ap_symbol.specs.declared.symbol.Symbol.TheVariants.{Queue}
use Rattle.ap_markup.specs.View.{parts_of, tag_of}
use Rattle.ap_dix.specs.WordText.{letters, mark, symbols}
use Rattle.ap_markup.proofs.PartSteps.{grows, ends, two_pushes}
use Rattle.ap_dix.proofs.Walks.{symbols_run, symbols_yes, symbols_no, symbols_end}
use Rattle.ap_dix.proofs.words.+add_symbols.Goals as goal
use Rattle.ap_dix.proofs.words.+add_symbols.Goals.{in-Run+in_ok-add_text-in-Run, in-Element+then-is_named+in_ok-push-in-Element+in_ok-add_symbols-in-Element, in-Element+else-is_named+in_ok-add_mark-in-Element}

pub parts-preserved : goal.parts-preserved
parts-preserved t c =
    elim c.match-part.branch [
      | in-Run+in_ok-add_text-in-Run w ↦
          grows c.parts.word c.match-part.word (letters w.in-Run.text) _ _ _
          (symbols_run c.args.parts.now c.parts.part-index c.part-item.result w.in-Run.text _
          c.parts-test.true c.part-item.is w.in-Run.is)
          (w.word-is ∙ w.in_ok-add_text-in-Run.ensures
          ∙ ap (λ s. c.parts.word ++ letters s) w.as_slice.ensures)
          c.parts.invariant
      | in-Element+then-is_named+in_ok-push-in-Element+in_ok-add_symbols-in-Element w ↦
          grows c.parts.word c.match-part.word
          (Queue ∷ symbols (parts_of w.in-Element.node.parts.items)) _ _ _
          (symbols_yes c.args.parts.now c.parts.part-index c.part-item.result w.in-Element.node
          c.parts-test.true c.part-item.is w.in-Element.is
          (sym w.is_named.ensures ∙ w.if-is_named.true))
          (w.word-is
          ∙ two_pushes c.parts.word w.push.new.self w.add_symbols.new.word Queue
          (symbols (parts_of w.in-Element.node.parts.items)) w.in_ok-push-in-Element.ensures.ok
          (w.in_ok-add_symbols-in-Element.ensures
          ∙ ap (λ ps. w.push.new.self ++ symbols (parts_of ps)) w.deref.ensures.value))
          c.parts.invariant
      | in-Element+else-is_named+in_ok-add_mark-in-Element w ↦
          grows c.parts.word c.match-part.word (mark (tag_of w.in-Element.node)) _ _ _
          (symbols_no c.args.parts.now c.parts.part-index c.part-item.result w.in-Element.node
          c.parts-test.true c.part-item.is w.in-Element.is
          (sym w.is_named.ensures ∙ w.if-is_named.false))
          (w.word-is ∙ w.in_ok-add_mark-in-Element.ensures)
          c.parts.invariant
    ]

pub returns : goal.returns
returns t c = ends c.parts.word _ _
    (symbols_end c.args.parts.now c.parts.part-index c.parts-test.false) c.parts.invariant
