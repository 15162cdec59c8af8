use Rattle.std.proofs.Common.{◌+◌, ◌∷◌, ◌++◌, [], drop, sym, ap, ◌∙◌}
use Rattle.ap_rules.specs.Texts.{tag_symbol, tag_symbols, parts_after}
use Rattle.ap_rules.proofs.TagLaws.{behind, is_dot, no_dot, at_item, goes_on, is_over}
use Rattle.ap_rules.proofs.texts.tags_of.Goals as goal
use Rattle.ap_rules.proofs.texts.tags_of.Goals.{then-c-eq46+in_ok-tag_symbol+in-Some+in_ok-push-in-Some, else-c-eq46+in_ok-push}

pub text-preserved : goal.text-preserved
text-preserved c =
    let stars = c.args.stars in
    let rest = drop c.text.c-index c.args.text.now in
    let more = drop (c.text.c-index + 1) c.args.text.now in
    let step = at_item c.args.text.now c.text.c-index c.c-item.result _ c.text-test.true
    c.c-item.is in
    elim c.if-c-eq46.branch [
      | then-c-eq46+in_ok-tag_symbol+in-Some+in_ok-push-in-Some w ↦
          ap (λ word. behind word (tag_symbols stars (parts_after c.if-c-eq46.part.items more)))
          (w.word-is ∙ w.in_ok-push-in-Some.ensures.ok)
          ∙ ap (λ p. behind (c.text.word ++ w.in-Some.symbol ∷ [])
          (tag_symbols stars (parts_after p more))) (ap (λ v. v.items) w.part-is
          ∙ w.new-part-then-c-eq46.ensures.items)
          ∙ is_over stars c.text.word w.in-Some.symbol c.text.part.items c.c-item.result rest more _
          step (is_dot c.c-item.result w.if-c-eq46.true)
          (ap (tag_symbol stars) (sym w.deref.ensures.value) ∙ sym w.in_ok-tag_symbol.ensures
          ∙ w.in-Some.is) c.text.invariant
      | else-c-eq46+in_ok-push w ↦
          ap (λ word. behind word (tag_symbols stars (parts_after c.if-c-eq46.part.items more)))
          w.word-is
          ∙ ap (λ p. behind c.text.word (tag_symbols stars (parts_after p more)))
          (ap (λ v. v.items) w.part-is ∙ w.in_ok-push.ensures.items)
          ∙ goes_on stars c.text.word c.text.part.items c.c-item.result rest more _ step
          (no_dot c.c-item.result w.if-c-eq46.false) c.text.invariant
    ]
