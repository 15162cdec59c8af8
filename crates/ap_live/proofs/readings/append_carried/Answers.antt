use Rattle.std.proofs.Common.{ap, ◌∙◌, sym, List, ◌∷◌, [], ◌++◌, append_assoc}
use Rattle.std.specs.Vec.Iter.{into_iter_items, into_iter_len}
use Rattle.ap_symbol.specs.Recasing.{carry_lem}
use Rattle.ap_symbol.specs.declared.symbol.Symbol.{Symbol}
use Rattle.ap_live.proofs.Ordered.{mapped_more, mapped_all}
use Rattle.ap_live.proofs.readings.append_carried.Goals as goal

pub loop-word-preserved : goal.loop-word-preserved
loop-word-preserved c = record {
  is = mapped_more (carry_lem c.args.case) c.in-Some.word c.in_ok-carried_word.field-0
      c.loop-word.yielded c.args.into.now.items c.loop-word.into.items c.push.new.self.items
      c.in_ok-carried_word.ensures c.in_ok-push.ensures.items c.loop-word.invariant.is;
  rest = c.loop-word.invariant.rest
      ∙ ap (λ (z : List (List Symbol)). c.loop-word.yielded ++ z) c.in-Some.ensures.steps.0
      ∙ sym (append_assoc c.loop-word.yielded (c.in-Some.word ∷ [])
      (into_iter_items c.next.new.self));
}

pub returns : goal.returns
returns c = mapped_all (carry_lem c.args.case) c.args.words.items c.loop-word.yielded
    (into_iter_items c.loop-word.word-iterator) c.args.into.now.items c.loop-word.into.items
    (into_iter_len c.loop-word.word-iterator)
    c.loop-word.invariant.rest c.loop-word.word-iterator.rest.ok.0 c.in-None.ensures.steps.0
    c.loop-word.invariant.is
