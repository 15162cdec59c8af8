use Rattle.std.proofs.Common.{ap, ◌∙◌, sym, List, ◌∷◌, [], ◌++◌, append_assoc}
use Rattle.std.specs.Vec.Iter.{into_iter_items, into_iter_len}
use Rattle.ap_symbol.specs.declared.symbol.Symbol.{Symbol}
use Rattle.ap_live.proofs.TailLaws.{over_at}
use Rattle.ap_live.proofs.WordLaws.{reversed_more, reversed_all, proper_more, yielded_in}
use Rattle.ap_live.proofs.wording.words_of.Goals as goal

pub word_of-requires : goal.word_of-requires
word_of-requires c = c.requires c.in-Some.back
    (yielded_in c.args.backs.items c.loop-back.yielded (into_iter_items c.loop-back.back-iterator)
    (into_iter_items c.next.new.self) c.in-Some.back c.loop-back.invariant.rest
    c.in-Some.ensures.steps.0)

pub loop-back-preserved : goal.loop-back-preserved
loop-back-preserved c = record {
  so_far = reversed_more c.loop-back.yielded c.in-Some.back c.in_ok-word_of.field-0
      c.loop-back.words.items c.push.new.self.items c.in_ok-word_of.ensures.is
      c.in_ok-push.ensures.items c.loop-back.invariant.so_far;
  proper = proper_more c.loop-back.words.items c.push.new.self.items c.in_ok-word_of.field-0
      c.in_ok-push.ensures.items c.in_ok-word_of.ensures.proper c.loop-back.invariant.proper;
  rest = c.loop-back.invariant.rest
      ∙ ap (λ (z : List (List Symbol)). c.loop-back.yielded ++ z) c.in-Some.ensures.steps.0
      ∙ sym (append_assoc c.loop-back.yielded (c.in-Some.back ∷ [])
      (into_iter_items c.next.new.self));
}

pub returns-clause-is : goal.returns-clause-is
returns-clause-is c = reversed_all c.args.backs.items c.loop-back.yielded
    (into_iter_items c.loop-back.back-iterator) c.loop-back.words.items c.loop-back.invariant.rest
    (over_at (into_iter_items c.loop-back.back-iterator) (into_iter_len c.loop-back.back-iterator)
    c.loop-back.back-iterator.rest.ok.0 c.in-None.ensures.steps.0) c.loop-back.invariant.so_far
