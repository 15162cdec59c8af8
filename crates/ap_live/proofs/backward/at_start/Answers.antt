use Rattle.std.proofs.Common.{ap, ◌∙◌, sym, List, ◌∷◌, [], ◌++◌, append_assoc}
use Rattle.std.specs.Vec.Iter.{into_iter_items, into_iter_len}
use Rattle.ap_live.specs.declared.items.Item.{Item}
use Rattle.ap_live.proofs.TailLaws.{start_more, start_all, over_at}
use Rattle.ap_live.proofs.backward.at_start.Goals as goal

pub loop-item-preserved : goal.loop-item-preserved
loop-item-preserved c = record {
  found = start_more c.loop-item.backs.items c.add_start.new.backs.items c.loop-item.yielded
      c.in-Some.item c.loop-item.invariant.found c.in_ok-add_start.ensures;
  rest = c.loop-item.invariant.rest
      ∙ ap (λ (z : List Item). c.loop-item.yielded ++ z) c.in-Some.ensures.steps.0
      ∙ sym (append_assoc c.loop-item.yielded (c.in-Some.item ∷ [])
      (into_iter_items c.next.new.self));
}

pub returns : goal.returns
returns c = start_all c.loop-item.backs.items c.args.items.items c.loop-item.yielded
    (into_iter_items c.loop-item.item-iterator) c.loop-item.invariant.rest
    (over_at (into_iter_items c.loop-item.item-iterator) (into_iter_len c.loop-item.item-iterator)
    c.loop-item.item-iterator.rest.ok.0 c.in-None.ensures.steps.0) c.loop-item.invariant.found
