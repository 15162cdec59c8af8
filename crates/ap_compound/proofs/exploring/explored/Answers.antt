use Rattle.std.proofs.Common.{◌+◌, length, ap, ◌∙◌}
use Rattle.std.proofs.lemmas.List.{length_push, take_rest}
use Rattle.ap_live.specs.Lexicon.{lexicon_of}
use Rattle.ap_compound.proofs.Steps.{explored_next}
use Rattle.ap_compound.proofs.exploring.explored.Goals as goal

pub loop-at-preserved : goal.loop-at-preserved
loop-at-preserved c = record {
  each = explored_next (lexicon_of c.args.compiled.now c.args.sensitive) c.args.surface.now _
      c.loop-at.places.items c.as_slice.result.now c.push.new.self.items c.in_ok-place.place
      c.in_ok-fewest.fewest c.loop-at.at c.loop-at.invariant.count c.as_slice.ensures.value
      c.in_ok-push.ensures.items (take_rest c.args.surface.now c.loop-at.at)
      c.in_ok-place.ensures.fewest c.loop-at.invariant.each c.in_ok-place.ensures.row
      c.in_ok-fewest.ensures.first c.in_ok-fewest.ensures.behind;
  count = ap length c.in_ok-push.ensures.items
      ∙ length_push c.loop-at.places.items c.in_ok-place.place
      ∙ ap (λ n. n + 1) c.loop-at.invariant.count;
  live = c.in_ok-place.ensures.lives;
}
