use Rattle.std.proofs.Common.{arith, length, ◌≤◌, ◌<◌, ◌≡◌, get_or, sym, subst, refl}
use Rattle.ap_live.specs.Spreads.{given}
use Rattle.ap_live.proofs.Spreading.{spread_nothing, few_states, close_step, close_sound, in_at, closed_by, longer, to_in}
use Rattle.ap_fst.specs.Lists.{IsIn}
use Rattle.std.proofs.lemmas.List.{get_or_read_under}
use Rattle.ap_live.proofs.rows.close.Goals as goal

pub loop-at-init : goal.loop-at-init
loop-at-init c = λ is. record {
  in_range = omega arith;
  spread = spread_nothing _ _ _ _;
  sound =
      λ s i. given i;
  distinct = c.requires.distinct;
}

pub loop-at-preserved : goal.loop-at-preserved
loop-at-preserved c = λ is.
    let so = c.loop-at.invariant is in
    let within : c.loop-at.at < length c.loop-at.states.items = omega arith in
    let read : c.index-from.result.now ≡ get_or c.loop-at.states.items c.loop-at.at 0 =
    get_or_read_under c.loop-at.states.items c.loop-at.at (length c.loop-at.states.items)
    c.index-from.result.now 0 c.index-from.ensures within refl in
    let listed : IsIn c.index-from.result.now c.loop-at.states.items =
    subst (λ x. IsIn x c.loop-at.states.items) (sym read)
    (in_at c.loop-at.states.items c.loop-at.at within) in
    record {
      in_range = longer c.loop-at.states.items c.spread_silently.new.states.items
          (c.in_ok-spread_silently.ensures is).more c.loop-at.at
          (c.in_ok-spread_silently.ensures is).grown within;
      spread = close_step c.args.fst.now.edges c.args.states.now.items c.loop-at.states.items
          c.args.links.now.items c.loop-at.links.items c.spread_silently.new.states.items
          c.spread_silently.new.links.items
          c.index-from.result.now c.loop-at.at within read so.spread
          (c.in_ok-spread_silently.ensures is);
      sound = close_sound c.args.fst.now.edges c.args.states.now.items c.loop-at.states.items
          c.loop-at.links.items c.spread_silently.new.states.items c.spread_silently.new.links.items
          c.index-from.result.now
          listed so.sound (c.in_ok-spread_silently.ensures is);
      distinct = (c.in_ok-spread_silently.ensures is).distinct refl so.distinct;
    }

pub returns : goal.returns
returns c = λ is.
    let so = c.loop-at.invariant is in
    let few : length c.loop-at.states.items ≤ c.args.fst.now.states =
    few_states c.args.fst.now.edges c.args.states.now.items c.loop-at.states.items
    c.args.fst.now.states (c.requires.below is) (to_in c.args.fst.now c.states-at-end.ensures.sound)
    so.distinct so.sound in
    closed_by c.args.fst.now.edges c.args.states.now.items c.args.links.now.items
    c.loop-at.states.items c.loop-at.links.items c.loop-at.at (omega arith) so.spread so.sound
