use Rattle.std.proofs.Common.{◌≡◌, ◌+◌, ◌-◌, ◌<◌, List, length, refl, arith, subst}
use Rattle.std.specs.Prelude.{◌↔◌}
use Rattle.ap_symbol.specs.Lists.{IsIn}
use Rattle.ap_symbol.specs.declared.symbol.Symbol.{Symbol}
use Rattle.ap_compound.specs.Places.{words_from}
use Rattle.ap_compound.specs.declared.listing.Listed.{Listed}
use Rattle.ap_compound.proofs.Steps.{listed_none, listed_more}
use Rattle.ap_compound.proofs.listing.all_listed.Goals as goal

pub loop-at-init : goal.loop-at-init
loop-at-init c = record {
  within = omega arith;
  lists = listed_none c.args.total (length c.args.places.now) c.args.places.now
      c.new-lists.result.items (omega arith) c.new-lists.ensures.items;
}

pub loop-at-preserved : goal.loop-at-preserved
loop-at-preserved c =
    let up : c.loop-at.at ≡ c.loop-at.at - 1 + 1 = omega (arith, c.loop-at-test.true) in
    let below : c.loop-at.at - 1 < length c.args.places.now =
    omega (arith, c.loop-at-test.true, c.loop-at.invariant.within) in
    record {
      within = omega arith;
      lists = listed_more c.args.total (c.loop-at.at - 1) c.loop-at.at c.args.places.now
          c.index-places-at.result (record {
            fewest = c.index-places-at.result.fewest;
            words = c.in_ok-words.words;
          }) c.loop-at.lists.items c.insert.new.self.items up below
          c.index-places-at.is c.in_ok-insert.ensures.items refl
          (subst (λ (z : List Listed). (w : List Symbol) → IsIn w c.in_ok-words.words
          ↔ IsIn w (words_from c.index-places-at.result.fewest c.index-places-at.result
          (c.loop-at.at - 1) c.args.total z)) c.as_slice.ensures.value c.in_ok-words.ensures)
          c.loop-at.invariant.lists;
    }
