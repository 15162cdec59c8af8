use Rattle.std.proofs.Common.{◌-◌, List, arith, length, sym, subst}
use Rattle.ap_dix.specs.declared.dictionary.EntryPart.{EntryPart}
use Rattle.ap_compile.specs.Drafts.{AreDraftedParts}
use Rattle.ap_compile.specs.Gatherings.{endings, Gathers}
use Rattle.ap_compile.proofs.Gathered.{closed_less, endings_length, gathered_on, drafted_take}
use Rattle.ap_compile.proofs.gathering.closed_to.Goals as goal

pub with_last_closed-requires : goal.with_last_closed-requires
with_last_closed-requires c =
    subst (AreDraftedParts c.args.drafts.now) (sym c.loop.invariant.ends)
    (drafted_take c.args.drafts.now (length c.args.gathering.levels.items - c.loop.counter)
    (endings c.args.gathering.levels.items) c.requires.drafted)

pub loop-preserved : goal.loop-preserved
loop-preserved c =
    let first : List EntryPart = endings c.args.gathering.levels.items in
    record {
      ends = closed_less first (endings c.loop.all.levels.items)
          (endings c.in_ok-all.all.levels.items) (length c.args.gathering.levels.items)
          c.loop.counter (length c.loop.all.levels.items)
          (endings_length c.args.gathering.levels.items) (endings_length c.loop.all.levels.items)
          (omega (arith, c.loop-test.true, c.len.ensures, c.requires.count))
          c.loop.invariant.ends c.in_ok-all.ensures.endings;
      same = λ d are plain.
          let was = c.loop.invariant.same d are plain in
          gathered_on d c.args.direction (Gathers d c.args.direction c.args.gathering) c.loop.all
          c.in_ok-all.all was (c.in_ok-all.ensures.same d are was.plain);
    }
