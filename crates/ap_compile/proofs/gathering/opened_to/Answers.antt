use Rattle.std.proofs.Common.{◌≡◌, ◌∙◌, ◌-◌, ◌++◌, ◌∷◌, [], List, ap, arith, get_or, length, length-append, sym}
use Rattle.ap_dix.specs.declared.dictionary.EntryPart.{EntryPart}
use Rattle.ap_compile.specs.Gatherings.{endings, shared, Gathers}
use Rattle.ap_compile.proofs.Gathered.{gathered_on, opened_all, opened_more}
use Rattle.ap_compile.proofs.gathering.opened_to.Goals as goal

pub loop-at-preserved : goal.loop-at-preserved
loop-at-preserved c =
    let ends : List EntryPart = endings c.loop-at.all.levels.items in
    let part : EntryPart = c.index-tail-tail.result in
    let k = c.loop-at.invariant.some in
    let m = opened_more c.args.tail.now k.0 ends part part k.1
    (omega (arith, c.loop-at.invariant.size, c.loop-at-test.true))
    (c.index-tail-tail.is ∙ ap (λ n. get_or c.args.tail.now (length c.args.tail.now - 1 - n)
    c.index-tail-tail.result) (sym c.loop-at.invariant.size)) in
    record {
      some = (
        m.0,
        m.1 ∙ ap (λ (z : List EntryPart). m.0 ++ shared [] z)
            (sym c.in_ok-all.ensures.endings),
      );
      size = omega (
        arith,
        ap length c.in_ok-all.ensures.endings,
        length-append ends (part ∷ []),
        c.loop-at.invariant.size,
      );
      same = λ d direction plain.
          let was = c.loop-at.invariant.same d direction plain in
          gathered_on d direction (Gathers d direction c.args.gathering) c.loop-at.all
          c.in_ok-all.all was (c.in_ok-all.ensures.same d direction was.plain);
    }

pub returns-clause-shared : goal.returns-clause-shared
returns-clause-shared c =
    let k = c.loop-at.invariant.some in
    opened_all c.args.tail.now k.0 (endings c.loop-at.all.levels.items) k.1
    (omega (arith, c.loop-at.invariant.size, c.loop-at-test.false))
