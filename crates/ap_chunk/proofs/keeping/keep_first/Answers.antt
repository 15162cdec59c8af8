use Rattle.std.proofs.Common.{◌&&◌, ◌∙◌, ap, sym}
use Rattle.ap_chunk.specs.Choice.{unit_of}
use Rattle.ap_chunk.specs.Live.{stays, finishes}
use Rattle.ap_chunk.specs.Patterns.{has, list_at}
use Rattle.ap_chunk.proofs.Lives.{starts_none, all_kept, all_least}
use Rattle.ap_chunk.proofs.keeping.keep_first.Goals as goal

pub categories-init : goal.categories-init
categories-init c =
    let u = unit_of c.args.unit.now in
    let ps = c.args.patterns.now in
    record {
      kept = λ r. ap (λ l. has l r) c.requires
          ∙ sym (ap (λ b. b && stays ps 0 u r) (starts_none u (list_at ps r)));
      over = λ r. ap (λ b. b && finishes ps 0 u r) (starts_none u (list_at ps r));
    }

pub categories-preserved : goal.categories-preserved
categories-preserved c =
    record {
      kept = c.in_ok-least.ensures.kept c.categories.invariant.kept;
      over =
          c.in_ok-least.ensures.over c.categories.invariant.over;
    }

pub returns-clause-kept : goal.returns-clause-kept
returns-clause-kept c = all_kept c.args.patterns.now c.args.unit.now c.categories.category
    c.categories.kept.items c.categories-test.false c.categories.invariant.kept

pub returns-clause-over : goal.returns-clause-over
returns-clause-over c = all_least c.args.patterns.now c.args.unit.now c.categories.category
    c.categories.least c.categories-test.false c.categories.invariant.over
