use Rattle.std.proofs.Common.{sym, subst, List}
use Rattle.std.specs.List.{AllByRecursion}
use Rattle.ap_stream.specs.Reading.{IsRead}
use Rattle.ap_stream.specs.declared.dialect.Dialect.TheVariants.{Generated}
use Rattle.ap_stream.specs.declared.item.Read.{Read}
use Rattle.ap_stream.proofs.StepLaws.{all_left}
use Rattle.ap_lookup.specs.PostSearching.{IsSearch}
use Rattle.ap_lookup.proofs.post_generation_work.PostGenerationWork.forget.Goals as goal

pub invariant_of-self : goal.invariant_of-self
invariant_of-self c = (
  subst (λ (items : List Read). AllByRecursion (IsRead Generated) items) (sym c.forget.ensures)
      (all_left (IsRead Generated) c.self.inside.items c.args.count c.self.invariant.0),
  subst (λ (items : List Read). IsSearch c.self.inside.compiled c.self.inside.sensitive items
      c.pass.new.self) (sym c.forget.ensures)
      ((rw c.as_slice.ensures at c.pass.ensures) c.self.inside.sensitive c.self.invariant.1),
)
