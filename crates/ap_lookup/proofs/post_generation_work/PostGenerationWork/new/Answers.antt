use Rattle.std.proofs.Common.{sym, subst, List}
use Rattle.std.specs.List.{AllByRecursion}
use Rattle.ap_stream.specs.Reading.{IsRead}
use Rattle.ap_stream.specs.declared.dialect.Dialect.TheVariants.{Generated}
use Rattle.ap_stream.specs.declared.item.Read.{Read}
use Rattle.ap_lookup.specs.PostSearching.{IsSearch}
use Rattle.ap_lookup.proofs.post_generation_work.PostGenerationWork.new.Goals as goal

pub invariant_of-result : goal.invariant_of-result
invariant_of-result c =
    subst (λ (items : List Read). AllByRecursion (IsRead Generated) items
    × IsSearch c.args.compiled c.args.sensitive items c.in_ok-search.search) (sym c.new.ensures)
    (tt, c.in_ok-search.ensures c.args.sensitive)
