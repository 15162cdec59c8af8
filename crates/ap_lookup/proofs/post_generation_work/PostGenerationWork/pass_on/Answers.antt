use Rattle.std.proofs.Common.{◌∙◌, ap, sym, subst, List}
use Rattle.std.specs.List.{AllByRecursion}
use Rattle.ap_stream.specs.Reading.{IsRead}
use Rattle.ap_stream.specs.declared.dialect.Dialect.TheVariants.{Generated}
use Rattle.ap_stream.specs.declared.item.Read.{Read}
use Rattle.ap_stream.proofs.StepLaws.{all_left}
use Rattle.ap_lookup.specs.PostWorks.{Posting}
use Rattle.ap_lookup.proofs.PostTurns.{copied_is}
use Rattle.ap_lookup.proofs.post_generation_work.PostGenerationWork.pass_on.Goals as goal

pub invariant_of-self : goal.invariant_of-self
invariant_of-self c = (
  subst (λ (items : List Read). AllByRecursion (IsRead Generated) items) (sym c.forget.ensures)
      (all_left (IsRead Generated) c.self.inside.items 1 c.self.invariant.0),
  c.restart.ensures c.self.inside.compiled c.self.inside.sensitive c.self.inside.items
      c.forget.new.self c.self.invariant.1,
)

pub returns-clause-copied : goal.returns-clause-copied
returns-clause-copied c =
    copied_is c.args.self.now.items c.as_slice.result.now c.index-as_slice-0.result
    c.args.into.now c.write_item.new.into
    (c.as_slice.ensures ∙ ap (λ (h : Posting). h.items) c.self.view_is) c.requires.some
    c.in_ok-write_item.ensures.ok
