use Rattle.std.proofs.Common.{ap, sym, subst, ◌∙◌, ◌+◌, List}
use Rattle.ap_stream.specs.Reading.{IsRead}
use Rattle.ap_stream.specs.declared.dialect.Dialect.TheVariants.{Analysed}
use Rattle.ap_stream.specs.declared.item.Read.{Read}
use Rattle.ap_stream.proofs.StepLaws.{all_pushed}
use Rattle.std.specs.List.{AllByRecursion}
use Rattle.ap_choose.specs.Works.{Choosing, IsHeld, is_over}
use Rattle.ap_choose.proofs.Turns.{pushed, bytes_on, wanted}
use Rattle.ap_choose.proofs.choose_work.ChooseWorkHandler.push.Goals as goal

pub invariant_of-self-2 : goal.invariant_of-self-2
invariant_of-self-2 c =
    let new = c.in_ok-push.ensures.ok in
    let going = ap (λ (h : Choosing). is_over h.items) c.self.view_is
    ∙ (wanted c.args.self.now.items c.requires.wanted).going in (
      c.self.invariant.0,
      subst (λ (q : List Read). AllByRecursion (IsRead Analysed) q) (sym new)
          (all_pushed (IsRead Analysed) c.self.inside.items c.args.read c.self.invariant.1
          c.requires.is_read),
      subst (λ (q : List Read). IsHeld q (c.self.inside.units + c.counted.result)
          c.ends-self-inside.result) (sym new)
          (pushed c.self.inside.items c.args.read c.self.inside.units c.len-first.result
          c.counted.result c.self.inside.over c.is_unit-unit.result c.in_ok-last.last
          c.ends-self-inside.result c.self.invariant.2 going
          c.len-first.ensures c.is_unit-unit.ensures c.in_ok-last.ensures c.counted.ensures
          c.ends-self-inside.ensures),
    )

pub returns-clause-held : goal.returns-clause-held
returns-clause-held c = bytes_on c.self.inside.items c.args.self.now.items c.push.new.self
    c.args.read (ap (λ (h : Choosing). h.items) c.self.view_is) c.in_ok-push.ensures.ok
