use Rattle.std.proofs.Common.{refl, sym, subst, ◌++◌, ◌∷◌, []}
use Rattle.std.proofs.lemmas.Result.{IfOk-weaker}
use Rattle.ap_live.specs.Fitting.{Input}
use Rattle.ap_live.specs.Lives.{Lives}
use Rattle.ap_live.specs.Outlines.{IsOutline}
use Rattle.ap_live.proofs.LiveLaws.{live_on}
use Rattle.ap_live.proofs.live.Live.step.Goals as goal

pub returns-clause-ok : goal.returns-clause-ok
returns-clause-ok c = IfOk-weaker c.step.result _ _
    (λ x h seen live. let input : Input =
    record { symbol = c.args.input.now; sensitive = c.args.sensitive } in
    live_on c.args.fst.now seen (seen ++ input ∷ []) c.args.self.now _ _ live c.self.view_is
    (h seen (subst (λ (z : Lives). IsOutline c.args.fst.now.edges z.outline) (sym c.self.view_is)
    live.outline_is)) refl refl) c.step.ensures.ok
