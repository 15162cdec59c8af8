use Rattle.std.proofs.Common.{◌≡◌, ◌++◌, ◌∷◌, [], subst, sym, ℕ}
use Rattle.ap_live.specs.Fitting.{Input}
use Rattle.ap_live.specs.Lives.{IsLive}
use Rattle.ap_live.specs.SectionLives.{IsLiveBehind}
use Rattle.ap_live.proofs.SectionLives.{live_held, live_whole, whole_live}
use Rattle.ap_live.proofs.section_live.SectionLive.go_on.Goals as goal

pub returns-in-Ok-clause-stepped : goal.returns-in-Ok-clause-stepped
returns-in-Ok-clause-stepped c = λ t seen is.
    let input : Input = record { symbol = c.args.input.now; sensitive = c.args.sensitive } in
    let zero : c.args.self.now.behind ≡ 0 = c.requires c.in-Some.live c.in-Some.is in
    let before : IsLive c.args.fst.now seen c.in-Some.live =
    live_whole c.args.fst.now seen c.in-Some.live c.args.self.now.behind zero
    (live_held c.args.fst.now seen c.args.self.now.live c.args.self.now.behind c.in-Some.live
    c.in-Some.is is) in
    subst (λ (z : ℕ). IsLiveBehind c.args.fst.now (seen ++ input ∷ []) c.step.new.self z)
    (sym zero) (whole_live c.args.fst.now (seen ++ input ∷ []) c.step.new.self
    (c.in-Ok.ensures.ok seen before))
