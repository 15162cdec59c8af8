use Rattle.std.proofs.Common.{◌∙◌, ap, set, List, Option, arith}
use Rattle.ap_symbol.specs.declared.symbol.Symbol.{Symbol}
use Rattle.ap_exec.specs.Running.{RunState}
use Rattle.ap_exec.specs.States.{run_state, overlaid}
use Rattle.ap_exec.proofs.Overlays.{set_fresh, set_nothing}
use Rattle.ap_exec.proofs.changes.set_var.Goals as goal

pub returns-then-n-world : goal.returns-then-n-world
returns-then-n-world c =
    let f : List (List Symbol) → RunState =
    λ vs. record (run_state c.args.world c.args.state.now) { vars = vs } in
    ap f (set_nothing c.args.world.vars.now c.args.state.now.fresh.items c.args.n c.args.word
    (omega (arith, c.if-n-world.true)))

pub returns : goal.returns
returns c =
    let f : List (List Symbol) → RunState =
    λ vs. record (run_state c.args.world c.args.state.now) { vars = vs } in
    ap f (ap (λ (fresh : List (Option (List Symbol))). overlaid c.args.world.vars.now fresh)
    c.put_new.ensures
    ∙ set_fresh c.args.world.vars.now c.reach.new.fresh.items c.args.n c.args.word
    c.in_ok-reach.ensures.reached
    ∙ ap (λ (vs : List (List Symbol)). set vs c.args.n c.args.word)
    (c.in_ok-reach.ensures.same c.args.world.vars.now))
