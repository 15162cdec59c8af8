use Rattle.std.proofs.Common.{sym, ap, ◌∙◌}
use Rattle.std.proofs.lemmas.Option.{none-some}
use Rattle.ap_live.specs.Fitting.{pick_of}
use Rattle.ap_live.proofs.Spreading.{adds, adds_pushed}
use Rattle.ap_live.proofs.rows.enter.Goals as goal

pub returns-in_ok-add_state-in-Silent : goal.returns-in_ok-add_state-in-Silent
returns-in_ok-add_state-in-Silent c =
    adds (pick_of c.args.pick) c.args.states.now.items c.args.state c.add_state.new.states.items
    c.in_ok-add_state-in-Silent.ensures

pub returns-in_ok-push-in-Fitting : goal.returns-in_ok-push-in-Fitting
returns-in_ok-push-in-Fitting c =
    adds_pushed (pick_of c.args.pick) c.args.states.now.items c.args.state c.push.new.self.items
    (λ n. none-some _ (sym n ∙ ap pick_of c.in-Fitting.is)) c.in_ok-push-in-Fitting.ensures.items
