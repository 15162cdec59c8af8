use Rattle.ap_fst.proofs.Growing.{grows_one}
use Rattle.std.proofs.Common.{◌∙◌, ap, ℕ, List}
use Rattle.ap_fst.specs.Graphs.{with_state}
use Rattle.ap_trim.proofs.states.States.add.Goals as goal

pub returns : goal.returns
returns c = grows_one c.args.self.now c.args.state c.insert.new.self.keys
    (c.in_ok-insert.ensures.keys ∙ ap (λ (z : List ℕ). with_state z c.args.state) c.self.view_is)
