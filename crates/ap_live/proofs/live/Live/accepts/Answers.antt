use Rattle.std.proofs.Common.{ap, List}
use Rattle.ap_symbol.specs.declared.symbol.Symbol.{Symbol}
use Rattle.ap_live.specs.Found.{has_output}
use Rattle.ap_live.specs.Lives.{Lives}
use Rattle.ap_live.specs.Outputs.{IsOutput}
use Rattle.ap_live.proofs.Finding.{output_there, same_answer}
use Rattle.ap_live.proofs.LiveLaws.{accepts_law, held_as}
use Rattle.ap_live.proofs.live.Live.accepts.Goals as goal

pub returns-clause-some : goal.returns-clause-some
returns-clause-some c = λ seen live. accepts_law c.args.fst.now seen c.accepts.result
    (c.accepts.ensures seen (held_as c.args.fst.now seen c.args.self.now c.self.inside.ways
    (ap (λ (l : Lives). l.ways) c.self.view_is) live))

pub returns-clause-found : goal.returns-clause-found
returns-clause-found c =
    λ seen none live. same_answer c.accepts.result (has_output c.args.fst.now seen)
    ((w : List Symbol) × IsOutput c.args.fst.now seen w)
    (accepts_law c.args.fst.now seen c.accepts.result
    (c.accepts.ensures seen (held_as c.args.fst.now seen c.args.self.now c.self.inside.ways
    (ap (λ (l : Lives). l.ways) c.self.view_is) live)))
    (output_there c.args.fst.now seen c.states.ensures.sound none)
