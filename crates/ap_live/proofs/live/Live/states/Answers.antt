use Rattle.std.proofs.Common.{ap}
use Rattle.std.proofs.lemmas.Option.{IfSome_then}
use Rattle.ap_live.specs.Lives.{Lives}
use Rattle.ap_live.proofs.LiveLaws.{held_as}
use Rattle.ap_live.proofs.live.Live.states.Goals as goal

pub returns : goal.returns
returns c = IfSome_then c.states.result c.states.ensures (λ states are m seen live.
    are m seen (held_as m seen c.args.self.now c.self.inside.ways
    (ap (λ (l : Lives). l.ways) c.self.view_is) live))
