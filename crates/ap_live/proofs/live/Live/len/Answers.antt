use Rattle.std.proofs.Common.{ap}
use Rattle.ap_live.specs.Lives.{Lives}
use Rattle.ap_live.proofs.LiveLaws.{held_as}
use Rattle.ap_live.proofs.live.Live.len.Goals as goal

pub returns : goal.returns
returns c = λ m seen live. c.len.ensures m seen (held_as m seen c.args.self.now
    c.self.inside.ways (ap (λ (l : Lives). l.ways) c.self.view_is) live)
