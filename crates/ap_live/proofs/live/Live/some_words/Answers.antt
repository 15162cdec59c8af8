use Rattle.std.proofs.Common.{ap}
use Rattle.std.proofs.lemmas.Result.{IfOk-weaker}
use Rattle.ap_live.specs.Lives.{Lives}
use Rattle.ap_live.proofs.LiveLaws.{held_as, outline_there}
use Rattle.ap_live.proofs.live.Live.some_words.Goals as goal

pub returns : goal.returns
returns c = IfOk-weaker c.some_words.result _ _
    (λ words h seen live. h
    (outline_there c.args.fst.now seen c.args.self.now c.self.inside.outline
    (ap (λ (l : Lives). l.outline) c.self.view_is) live) seen
    (held_as c.args.fst.now seen c.args.self.now c.self.inside.ways
    (ap (λ (l : Lives). l.ways) c.self.view_is) live)) c.some_words.ensures
