use Rattle.std.proofs.Common.{refl, take}
use Rattle.ap_live.proofs.LiveLaws.{live_on}
use Rattle.ap_live.proofs.live.Live.cut.Goals as goal

pub returns : goal.returns
returns c = λ m seen live. live_on m seen (take c.args.len seen) c.args.self.now _ _ live
    c.self.view_is (c.cut.ensures m seen) refl refl
