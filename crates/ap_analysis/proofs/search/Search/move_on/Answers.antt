use Rattle.std.proofs.Common.{arith}
use Rattle.ap_analysis.proofs.Carried.{search_moved}
use Rattle.ap_analysis.proofs.search.Search.move_on.Goals as goal

pub returns : goal.returns
returns c = λ sensitive reads is like.
    search_moved c.args.compiled.now sensitive reads c.args.self.now c.args.agreement.by
    c.args.agreement.count c.min-self.result c.min-self-2.result c.cut.new.self
    c.behind-self.result c.alphabet.ensures.sound c.requires.stepping
    (omega (arith, c.min-self.ensures)) (omega (arith, c.min-self.ensures))
    (omega (arith, c.min-self-2.ensures))
    (omega (arith, c.min-self-2.ensures, c.saturating_sub.ensures)) is like
    (c.cut.ensures c.args.compiled.now sensitive _ is.lives_are) (c.behind-self.ensures reads like)
