use Rattle.std.proofs.Common.{◌∙◌, sym, rules}
use Rattle.ap_fst.proofs.Commons.{adds_push}
use Rattle.ap_fst.proofs.trimming.add_common.Goals as goal

pub returns : goal.returns
returns c = adds_push c.args.a.now c.args.b.now c.args.at c.in-Some.state c.args.both.now.items
    c.push.new.self.items (sym c.get.ensures.value ∙ c.in-Some.is)
    (c.contains.ensures.0 (search rules)) c.in_ok-push.ensures.items
