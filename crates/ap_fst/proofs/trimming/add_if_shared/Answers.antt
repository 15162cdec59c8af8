use Rattle.std.proofs.Common.{refl, rules}
use Rattle.ap_fst.specs.Graphs.{IsSharedAt}
use Rattle.ap_fst.proofs.Adding.{adds_one}
use Rattle.ap_fst.proofs.trimming.add_if_shared.Goals as goal

pub returns : goal.returns
returns c = adds_one (IsSharedAt c.args.a.now c.args.b.now c.args.state) c.args.both.now.items
    c.push.new.self.items c.args.state c.in_ok-push.ensures.items
    (refl, c.contains.ensures.0 (search rules), c.contains-2.ensures.0 (search rules)) (λ x h. h.0)
