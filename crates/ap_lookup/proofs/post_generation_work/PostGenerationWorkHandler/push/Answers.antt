use Rattle.std.proofs.Common.{ap}
use Rattle.ap_lookup.specs.PostWorks.{Posting}
use Rattle.ap_lookup.proofs.PostTurns.{work_pushed, bytes_on}
use Rattle.ap_lookup.proofs.post_generation_work.PostGenerationWorkHandler.push.Goals as goal

pub invariant_of-self : goal.invariant_of-self
invariant_of-self c =
    work_pushed c.push.result c.self.inside.compiled c.self.inside.sensitive c.self.inside.search
    c.self.inside.items c.push.new.self c.args.read c.requires.is_read c.push.ensures.ok
    c.push.ensures.err c.self.invariant

pub returns-clause-held : goal.returns-clause-held
returns-clause-held c = bytes_on c.push.result c.self.inside.items c.args.self.now.items
    c.push.new.self c.args.read (ap (λ (h : Posting). h.items) c.self.view_is) c.push.ensures.ok
