use Rattle.std.proofs.Common.{refl}
use Rattle.ap_live.specs.declared.walked.Walked.{Walked}
use Rattle.ap_live.proofs.Walks.{same_moves}
use Rattle.ap_live.proofs.walked.Walked.pass.Goals as goal

pub returns-else-self-passed : goal.returns-else-self-passed
returns-else-self-passed c =
    let new : Walked =
    record {
      recent = c.args.self.now.recent;
      earlier = c.args.self.now.earlier;
      passed = c.in-Some.passed;
      last = c.args.self.now.last;
    } in
    same_moves c.args.count c.args.self.now new refl refl c.in-Some.ensures.1
