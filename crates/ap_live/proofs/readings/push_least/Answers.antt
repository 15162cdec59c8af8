use Rattle.std.proofs.lemmas.Result.{IfOk-weaker}
use Rattle.ap_live.proofs.readings.push_least.Goals as goal

pub returns : goal.returns
returns c = IfOk-weaker c.push_carried.result _ _ (λ done added sensitive symbols live. record {
  some = c.in_ok-words.words.items;
  holds = c.in_ok-words.ensures sensitive symbols live;
  added = added;
}) c.push_carried.ensures
