use Rattle.std.proofs.Common.{arith}
use Rattle.ap_lookup.proofs.Translations.{live_back}
use Rattle.ap_lookup.proofs.post_search.Search.keep.Goals as goal
use Rattle.ap_lookup.proofs.post_search.Search.keep.Goals.{in-Ok, in-Err}

pub returns-clause-back : goal.returns-clause-back
returns-clause-back c = elim c.match-push.branch [
  | in-Ok w ↦ rw w.result-is tt
  | in-Err w ↦ rw (w.result-is, w.self-is)
      (λ p sensitive live. live_back p sensitive c.args.self.now.seen.items c.args.symbol
      c.len-at.result w.cut.new.self (omega (arith, c.len-at.ensures))
      (w.cut.ensures p sensitive _ live))
]
