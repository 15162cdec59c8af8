use Rattle.std.proofs.Common.{arith, ap, ◌∙◌, length}
use Rattle.ap_stream.proofs.GivenLaws as given
use Rattle.ap_stream.proofs.reader.Reader.give.Goals as goal

pub invariant_of-self : goal.invariant_of-self
invariant_of-self c = (
  let n = ap length c.clear.ensures.items in
      omega (arith, n),
  λ _. given.stands_new _ _ c.clear.ensures.items,
)

pub returns-clause-given : goal.returns-clause-given
returns-clause-given c =
    given.whole_given _ _ _ _ _ _ c.self.view_is c.args.item c.requires.some c.requires.whole _ _ _ _
    (c.len.ensures ∙ c.self.inside.held.ok.0) c.clear.ensures.items
    c.place_after-self-inside.ensures

pub returns-clause-item : goal.returns-clause-item
returns-clause-item c =
    given.whole_read _ _ _ _ _ _ c.self.view_is c.args.item c.requires.some c.requires.whole
    c.requires.short _ (c.len.ensures ∙ c.self.inside.held.ok.0)
