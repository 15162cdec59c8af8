use Rattle.std.proofs.Common.{arith, ap, refl, ◌∙◌, length}
use Rattle.ap_stream.specs.Given.{Begun}
use Rattle.ap_stream.proofs.GivenLaws as given
use Rattle.ap_stream.proofs.reader.Reader.blank.Goals as goal

pub invariant_of-self-2 : goal.invariant_of-self-2
invariant_of-self-2 c = (
  let n = ap length c.in-Ok.ensures.left in
      omega (arith, n),
  λ _. given.stands_byte _ _ _ _ c.in-Ok.ensures.left
      (ap (λ (s : Begun). s.looked) c.self.view_is ∙ c.requires.looked),
)

pub returns-clause-given : goal.returns-clause-given
returns-clause-given c =
    given.blank_given _ _ _ _ _ _ c.self.view_is c.args.count c.requires.some c.requires.one
    c.requires.whole _ _ _ _ _ c.in-Ok.ensures.bytes refl c.in-Ok.ensures.left
    c.place_after-self-inside.ensures

pub returns-clause-item : goal.returns-clause-item
returns-clause-item c =
    given.blank_read _ _ _ _ _ _ c.self.view_is c.args.count c.requires.some c.requires.short
    c.requires.whole _ c.in-Ok.ensures.bytes
