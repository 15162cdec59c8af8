use Rattle.std.proofs.Common.{arith, ap, ◌∙◌, length}
use Rattle.ap_stream.specs.UnitBytes.{UnitOf}
use Rattle.ap_stream.proofs.GivenLaws as given
use Rattle.ap_stream.proofs.LimitedLaws as limited
use Rattle.ap_stream.proofs.reader.Reader.unit.Goals as goal

pub invariant_of-self-2 : goal.invariant_of-self-2
invariant_of-self-2 c = (
  let n = ap length c.in-Ok.ensures.left in
      omega (arith, n),
  λ _. given.stands_new _ _ c.in-Ok.ensures.left,
)

pub returns-clause-given : goal.returns-clause-given
returns-clause-given c =
    let is : UnitOf c.args.self.now.dialect c.args.self.now.held c.from_bytes.result =
    rw (← c.self.view_is) (rw c.in-Ok.ensures.bytes at c.from_bytes.ensures) in
    given.whole_given _ _ _ _ _ _ c.self.view_is _ (rw is.begins (omega arith))
    (limited.unit_surely _ _ _ c.requires.short is) _ _ _ _
    (c.len.ensures ∙ c.in-Ok.bytes.ok.0 ∙ ap length c.in-Ok.ensures.bytes) c.in-Ok.ensures.left
    c.place_after-self-inside.ensures

pub returns-clause-item : goal.returns-clause-item
returns-clause-item c =
    let is : UnitOf c.args.self.now.dialect c.args.self.now.held c.from_bytes.result =
    rw (← c.self.view_is) (rw c.in-Ok.ensures.bytes at c.from_bytes.ensures) in
    given.whole_read _ _ _ _ _ _ c.self.view_is _ (rw is.begins (omega arith))
    (limited.unit_surely _ _ _ c.requires.short is) c.requires.short _
    (c.len.ensures ∙ c.in-Ok.bytes.ok.0 ∙ ap length c.in-Ok.ensures.bytes)
