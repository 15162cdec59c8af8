use Rattle.std.proofs.Common.{ap, ◌∙◌, ◌≡◌, ◌-◌, List, ℕ, ◌++◌, length, true}
use Rattle.std.specs.Prelude.{leb}
use Rattle.ap_stream.specs.Limits.{unit_max}
use Rattle.ap_stream.proofs.EachLaws as laws
use Rattle.ap_stream.proofs.UnitWords.{words_are}
use Rattle.ap_stream.proofs.each.EachByUnit.unit.Goals as goal

pub returns-clause-wrote : goal.returns-clause-wrote
returns-clause-wrote g c = λ ok.
    let room : c.extend_from_slice.new.self.items ≡ c.args.bytes.now =
    c.in_ok-extend_from_slice.ensures.items
    ∙ ap (λ (q : List ℕ). q ++ c.args.bytes.now) c.clear.ensures.items in
    let is = rw room at c.from_bytes-unit.ensures in
    let text = c.in_ok-is_written.ensures.text (cc) in
    let size : leb (length c.as_slice.result.now - length c.as_slice-before.result.now) unit_max
    ≡ true = cc in
    let few = rw (c.as_slice.ensures, c.as_slice-before.ensures) at size in (
      _,
      text,
      laws.unit_gives g.W.UnitWriter.given c.args.self.now c.self.inside.writer c.write_new.new.writer
          c.self.inside.dialect c.self.inside.item c.self.inside.finished c.self.view_is
          c.requires.none c.in_ok-is_written.ensures.same c.args.bytes.now _ is
          (laws.few_appended _ _ _ text few),
    )

pub invariant_of-self-then-not-is_written : goal.invariant_of-self-then-not-is_written
invariant_of-self-then-not-is_written g c =
    let room : c.extend_from_slice.new.self.items ≡ c.args.bytes.now =
    c.in_ok-extend_from_slice.ensures.items
    ∙ ap (λ (q : List ℕ). q ++ c.args.bytes.now) c.clear.ensures.items in
    let is = rw room at c.from_bytes-unit.ensures in
    let copy : c.extend_from_slice-then-not-is_written.new.self.items ≡ c.args.bytes.now =
    c.in_ok-extend_from_slice-2.ensures.items
    ∙ ap (λ (q : List ℕ). q ++ c.args.bytes.now) c.new-long.ensures.items in (
      c.self.invariant.0,
      c.in_ok-is_written.ensures.kept,
      rw (c.in_ok-is_written.ensures.same, copy, words_are c.self.inside.dialect c.args.bytes.now _ is)
          (c.in_ok-is_written.ensures.long (cc)),
    )
