use Rattle.std.proofs.Common.{◌≡◌, ◌+◌, ◌-◌, ◌++◌, arith, ap, sym, ◌∙◌, length, take, drop, length-drop}
use Rattle.ap_command.specs.Working.{left_of, part_text}
use Rattle.ap_command.proofs.Making.{part-given, rest-all}
use Rattle.ap_command.proofs.made.WorkSource.give.Goals as goal

pub returns-then-count-rest-clause-given : goal.returns-then-count-rest-clause-given
returns-then-count-rest-clause-given c =
    let s = c.args.self.now in
    let text = c.part_text-text.result.now in
    part-given s.part s.next s.at c.min-count.result (s.sentences - s.next)
    c.copy_from_slice.new.self (drop c.min-count.result c.args.into.now)
    (omega (arith, c.requires.more))
    (c.copy_from_slice.ensures.after ∙ ap (take c.min-count.result) (rest-all text s.at)
    ∙ ap (λ t. take c.min-count.result (drop s.at t)) c.part_text-text.ensures)
    (omega (
      arith,
      c.if-count-rest.true,
      s.inside,
      ap length c.part_text-text.ensures,
      ap length (rest-all text s.at),
      length-drop s.at text,
    ))

pub returns-else-count-rest-clause-given : goal.returns-else-count-rest-clause-given
returns-else-count-rest-clause-given c =
    let s = c.args.self.now in
    let text = c.part_text-text.result.now in
    let n = c.min-count.result in
    let all : s.at + n ≡ length (part_text s.part s.next) =
    omega (
      arith,
      c.if-count-rest.false,
      c.min-count.ensures,
      s.inside,
      ap length c.part_text-text.ensures,
      ap length (rest-all text s.at),
      length-drop s.at text,
    ) in
    part-given s.part s.next s.at n (s.sentences - s.next)
    c.copy_from_slice.new.self (drop n c.args.into.now)
    (omega (arith, c.requires.more))
    (c.copy_from_slice.ensures.after ∙ ap (take n) (rest-all text s.at)
    ∙ ap (λ t. take n (drop s.at t)) c.part_text-text.ensures)
    (omega (arith, all))
    ∙ ap (λ x. take n (c.copy_from_slice.new.self ++ drop n c.args.into.now) ++ x)
    (ap (λ k. left_of s.part s.next k (s.sentences - s.next)) all ∙ sym c.go_on.ensures.rest)
