use Rattle.std.proofs.Common.{◌≡◌, ◌-◌, ◌+◌, ◌<◌, suc, arith, ap, ◌∙◌, sym, length}
use Rattle.std.proofs.lemmas.Fmt.{decimal_nonempty}
use Rattle.ap_command.specs.Working.{left_of, part_text}
use Rattle.ap_command.proofs.Making.{on-number, on-tail, on-sentence}
use Rattle.ap_command.specs.declared.made.Part.TheVariants.{Head, Number, Tail}
use Rattle.ap_command.proofs.made.WorkSource.go_on.Goals as goal

pub invariant_of-self : goal.invariant_of-self
invariant_of-self c = record {
  few = c.args.self.now.few;
  within = c.args.self.now.within;
  inside = decimal_nonempty c.args.self.now.next
      (omega (arith, c.args.self.now.few, c.args.self.now.within));
}

pub returns-in-Head-clause-rest : goal.returns-in-Head-clause-rest
returns-in-Head-clause-rest c = let s = c.args.self.now in
    on-number s.next (s.sentences - s.next) (omega (arith, c.requires))
    ∙ sym (ap (λ p. left_of p s.next (length (part_text p s.next)) (s.sentences - s.next))
    c.in-Head.is)

pub returns-in-Number-clause-rest : goal.returns-in-Number-clause-rest
returns-in-Number-clause-rest c = let s = c.args.self.now in
    on-tail s.next (s.sentences - s.next) (omega (arith, c.requires))
    ∙ sym (ap (λ p. left_of p s.next (length (part_text p s.next)) (s.sentences - s.next))
    c.in-Number.is)

pub returns-in-Tail-clause-rest : goal.returns-in-Tail-clause-rest
returns-in-Tail-clause-rest c = let s = c.args.self.now in
    on-sentence s.next (s.sentences - s.next) (s.sentences - (s.next + 1))
    (omega (arith, c.requires))
    ∙ sym (ap (λ p. left_of p s.next (length (part_text p s.next)) (s.sentences - s.next))
    c.in-Tail.is)
