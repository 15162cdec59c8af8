use Rattle.std.proofs.Common.{arith, sym, ◌∙◌, ◌+◌, ◌<◌, ◌≤◌, refl, drop, length, ap}
use Rattle.std.proofs.lemmas.List.{drop_all}
use Rattle.ap_stream.specs.Blanks.{closing, longer}
use Rattle.ap_stream.proofs.Superblanks as lemmas
use Rattle.ap_stream.proofs.supers.closed_size.Goals as goal
use Rattle.ap_stream.proofs.supers.closed_size.Goals.{In-Char}

pub returns-in-Part : goal.returns-in-Part
returns-in-Part c = record {
  closed = tt;
  within = tt;
  unclosed =
      λ _. lemmas.part_unclosed c.args.bytes.now c.loop-at.at c.loop-at.escaped _
      c.loop-at.invariant.on c.in-Part.ensures refl;
}

pub returns-in-NotChar : goal.returns-in-NotChar
returns-in-NotChar c = record {
  closed = tt;
  within = tt;
  unclosed =
      λ _. lemmas.bad_unclosed c.args.bytes.now c.loop-at.at c.loop-at.escaped _
      c.loop-at.invariant.on c.in-NotChar.ensures refl;
}

within : (c : In-Char) →
    (0 < c.in-Char.size) × (c.loop-at.at + c.in-Char.size ≤ length c.args.bytes.now)
within c = lemmas.closed_within c.args.bytes.now c.loop-at.at c.loop-at.escaped _
    c.loop-at.invariant.on c.in-Char.ensures c.in-Char.letter c.in-Char.size refl
    c.loop-at.invariant.within

pub overflow_add-at : goal.overflow_add-at
overflow_add-at c = let w = within c in omega (arith, w.1)

pub returns-then-is_closing : goal.returns-then-is_closing
returns-then-is_closing c = record {
  closed = lemmas.closed_here c.args.bytes.now c.loop-at.at c.loop-at.escaped _
      c.loop-at.invariant.on c.in-Char.ensures c.in-Char.letter c.in-Char.size refl
      (sym c.is_closing.ensures ∙ c.if-is_closing.true);
  within = (within (goal.at.returns-then-is_closing c).In-Char).1;
  unclosed = λ e. absurd (cc);
}

pub loop-at-smaller : goal.loop-at-smaller
loop-at-smaller c = let w = within (goal.at.loop-at-smaller c).In-Char in omega (arith, w.0, w.1)

pub loop-at-preserved : goal.loop-at-preserved
loop-at-preserved c = record {
  within = (within (goal.at.loop-at-preserved c).In-Char).1;
  on = lemmas.closed_later c.args.bytes.now c.loop-at.at c.loop-at.escaped _ c.loop-at.invariant.on
      c.in-Char.ensures c.in-Char.letter c.in-Char.size refl (sym c.is_closing.ensures
      ∙ c.if-is_closing.false)
      ∙ ap (λ (e : _). longer (c.loop-at.at + c.in-Char.size)
      (closing e 0 (drop (c.loop-at.at + c.in-Char.size) c.args.bytes.now)))
      (sym c.is_escaping-escaped.ensures);
}

pub returns-clause-unclosed : goal.returns-clause-unclosed
returns-clause-unclosed c =
    λ _. lemmas.none_unclosed c.args.bytes.now c.loop-at.at c.loop-at.escaped c.loop-at.invariant.on
    (drop_all c.loop-at.at c.args.bytes.now c.loop-at-test.false)
