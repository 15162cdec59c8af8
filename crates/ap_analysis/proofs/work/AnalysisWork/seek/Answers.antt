use Rattle.std.proofs.Common.{ap, subst, ◌∙◌, [], length, Option}
use Rattle.std.specs.Prelude.{IfSome}
use Rattle.ap_live.specs.Lexicon.{lexicon_of}
use Rattle.ap_analysis.specs.FrontSteps.{IsFrontStep, step_by}
use Rattle.ap_analysis.specs.Held.{Held}
use Rattle.ap_analysis.specs.declared.front_steps.FrontKey.{FrontKey}
use Rattle.ap_analysis.proofs.ByteFronts.{seen_bare, seen_gave}
use Rattle.ap_analysis.proofs.Running.{some_weaker}
use Rattle.ap_analysis.proofs.work.AnalysisWork.seek.Goals as goal

pub sought-made-requires : goal.sought-made-requires
sought-made-requires c = record {
  search = c.restart.ensures c.self.inside.compiled c.self.inside.sensitive c.self.inside.items []
      c.self.invariant.1;
}

pub invariant_of-self : goal.invariant_of-self
invariant_of-self c = (
  c.self.invariant.0,
  c.restart-2.ensures c.self.inside.compiled c.self.inside.sensitive c.sought-made.new.reads.items
      c.self.inside.items c.sought-made.ensures.search,
  c.self.invariant.2,
  c.self.invariant.3,
  c.self.invariant.4,
)

pub invariant_of-self-in-None : goal.invariant_of-self-in-None
invariant_of-self-in-None c = (
  c.self.invariant.0,
  c.restart-2.ensures c.self.inside.compiled c.self.inside.sensitive c.sought-made.new.reads.items
      c.self.inside.items c.sought-made.ensures.search,
  c.self.invariant.2,
  c.self.invariant.3,
  c.self.invariant.4,
)

pub invariant_of-self-in_err-found-in-Some : goal.invariant_of-self-in_err-found-in-Some
invariant_of-self-in_err-found-in-Some c = (
  c.self.invariant.0,
  c.restart-2.ensures c.self.inside.compiled c.self.inside.sensitive c.sought-made.new.reads.items
      c.self.inside.items c.sought-made.ensures.search,
  c.self.invariant.2,
  c.self.invariant.3,
  c.self.invariant.4,
)

pub invariant_of-self-in-Some : goal.invariant_of-self-in-Some
invariant_of-self-in-Some c = (
  c.self.invariant.0,
  c.restart-2.ensures c.self.inside.compiled c.self.inside.sensitive c.sought-made.new.reads.items
      c.self.inside.items c.sought-made.ensures.search,
  c.self.invariant.2,
  c.keep.ensures (lexicon_of c.self.inside.compiled c.self.inside.sensitive)
      c.self.inside.sensitive
      (rw c.as_slice-text.ensures (subst (λ (o : Option FrontKey). IfSome o (λ key.
      IsFrontStep (lexicon_of c.self.inside.compiled c.self.inside.sensitive)
      c.self.inside.sensitive (step_by c.args.piece.now key c.sought-made.new.text)))
      c.in-Some.is c.in_ok-made.ensures.step)) c.self.invariant.3,
  c.self.invariant.4,
)

pub returns-in_ok-found-in-Some-clause-gave : goal.returns-in_ok-found-in-Some-clause-gave
returns-in_ok-found-in-Some-clause-gave c =
    some_weaker c.in_ok-found-in-Some.found _ _ (λ front is.
    seen_gave c.self.inside.compiled c.self.inside.sensitive c.self.inside.finished
    c.self.inside.items c.args.self.now c.args.piece.now front.used front.seen c.args.into.now
    c.front_of.new.into c.self.view_is
    (ap (λ (h : Held). length h.items) c.self.view_is ∙ c.requires.none)
    c.know.ensures.coherent (is (lexicon_of c.self.inside.compiled c.self.inside.sensitive)
    c.self.inside.sensitive
    (rw c.as_slice-text.ensures (subst (λ (o : Option FrontKey). IfSome o (λ key.
    IsFrontStep (lexicon_of c.self.inside.compiled c.self.inside.sensitive)
    c.self.inside.sensitive (step_by c.args.piece.now key c.sought-made.new.text)))
    c.in-Some.is c.in_ok-made.ensures.step))))
    c.in_ok-found-in-Some.ensures.gave

pub returns-in_ok-found-in-Some-clause-bare : goal.returns-in_ok-found-in-Some-clause-bare
returns-in_ok-found-in-Some-clause-bare c =
    some_weaker c.in_ok-found-in-Some.found _ _ (λ front is e.
    seen_bare (lexicon_of c.self.inside.compiled c.self.inside.sensitive)
    c.self.inside.sensitive c.args.piece.now front.used front.seen c.args.into.now
    c.front_of.new.into e (is (lexicon_of c.self.inside.compiled c.self.inside.sensitive)
    c.self.inside.sensitive
    (rw c.as_slice-text.ensures (subst (λ (o : Option FrontKey). IfSome o (λ key.
    IsFrontStep (lexicon_of c.self.inside.compiled c.self.inside.sensitive)
    c.self.inside.sensitive (step_by c.args.piece.now key c.sought-made.new.text)))
    c.in-Some.is c.in_ok-made.ensures.step))))
    c.in_ok-found-in-Some.ensures.gave
