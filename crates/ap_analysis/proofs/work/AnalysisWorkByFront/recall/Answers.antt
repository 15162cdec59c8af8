use Rattle.std.proofs.Common.{ap, arith, refl, sym, subst, ◌∙◌, length, Option}
use Rattle.std.specs.Prelude.{IfSome, IfOk, Bool}
use Rattle.ap_stream.specs.Fronts.{GaveFront}
use Rattle.ap_stream.specs.declared.dialect.Dialect.TheVariants.{Raw}
use Rattle.ap_stream.specs.declared.front.Front.{Front}
use Rattle.ap_live.specs.Lexicon.{Lexicon, IsCoherent, lexicon_of}
use Rattle.ap_analysis.specs.Fronts.{IsFront}
use Rattle.ap_analysis.specs.FrontSteps.{AreFrontSteps}
use Rattle.ap_analysis.specs.Held.{Held, work_of}
use Rattle.ap_analysis.proofs.ByteFronts.{seen_bare, seen_gave}
use Rattle.ap_analysis.proofs.work.AnalysisWorkByFront.recall.Goals as goal
use Rattle.ap_analysis.proofs.work.AnalysisWorkByFront.recall.Goals.{In-Some}

seen : (c : In-Some) →
    IsFront (lexicon_of c.self.inside.compiled c.self.inside.sensitive) c.self.inside.sensitive
    c.args.piece.now c.in-Some.front.used c.in-Some.front.seen c.args.into.now c.recall.new.into
seen c = (subst (λ (o : Option Front). IfSome o (λ front. (lexicon : Lexicon) (sensitive : Bool) →
    AreFrontSteps lexicon sensitive c.self.inside.fronts →
    IsFront lexicon sensitive c.args.piece.now front.used front.seen c.args.into.now
    c.recall.new.into)) c.in-Some.is c.in_ok-front.ensures.gave)
    (lexicon_of c.self.inside.compiled c.self.inside.sensitive) c.self.inside.sensitive
    c.self.invariant.3

pub with_space-requires-clause-within : goal.with_space-requires-clause-within
with_space-requires-clause-within c =
    let is = seen (goal.at.with_space-requires-clause-within c).In-Some in
    let within = is.within in
    let most = is.most in
    omega (arith, within, most)

pub with_space-requires-clause-bare : goal.with_space-requires-clause-bare
with_space-requires-clause-bare c = λ e.
    seen_bare (lexicon_of c.self.inside.compiled c.self.inside.sensitive)
    c.self.inside.sensitive c.args.piece.now c.in-Some.front.used c.in-Some.front.seen
    c.args.into.now c.recall.new.into e
    (seen (goal.at.with_space-requires-clause-bare c).In-Some)

pub returns-in-Some-clause-gave : goal.returns-in-Some-clause-gave
returns-in-Some-clause-gave c =
    let held : Held = record {
      compiled = c.self.inside.compiled;
      sensitive = c.self.inside.sensitive;
      items = c.self.inside.items;
      finished = c.self.inside.finished;
    } in
    subst (λ (h : Held). IfOk c.with_space.result (λ found. IfSome found (λ front.
    GaveFront work_of Raw h c.args.piece.now front.used front.seen c.args.into.now
    c.with_space.new.into))) c.self.view_is
    (c.with_space.ensures.gave c.args.into.now
    (seen_gave c.self.inside.compiled c.self.inside.sensitive c.self.inside.finished
    c.self.inside.items held c.args.piece.now c.in-Some.front.used c.in-Some.front.seen
    c.args.into.now c.recall.new.into refl
    (ap (λ (h : Held). length h.items) c.self.view_is ∙ c.requires)
    (subst (λ (h : Held). IsCoherent (lexicon_of h.compiled h.sensitive)) (sym c.self.view_is)
    c.know.ensures.coherent) (seen (goal.at.returns-in-Some-clause-gave c).In-Some)))
