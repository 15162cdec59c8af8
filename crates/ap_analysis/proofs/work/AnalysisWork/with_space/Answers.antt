use Rattle.std.proofs.Common.{ap, sym, subst, ◌∙◌, ◌++◌, ◌∷◌, [], ℕ, List, length, drop, take}
use Rattle.ap_stream.specs.Bare.{bare_run}
use Rattle.ap_live.specs.Lexicon.{lexicon_of}
use Rattle.ap_analysis.specs.Fronts.{IsFront}
use Rattle.ap_analysis.specs.Held.{Held}
use Rattle.ap_analysis.proofs.ByteFronts.{seen_gave, both_gave, rest_is, told_two}
use Rattle.ap_analysis.proofs.work.AnalysisWork.with_space.Goals as goal

pub returns-clause-gave : goal.returns-clause-gave
returns-clause-gave c = λ before g.
    both_gave c.args.self.now c.args.piece.now c.args.front.used c.args.front.seen c.max.result
    before c.args.into.now c.extend.new.self c.max.ensures g
    (seen_gave c.self.inside.compiled c.self.inside.sensitive c.self.inside.finished
    c.self.inside.items c.args.self.now (drop c.args.front.used c.args.piece.now) 1 2
    c.args.into.now c.extend.new.self c.self.view_is
    (ap (λ (h : Held). length h.items) c.self.view_is ∙ c.requires.none)
    c.know.ensures.coherent
    (subst (λ (after : List ℕ). IsFront (lexicon_of c.self.inside.compiled c.self.inside.sensitive)
    c.self.inside.sensitive (drop c.args.front.used c.args.piece.now) 1 2 c.args.into.now after)
    (sym c.in_ok-extend.ensures.ok)
    (subst (λ (rest : List ℕ). IsFront (lexicon_of c.self.inside.compiled c.self.inside.sensitive)
    c.self.inside.sensitive rest 1 2 c.args.into.now (c.args.into.now ++ 32 ∷ []))
    (rest_is c.args.piece.now c.args.front.used)
    (c.copies_space.ensures.copied c.if-not-copies_space.false
    (λ t. ap bare_run (ap (take 2) (rest_is c.args.piece.now c.args.front.used))
    ∙ c.requires.bare (told_two c.args.front.seen c.args.front.used c.saturating_sub-told.result
    c.saturating_sub-told.ensures t))
    (lexicon_of c.self.inside.compiled c.self.inside.sensitive) c.self.inside.sensitive
    c.self.invariant.3 c.args.into.now))))
