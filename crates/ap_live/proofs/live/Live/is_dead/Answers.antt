use Rattle.std.proofs.Common.{ap, ◌∙◌, sym}
use Rattle.ap_live.specs.Lives.{Lives}
use Rattle.ap_live.specs.Outputs.{FitBeginning}
use Rattle.ap_live.specs.Found.{is_viable}
use Rattle.ap_live.proofs.LiveLaws.{dead_law, held_as}
use Rattle.ap_live.proofs.Finding.{viable_found, other_answer, void_fits_none}
use Rattle.ap_live.proofs.live.Live.is_dead.Goals as goal

pub returns-then-self-clause-found : goal.returns-then-self-clause-found
returns-then-self-clause-found c =
    λ m seen ok none trimmed live. other_answer c.self.inside.is_void (is_viable m seen)
    (FitBeginning m seen) (
      λ t. void_fits_none m seen c.args.self.now live
          (sym (ap (λ (l : Lives). l.is_void) c.self.view_is) ∙ c.if-self.true),
      λ f. c.if-self.true,
    )
    (viable_found m seen ok none trimmed)

pub returns-else-self-clause-none : goal.returns-else-self-clause-none
returns-else-self-clause-none c = λ m seen ok trimmed live. dead_law m seen c.args.self.now c.self.inside.is_void c.reaches_none.result ok trimmed live
    (ap (λ (l : Lives). l.is_void) c.self.view_is) c.if-self.false
    (c.reaches_none.ensures m seen (held_as m seen c.args.self.now c.self.inside.ways
    (ap (λ (l : Lives). l.ways) c.self.view_is) live))

pub returns-else-self-clause-found : goal.returns-else-self-clause-found
returns-else-self-clause-found c =
    λ m seen ok none trimmed live. other_answer c.reaches_none.result (is_viable m seen)
    (FitBeginning m seen)
    (dead_law m seen c.args.self.now c.self.inside.is_void c.reaches_none.result ok trimmed live
    (ap (λ (l : Lives). l.is_void) c.self.view_is) c.if-self.false
    (c.reaches_none.ensures m seen (held_as m seen c.args.self.now c.self.inside.ways
    (ap (λ (l : Lives). l.ways) c.self.view_is) live)))
    (viable_found m seen ok none trimmed)
