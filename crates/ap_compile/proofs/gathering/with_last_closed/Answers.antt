use Rattle.std.proofs.Common.{[], ◌∷◌, refl, ◌∙◌}
use Rattle.ap_dix.specs.Derivation.{Derives}
use Rattle.ap_compile.specs.Drafts.{IsCut}
use Rattle.ap_compile.specs.Gatherings.{Tells}
use Rattle.ap_compile.specs.declared.gathering.Gathering.{Gathering}
use Rattle.ap_compile.proofs.Gathered.{closed_endings, grown, grown_same, last_closed, plain_front, plain_last}
use Rattle.ap_compile.proofs.gathering.with_last_closed.Goals as goal

pub returns-clause-same : goal.returns-clause-same
returns-clause-same c =
    let g : Gathering = c.args.gathering in
    let rest : Gathering = record { made = c.args.gathering.made; levels = c.pop.new.self } in
    let l = c.in-Some.level in
    λ d are plain. last_closed d c.args.direction g rest c.in_ok-all.all l
    c.in-Some.ensures.items refl
    (grown d c.args.direction
    (IsCut (Tells c.in-Some.level.fronts)
    (Derives d c.args.direction (c.in-Some.level.ending.now ∷ []))) rest c.in_ok-more.more
    c.in_ok-all.all c.in_ok-all.ensures
    (plain_front g rest l c.in-Some.ensures.items refl plain)
    (c.in_ok-more.ensures d are
    (plain_last g c.pop.new.self.items l c.in-Some.ensures.items plain)))

pub returns-clause-endings : goal.returns-clause-endings
returns-clause-endings c =
    let rest : Gathering = record { made = c.args.gathering.made; levels = c.pop.new.self } in
    grown_same rest c.in_ok-more.more c.in_ok-all.all c.in_ok-all.ensures
    ∙ closed_endings c.args.gathering rest c.in-Some.level c.in-Some.ensures.items
