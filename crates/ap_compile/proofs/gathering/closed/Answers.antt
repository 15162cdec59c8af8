use Rattle.std.proofs.Common.{List, [], ◌∷◌}
use Rattle.ap_dix.specs.Derivation.{Derives}
use Rattle.ap_compile.specs.Gatherings.{Tells}
use Rattle.ap_compile.proofs.Drafting.{joined_draft}
use Rattle.ap_compile.proofs.Gathered.{tells_draft}
use Rattle.ap_compile.proofs.gathering.closed.Goals as goal

pub returns : goal.returns
returns c = λ d are plain. joined_draft (Tells c.args.level.fronts)
    (Derives d c.args.direction (c.args.level.ending.now ∷ [])) c.args.level.fronts
    c.in_ok-part.part c.in_ok-made.made
    (tells_draft c.args.level.fronts plain) (c.in_ok-part.ensures d are) c.in_ok-made.ensures
