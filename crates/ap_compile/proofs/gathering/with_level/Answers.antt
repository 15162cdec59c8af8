use Rattle.std.proofs.Common.{refl, true}
use Rattle.ap_compile.proofs.Gathered.{level_opened}
use Rattle.ap_compile.proofs.gathering.with_level.Goals as goal

pub returns-clause-same : goal.returns-clause-same
returns-clause-same c = λ d direction plain. level_opened d direction c.args.gathering
    (record { made = c.args.gathering.made; levels = c.push.new.self })
    (record { ending = c.args.ending; fronts = c.in_ok-fronts.fronts; is_new = true })
    c.in_ok-push.ensures.items refl c.in_ok-fronts.ensures plain
