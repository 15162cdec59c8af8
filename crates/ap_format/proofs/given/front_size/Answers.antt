use Rattle.ap_format.proofs.Plains.{plain_gives}
use Rattle.ap_format.proofs.given.front_size.Goals as goal

pub returns-then-size-gt0-clause-gives : goal.returns-then-size-gt0-clause-gives
returns-then-size-gt0-clause-gives c = λ some.
    plain_gives _ _ (c.bare_size-size.ensures.plain some)
