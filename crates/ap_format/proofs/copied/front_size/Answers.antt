use Rattle.ap_format.proofs.Bare.{bare_front}
use Rattle.ap_format.proofs.copied.front_size.Goals as goal

pub returns-then-size-gt0-clause-copied : goal.returns-then-size-gt0-clause-copied
returns-then-size-gt0-clause-copied c = λ some.
    bare_front c.args.bytes.now c.bare_size-size.result some c.bare_size-size.ensures.within
    (c.bare_size-size.ensures.bare some)
