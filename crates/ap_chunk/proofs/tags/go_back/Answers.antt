use Rattle.ap_chunk.proofs.Trying.{back_on}
use Rattle.ap_chunk.proofs.tags.go_back.Goals as goal

pub returns-in-Some : goal.returns-in-Some
returns-in-Some c = back_on c.args.parts.now c.args.tags.now c.args.trial c.in-Some.star
    c.in-Some.is c.requires.within c.requires.fails c.requires.tried
