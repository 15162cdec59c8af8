use Rattle.std.proofs.Common.{arith}
use Rattle.std.proofs.lemmas.Bool.Decides.{nat_tests}
use Rattle.ap_stream.proofs.StepLaws.{bytes_front}
use Rattle.ap_stream.proofs.queue.Queue.is_over.Goals as goal

pub returns-then-self : goal.returns-then-self
returns-then-self c = let f = bytes_front c.args.self.now c.args.count in grind (arith, nat_tests)
