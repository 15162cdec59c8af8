use Rattle.std.proofs.Common.{arith}
use Rattle.ap_stream.proofs.Crossed.{crossing_none}
use Rattle.ap_stream.proofs.crossing.run_of.Goals as goal

pub returns-in-Start : goal.returns-in-Start
returns-in-Start c = record { most = omega arith; crossing = crossing_none c.args.dialect c.args.mode }
