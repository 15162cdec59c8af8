use Rattle.std.specs.Prelude.{◌*◌, ◌%◌}
use Rattle.ap_live.proofs.Codes.{stays_set}
use Rattle.ap_live.proofs.outline.with_count.Goals as goal

pub returns : goal.returns
returns c = λ b set. stays_set c.args.codes (c.min.result * 67108864 % 4294967296) b set
