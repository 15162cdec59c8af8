use Rattle.std.proofs.Common.{length, ◌^◌, arith}
use Rattle.ap_command.specs.Words.{files_of}
use Rattle.ap_command.proofs.Opened.{within-more}
use Rattle.ap_command.proofs.top.run_command.Goals as goal

pub files_of-requires : goal.files_of-requires
files_of-requires g c = within-more (length c.args.words.now) (2 ^ 64) (files_of c.args.command)
    (omega arith) c.requires.named
