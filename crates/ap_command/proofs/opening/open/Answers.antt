use Rattle.std.proofs.Common.{length}
use Rattle.ap_command.specs.Words.{texts}
use Rattle.ap_command.specs.Outside.{files_stand}
use Rattle.ap_command.proofs.Named.{told-if}
use Rattle.ap_command.proofs.Opened.{opened-one, refused-one}
use Rattle.ap_command.proofs.opening.open.Goals as goal

pub returns-in-Ok-clause-opened : goal.returns-in-Ok-clause-opened
returns-in-Ok-clause-opened g c =
    opened-one (texts c.args.words.now) (files_stand g.F.Files c.args.files.now) c.args.reading
    c.in-Ok.text.items _ c.read.result c.in-Ok.ensures.loaded c.as_slice.ensures.value
    c.read.ensures.kept

pub returns-in-Ok-clause-refused : goal.returns-in-Ok-clause-refused
returns-in-Ok-clause-refused g c =
    refused-one (texts c.args.words.now) (files_stand g.F.Files c.args.files.now)
    (files_stand g.F.Files c.load.new.files) c.args.reading c.in-Ok.text.items _ c.read.result
    c.in-Ok.ensures.calm c.in-Ok.ensures.loaded c.as_slice.ensures.value c.read.ensures.refused

pub returns-in-Ok-clause-told : goal.returns-in-Ok-clause-told
returns-in-Ok-clause-told g c =
    told-if c.args.reading c.as_slice.result.now c.read.result (length c.args.words.now)
    c.read.ensures.refused c.requires
