use Rattle.std.proofs.Common.{◌≡◌, take}
use Rattle.ap_command.specs.Words.{texts}
use Rattle.ap_command.specs.Outside.{files_stand}
use Rattle.ap_command.specs.Answer.{AreOpened}
use Rattle.ap_command.proofs.opening.open_all.Given as goal

abbrev pub invariant-loop-reading : goal.invariant-loop-reading
invariant-loop-reading g l = record {
  opened : AreOpened (texts l.words) (files_stand g.F.Files l.fn.files)
      (take l.reading-index l.readings) l.contents.items;
  calm : files_stand g.F.Files l.files ≡ files_stand g.F.Files l.fn.files;
}
