use Rattle.ap_stream.proofs.EachKept.{each_keeps}
use Rattle.ap_stream.proofs.laws.each_item_keeps_superblanks.Goals as goal

pub returns : goal.returns
returns c = each_keeps
