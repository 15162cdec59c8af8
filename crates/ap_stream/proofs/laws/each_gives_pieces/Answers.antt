use Rattle.ap_stream.proofs.EachKept.{each_pieces}
use Rattle.ap_stream.proofs.laws.each_gives_pieces.Goals as goal

pub returns : goal.returns
returns c = each_pieces
