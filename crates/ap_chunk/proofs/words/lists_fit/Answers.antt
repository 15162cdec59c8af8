use Rattle.std.proofs.Common.{sym}
use Rattle.ap_chunk.proofs.Dividing.{other_lengths}
use Rattle.ap_chunk.proofs.words.lists_fit.Goals as goal

pub returns-then-item-word : goal.returns-then-item-word
returns-then-item-word c = sym (other_lengths c.args.item.now c.args.word.now c.if-item-word.true)
