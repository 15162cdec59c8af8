use Rattle.std.proofs.Common.{get_or, refl}
use Rattle.ap_compile.proofs.LastUses.{later_on, used_more}
use Rattle.ap_compile.proofs.last_uses.note_uses.Goals as goal

pub loop-n-preserved : goal.loop-n-preserved
loop-n-preserved c = record {
  later = later_on c.args.last.now.items c.loop-n.last.items c.note_use.new.last.items
      c.loop-n.invariant.later c.note_use.ensures.later;
  noted = used_more c.args.used.now c.loop-n.n-index (get_or c.args.used.now c.loop-n.n-index 0) 0
      c.args.at c.loop-n.last.items c.note_use.new.last.items c.loop-n-test.true refl
      c.note_use.ensures.later c.loop-n.invariant.noted c.note_use.ensures.noted;
}
