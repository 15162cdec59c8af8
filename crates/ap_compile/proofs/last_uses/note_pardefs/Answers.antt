use Rattle.std.proofs.Common.{List, ℕ, subst}
use Rattle.ap_compile.specs.LastUses.{AreUsedTo, paradigms_in}
use Rattle.ap_compile.proofs.LastUses.{later_on, pardefs_more}
use Rattle.ap_compile.proofs.last_uses.note_pardefs.Goals as goal

pub loop-at-preserved : goal.loop-at-preserved
loop-at-preserved c =
    let noted : AreUsedTo c.note_uses.new.last.items (paradigms_in c.index-pardefs-at.result.entries)
    c.loop-at.at =
    subst (λ (z : List ℕ). AreUsedTo c.note_uses.new.last.items z c.loop-at.at)
    (cc (c.as_slice-in-loop-at.ensures.value, c.in_ok-used.ensures, c.as_slice.ensures))
    c.note_uses.ensures.noted in
    record {
      later = later_on c.args.last.now.items c.loop-at.last.items c.note_uses.new.last.items
          c.loop-at.invariant.later c.note_uses.ensures.later;
      noted = pardefs_more c.args.pardefs.now c.loop-at.at c.index-pardefs-at.result
          c.index-pardefs-at.result c.loop-at.last.items c.note_uses.new.last.items
          c.loop-at-test.true c.index-pardefs-at.is c.note_uses.ensures.later
          c.loop-at.invariant.noted noted;
    }
