use Rattle.std.proofs.Common.{List, ℕ, subst}
use Rattle.ap_compile.specs.LastUses.{AreUsedTo, paradigms_in}
use Rattle.ap_compile.proofs.LastUses.{later_on, sections_more}
use Rattle.ap_compile.proofs.last_uses.note_sections.Goals as goal

pub loop-section-preserved : goal.loop-section-preserved
loop-section-preserved c =
    let noted : AreUsedTo c.note_uses.new.last.items (paradigms_in c.section-item.result.entries)
    c.args.at =
    subst (λ (z : List ℕ). AreUsedTo c.note_uses.new.last.items z c.args.at)
    (cc (c.as_slice-in-loop-section.ensures.value, c.in_ok-used.ensures, c.as_slice.ensures))
    c.note_uses.ensures.noted in
    record {
      later = later_on c.args.last.now.items c.loop-section.last.items c.note_uses.new.last.items
          c.loop-section.invariant.later c.note_uses.ensures.later;
      noted = sections_more c.args.sections.now c.loop-section.section-index
          c.section-item.result c.section-item.result c.args.at c.loop-section.last.items
          c.note_uses.new.last.items c.loop-section-test.true c.section-item.is
          c.note_uses.ensures.later c.loop-section.invariant.noted noted;
    }
