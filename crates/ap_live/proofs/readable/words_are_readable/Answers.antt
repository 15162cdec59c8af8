use Rattle.std.proofs.Common.{subst}
use Rattle.ap_fst.specs.Sections.{section_of}
use Rattle.ap_fst.specs.declared.compiled.Kind2.{Kind2}
use Rattle.ap_fst.specs.declared.compiled.Kind2.TheVariants.{Standard, Inconditional, Postblank, Preblank}
use Rattle.ap_live.specs.Readable.{WritesCoded}
use Rattle.ap_live.proofs.Readables.{compiled_readable}
use Rattle.ap_live.proofs.readable.words_are_readable.Goals as goal

pub returns : goal.returns
returns c = compiled_readable c.args.compiled.now c.sides_are_proper.ensures coded
  where
    coded : (kind : Kind2) → WritesCoded (section_of c.args.compiled.now kind)
    coded Standard = subst WritesCoded c.section.ensures.value c.section_is_coded.ensures
    coded Inconditional = subst WritesCoded c.section-2.ensures.value c.section_is_coded-2.ensures
    coded Postblank = subst WritesCoded c.section-3.ensures.value c.section_is_coded-3.ensures
    coded Preblank = subst WritesCoded c.section-4.ensures.value c.section_is_coded-4.ensures
