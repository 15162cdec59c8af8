use Rattle.std.proofs.Common.{subst, sym, ◌∙◌, List}
use Rattle.std.specs.Prelude.{◌↔◌}
use Rattle.ap_fst.specs.Machines.{Machine}
use Rattle.ap_fst.specs.Sections.{Parts, IsCompiled, section_of}
use Rattle.ap_fst.specs.Walks.{AcceptsLabels}
use Rattle.ap_fst.specs.declared.compiled.Kind2.{Kind2}
use Rattle.ap_fst.specs.declared.compiled.Kind2.TheVariants.{Standard, Inconditional, Postblank, Preblank}
use Rattle.ap_fst.specs.declared.label.Label.{Label}
use Rattle.ap_min.specs.Canonical.{IsCanonical}
use Rattle.ap_trim.specs.Trimming.{IsTrimmedBy, Trimmed}
use Rattle.ap_trim.proofs.Keeping.{trimmed_as, all_kinds}
use Rattle.ap_trim.proofs.trimming.trim_by.Goals as goal

pub returns : goal.returns
returns c =
    let mono : Parts = c.args.mono.now in
    let bilingual : Parts = c.args.bilingual.now in
    let words : Machine = c.in_ok-words.words in
    let made : Parts = record {
      alphabet = c.in_ok-alphabet.alphabet;
      way = c.way.result;
      standard = c.in_ok-standard.standard;
      inconditional = c.in_ok-inconditional.inconditional;
      postblank = c.in_ok-postblank.postblank;
      preblank = c.in_ok-preblank.preblank;
    } in
    let one : IsCompiled mono = c.alphabet.ensures.sound in
    let two : IsCompiled bilingual = c.alphabet-bilingual.ensures.sound in
    subst (λ (z : Parts). IsTrimmedBy mono bilingual z) (sym c.new.ensures) (record {
      alphabet = c.in_ok-alphabet.ensures ∙ c.alphabet.ensures.value;
      way = c.way.ensures.value;
      exactly = all_kinds (λ (kind : Kind2). (labels : List Label) →
          AcceptsLabels (section_of made kind) labels ↔ Trimmed mono bilingual kind labels)
          (trimmed_as mono bilingual words c.section.result.now c.in_ok-standard.standard Standard
          one two c.in_ok-words.ensures c.section.ensures.value c.in_ok-standard.ensures.kept)
          (trimmed_as mono bilingual words c.section-2.result.now
          c.in_ok-inconditional.inconditional Inconditional one two c.in_ok-words.ensures
          c.section-2.ensures.value c.in_ok-inconditional.ensures.kept)
          (trimmed_as mono bilingual words c.section-3.result.now c.in_ok-postblank.postblank
          Postblank one two c.in_ok-words.ensures c.section-3.ensures.value
          c.in_ok-postblank.ensures.kept)
          (trimmed_as mono bilingual words c.section-4.result.now c.in_ok-preblank.preblank Preblank
          one two c.in_ok-words.ensures c.section-4.ensures.value
          c.in_ok-preblank.ensures.kept);
      canonical = all_kinds (λ (kind : Kind2). IsCanonical (section_of made kind))
          c.in_ok-standard.ensures.canonical c.in_ok-inconditional.ensures.canonical
          c.in_ok-postblank.ensures.canonical c.in_ok-preblank.ensures.canonical;
    })
