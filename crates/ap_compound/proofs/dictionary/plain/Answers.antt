use Rattle.std.proofs.Common.{subst, sym, ◌∙◌, List}
use Rattle.std.specs.Prelude.{◌↔◌}
use Rattle.ap_symbol.specs.declared.symbol.Symbol.{Symbol}
use Rattle.ap_fst.specs.Sections.{Parts}
use Rattle.ap_fst.specs.declared.compiled.Kind2.{Kind2}
use Rattle.ap_fst.specs.declared.compiled.Kind2.TheVariants.{Standard, Inconditional, Postblank, Preblank}
use Rattle.ap_live.specs.Relations.{relation_of}
use Rattle.ap_compound.specs.Plain.{IsPlain, IsPlainOf}
use Rattle.ap_compound.proofs.Plains.{kind_plain, all_kinds}
use Rattle.ap_compound.proofs.dictionary.plain.Goals as goal

pub returns : goal.returns
returns c =
    let p : Parts = c.args.compiled.now in
    let made : Parts = record {
      alphabet = c.in_ok-alphabet.alphabet;
      way = c.way.result;
      standard = c.in_ok-standard.standard;
      inconditional = c.in_ok-inconditional.inconditional;
      postblank = c.in_ok-postblank.postblank;
      preblank = c.in_ok-preblank.preblank;
    } in
    subst (λ (z : Parts). IsPlainOf p z) (sym c.new.ensures) (record {
      alphabet = c.in_ok-alphabet.ensures ∙ c.alphabet.ensures.value;
      way = c.way.ensures.value;
      exactly = all_kinds (λ (kind : Kind2). (left right : List Symbol) →
          relation_of made kind left right ↔ IsPlain p kind left right)
          (kind_plain p Standard c.section.result.now c.in_ok-standard.standard
          c.section.ensures.value c.in_ok-standard.ensures.plain)
          (kind_plain p Inconditional c.section-2.result.now c.in_ok-inconditional.inconditional
          c.section-2.ensures.value c.in_ok-inconditional.ensures.plain)
          (kind_plain p Postblank c.section-3.result.now c.in_ok-postblank.postblank
          c.section-3.ensures.value c.in_ok-postblank.ensures.plain)
          (kind_plain p Preblank c.section-4.result.now c.in_ok-preblank.preblank
          c.section-4.ensures.value c.in_ok-preblank.ensures.plain);
    })
