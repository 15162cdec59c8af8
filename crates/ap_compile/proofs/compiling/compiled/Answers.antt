use Rattle.std.proofs.Common.{sym, subst}
use Rattle.ap_fst.specs.Sections.{Parts}
use Rattle.ap_compile.specs.Compiling.{IsCompiledFrom}
use Rattle.ap_compile.proofs.compiling.compiled.Goals as goal

pub returns : goal.returns
returns c = subst (λ (p : Parts). IsCompiledFrom c.args.dictionary.now c.args.direction p)
    (sym c.new.ensures) (record {
      alphabet = c.in_ok-alphabet.ensures.closure;
      way = c.way_of-way.ensures;
      standard = c.in_ok-standard.ensures.strings;
      inconditional = c.in_ok-inconditional.ensures.strings;
      postblank = c.in_ok-postblank.ensures.strings;
      preblank = c.in_ok-preblank.ensures.strings;
      sound = record {
        letters = c.in_ok-alphabet.ensures.alphabet;
        standard_is = c.in_ok-standard.ensures.section;
        inconditional_is = c.in_ok-inconditional.ensures.section;
        postblank_is = c.in_ok-postblank.ensures.section;
        preblank_is = c.in_ok-preblank.ensures.section;
      };
      one = record {
        standard_one = c.in_ok-standard.ensures.canonical.deterministic;
        inconditional_one = c.in_ok-inconditional.ensures.canonical.deterministic;
        postblank_one = c.in_ok-postblank.ensures.canonical.deterministic;
        preblank_one = c.in_ok-preblank.ensures.canonical.deterministic;
      };
      canonical = record {
        standard_canonical = c.in_ok-standard.ensures.canonical;
        inconditional_canonical = c.in_ok-inconditional.ensures.canonical;
        postblank_canonical = c.in_ok-postblank.ensures.canonical;
        preblank_canonical = c.in_ok-preblank.ensures.canonical;
      };
    })
