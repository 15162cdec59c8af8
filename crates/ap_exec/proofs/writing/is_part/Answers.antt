use Rattle.std.proofs.Common.{false, ap, sym, ◌∙◌}
use Rattle.ap_exec.specs.Parts.{cut}
use Rattle.ap_exec.specs.Ranges.{span}
use Rattle.ap_exec.proofs.WordLaws.{same_to}
use Rattle.ap_exec.proofs.writing.is_part.Goals as goal

pub returns : goal.returns
returns c = λ same.
    sym c.symbols-2.ensures.symbols
    ∙ sym (same_to false c.cut-part.result.now c.symbols-2.result.now
    (sym c.same_words.ensures ∙ same))
    ∙ c.cut-part.ensures.value ∙ ap (cut (span c.args.range)) c.symbols.ensures.symbols
