use Rattle.std.proofs.Common.{◌≡◌, ◌++◌, List, ℕ, ap, sym, subst, ◌∙◌}
use Rattle.std.specs.Prelude.{codes}
use Rattle.ap_fst.specs.Sections.{Parts}
use Rattle.ap_binary.specs.Spelling.{Spells}
use Rattle.ap_binary.specs.Text.{alphabet_text, header_text, sections_text, compiled_text}
use Rattle.ap_binary.proofs.RoundTrip.{reads_back}
use Rattle.ap_binary.proofs.writing.write_compiled.Goals as goal

pub returns-clause-reads : goal.returns-clause-reads
unfolding compiled_text
returns-clause-reads c =
    let p : Parts = c.args.compiled.now in
    let front : List ℕ = header_text p.way ++ alphabet_text p.alphabet in
    let e : c.put_rest.new.into ≡ compiled_text p = c.in_ok-put_rest.ensures.text
    ∙ ap (λ z. z ++ (sections_text p ++ codes "end\n")) (c.in_ok-put_front.ensures.text
    ∙ ap (λ z. z ++ front) c.new-text.ensures) in
    subst (λ (z : List ℕ). Spells z p) (sym e)
    (reads_back p c.in_ok-put_front.ensures.sound
    (record {
      letters = c.in_ok-put_front.ensures.held;
      sections =
          c.in_ok-put_rest.ensures.held;
    }))
