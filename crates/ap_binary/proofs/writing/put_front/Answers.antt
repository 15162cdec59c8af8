use Rattle.std.proofs.Common.{ap, ◌∙◌, ◌++◌}
use Rattle.ap_fst.specs.declared.compiled.Way.{Way}
use Rattle.ap_binary.specs.Text.{alphabet_text, header_text}
use Rattle.ap_binary.proofs.Puts.{puts_more}
use Rattle.ap_binary.proofs.writing.put_front.Goals as goal

pub returns-clause-text : goal.returns-clause-text
returns-clause-text c =
    puts_more c.put_alphabet.result c.put_alphabet.new.into c.put_header.new.into c.args.into.now
    (header_text c.args.compiled.now.way) (alphabet_text c.as_slice.result.now)
    (alphabet_text c.args.compiled.now.alphabet)
    c.put_alphabet.ensures.text (c.in_ok-put_header.ensures
    ∙ ap (λ (w : Way). c.args.into.now ++ header_text w) c.way.ensures.value)
    (ap alphabet_text (c.as_slice.ensures ∙ c.alphabet.ensures.value))
