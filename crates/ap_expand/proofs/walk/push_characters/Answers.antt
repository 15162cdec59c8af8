use Rattle.std.proofs.Common.{ℕ, ◌++◌, take, sym, ap, ◌∙◌, append_assoc}
use Rattle.std.specs.Char.{encode_utf8}
use Rattle.std.specs.Str.{encode_utf8_all}
use Rattle.ap_symbol.proofs.Reading.{encoded_more}
use Rattle.ap_expand.proofs.walk.push_characters.Goals as goal

pub loop-c-preserved : goal.loop-c-preserved
loop-c-preserved c =
    c.in_ok-push_character.ensures.ok
    ∙ ap (λ z. z ++ encode_utf8 c.c-item.result) c.loop-c.invariant
    ∙ append_assoc c.args.bytes.now.items (encode_utf8_all (take c.loop-c.c-index c.args.text.now))
    (encode_utf8 c.c-item.result)
    ∙ ap (λ z. c.args.bytes.now.items ++ z)
    (ap (λ (z : ℕ). encode_utf8_all (take c.loop-c.c-index c.args.text.now) ++ encode_utf8 z)
    c.c-item.is ∙ sym (encoded_more c.args.text.now c.loop-c.c-index c.c-item.result
    c.loop-c-test.true))
