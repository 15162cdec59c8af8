use Rattle.std.proofs.Common.{◌≡◌, eq-eqb, length, List, ℕ, true, refl, ap, sym, ◌∙◌}
use Rattle.std.specs.Str.Lossy.{utf8_valid_len}
use Rattle.std.proofs.lemmas.Str.{utf8_valid_len-IsUtf8}
use Rattle.ap_binary.specs.Pieces.{is_utf8}
use Rattle.ap_binary.proofs.writing.put_name.Goals as goal

pub returns-clause-held : goal.returns-clause-held
returns-clause-held c =
    let text : List ℕ = c.text.result.now in
    let same : text ≡ c.args.name.now = c.text.ensures.text in
    let valid : is_utf8 c.args.name.now ≡ true =
    ap is_utf8 (sym same) ∙ eq-eqb (utf8_valid_len text) (length text)
    (utf8_valid_len-IsUtf8 text c.text.utf8) in
    rw (valid, c.text.ensures.named) refl
