use Rattle.std.proofs.Common.{◌∙◌, ◌≡◌, sym, ap, true}
use Rattle.std.specs.Str.{bytes_eq, chars, IsAscii}
use Rattle.std.proofs.lemmas.Slice.Eq.{bytes_eq-Decides}
use Rattle.std.proofs.lemmas.Bool.{MatchBool-at_true}
use Rattle.std.proofs.lemmas.Str.{chars-IsAscii, utf8_lossy-IsUtf8, IsUtf8-from_ascii}
use Rattle.ap_markup.specs.Decoding.{text_of}
use Rattle.ap_markup.proofs.known.spells.Goals as goal

pub returns-then-has_bytes : goal.returns-then-has_bytes
returns-then-has_bytes c t =
    let bytes = c.args.bytes.now in
    let ascii : IsAscii bytes = MatchBool-at_true _ _ t c.is_ascii.ensures.cases in
    let same : bytes ≡ c.args.text.now = (bytes_eq-Decides bytes c.args.text.now).0
    (sym c.has_bytes.ensures ∙ c.if-has_bytes.true) in
    sym same ∙ sym (ap chars (utf8_lossy-IsUtf8 bytes (IsUtf8-from_ascii bytes ascii))
    ∙ chars-IsAscii bytes ascii)
