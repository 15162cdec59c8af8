use Rattle.std.proofs.Common.{rules, ◌≡◌, ◌∙◌, sym, [], length, take, refl}
use Rattle.ap_stream.proofs.GivenLaws as given
use Rattle.ap_stream.proofs.Copied.{common_looks}
use Rattle.ap_stream.proofs.reader.Reader.bare.Goals as goal

pub returns-clause-given : goal.returns-clause-given
returns-clause-given c =
    let none : c.self.inside.held.items ≡ [] = search rules in
    let one : length (take 1 c.args.piece.now) ≡ 1 = search rules in
    given.bare_given _ _ c.self.inside.held.items _ _ _ c.self.view_is none
    (take 1 c.args.piece.now) one _ (common_looks c.self.inside.dialect c.args.piece.now one
    c.if-byte-ge128.false (sym c.is_common.ensures ∙ c.if-not-is_common.false)) _ _
    c.place_after-self-inside.ensures refl

pub returns-clause-item : goal.returns-clause-item
returns-clause-item c =
    let none : c.self.inside.held.items ≡ [] = search rules in
    let one : length (take 1 c.args.piece.now) ≡ 1 = search rules in
    given.bare_read _ _ c.self.inside.held.items _ _ _ c.self.view_is none
    (take 1 c.args.piece.now) one _ (common_looks c.self.inside.dialect c.args.piece.now one
    c.if-byte-ge128.false (sym c.is_common.ensures ∙ c.if-not-is_common.false))
