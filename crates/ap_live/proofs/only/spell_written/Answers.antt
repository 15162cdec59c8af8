use Rattle.std.proofs.Common.{◌≡◌, ◌<◌, ◌++◌, ◌∙◌, List, ap, arith, length, refl, sym}
use Rattle.std.proofs.lemmas.Result.{IfOk-weaker}
use Rattle.ap_symbol.specs.Rendering.{rendering}
use Rattle.ap_fst.specs.declared.label.Edge.{Edge}
use Rattle.ap_live.specs.Outlines.{HasRight}
use Rattle.ap_live.proofs.Outlining.{some_at}
use Rattle.ap_live.proofs.Writing.{empty_bytes, letter_spelt, like_written}
use Rattle.ap_live.proofs.only.spell_written.Goals as goal

pub returns-then-code-eq0 : goal.returns-then-code-eq0
returns-then-code-eq0 c = λ is.
    let empty : c.right_at-code.result ≡ 0 = c.if-code-eq0.true in
    empty_bytes c.args.edges.now c.args.place c.right_at-code.result c.args.bytes.now.items empty
    (λ e at. (c.right_at-code.ensures c.args.edges.now e is at).0 (omega arith))

pub returns-in-Some : goal.returns-in-Some
returns-in-Some c = λ is.
    let within : c.args.place < length c.args.edges.now =
    omega (arith, c.if-place-edges.false) in
    let told = c.small_letter.ensures c.in-Some.letter c.in-Some.is in
    letter_spelt c.args.edges.now c.args.place c.right_at-code.result c.in-Some.letter
    c.args.bytes.now.items c.push.new.self.items within told.0 told.1
    (λ e at. (c.right_at-code.ensures c.args.edges.now e is at).0 told.1)
    (c.in_ok-push.ensures.items ∙ ap (λ z. c.args.bytes.now.items ++ z) (sym told.2))

pub returns-then-is_bare : goal.returns-then-is_bare
returns-then-is_bare c = IfOk-weaker c.spell_bare.result _ _
    (λ x made is.
    let within : c.args.place < length c.args.edges.now =
    omega (arith, c.if-place-edges.false) in
    let told = c.letter_of.ensures c.in-Some-letter_of.letter c.in-Some-letter_of.is in
    letter_spelt c.args.edges.now c.args.place c.right_at-code.result c.in-Some-letter_of.letter
    c.args.bytes.now.items c.spell_bare.new.bytes.items within told.0 told.1
    (λ e at. (c.right_at-code.ensures c.args.edges.now e is at).0 told.1) made)
    c.spell_bare.ensures

pub returns : goal.returns
returns c = IfOk-weaker c.spell_right.result _ _
    (λ x made is.
    let edges : List Edge = c.args.edges.now in
    let (e, at) = some_at edges c.args.place (omega (arith, c.if-place-edges.false)) in
    let own : HasRight edges c.args.place e.label.right = (e, (at, refl)) in
    made ∙ ap (λ z. c.args.bytes.now.items ++ rendering z)
    (like_written edges c.args.place c.place_of.result e.label.right own
    (c.place_of.ensures edges e.label.right (c.right_at-code.ensures edges e is at) own)))
    c.spell_right.ensures
