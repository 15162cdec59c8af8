use Rattle.std.proofs.Common.{◌≡◌, ◌<◌, ◌≤◌, ◌++◌, ◌∙◌, List, ap, arith, length, refl}
use Rattle.std.proofs.lemmas.Result.{IfOk-weaker}
use Rattle.ap_fst.specs.declared.label.Edge.{Edge}
use Rattle.ap_live.specs.Outlines.{HasRight}
use Rattle.ap_live.proofs.Outlining.{some_at}
use Rattle.ap_live.proofs.Writing.{beyond_written, empty_written, letter_written, like_written}
use Rattle.ap_live.proofs.along.push_written.Goals as goal

pub returns-then-place-edges : goal.returns-then-place-edges
returns-then-place-edges c = λ is.
    let beyond : length c.args.edges.now ≤ c.args.place = omega (arith, c.if-place-edges.true) in
    beyond_written c.args.edges.now c.args.place c.args.word.now beyond

pub returns-then-code-eq0 : goal.returns-then-code-eq0
returns-then-code-eq0 c = λ is.
    let empty : c.right_at-code.result ≡ 0 = c.if-code-eq0.true in
    empty_written c.args.edges.now c.args.place c.right_at-code.result c.args.word.now empty
    (λ e at. (c.right_at-code.ensures c.args.edges.now e is at).0 (omega arith))

pub returns-in-Some : goal.returns-in-Some
returns-in-Some c = IfOk-weaker c.push.result _ _
    (λ x made is.
    let within : c.args.place < length c.args.edges.now =
    omega (arith, c.if-place-edges.false) in
    let told = c.letter_of.ensures c.in-Some.letter c.in-Some.is in
    letter_written c.args.edges.now c.args.place c.right_at-code.result c.in-Some.letter
    c.args.word.now c.push.new.self within told.0 told.1
    (λ e at. (c.right_at-code.ensures c.args.edges.now e is at).0 told.1) made)
    c.push.ensures.ok

pub returns-in-None : goal.returns-in-None
returns-in-None c = IfOk-weaker c.push_right.result _ _
    (λ x made is.
    let edges : List Edge = c.args.edges.now in
    let (e, at) = some_at edges c.args.place (omega (arith, c.if-place-edges.false)) in
    let own : HasRight edges c.args.place e.label.right = (e, (at, refl)) in
    made ∙ ap (λ z. c.args.word.now ++ z)
    (like_written edges c.args.place c.place_of.result e.label.right own
    (c.place_of.ensures edges e.label.right (c.right_at-code.ensures edges e is at) own)))
    c.push_right.ensures
