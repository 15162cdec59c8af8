use Rattle.std.proofs.Common.{[], ◌∷◌}
use Rattle.std.proofs.lemmas.Result.{err_from_is_err_and}
use Rattle.ap_symbol.specs.Rendering.{rendering}
use Rattle.ap_exec.specs.Filling.{text}
use Rattle.ap_exec.proofs.Fills.{stops_more, stops_then, writes_then}
use Rattle.ap_exec.proofs.filling.put_word.Goals as goal

pub returns-in_err-put_text : goal.returns-in_err-put_text
returns-in_err-put_text c =
    let p = err_from_is_err_and c.from_residual.result c.from_residual.ensures.1 in
    rw (p.1, p.2) (stops_more c.in_err-put_text.field-0.0 c.args.state.now (text (94 ∷ []) ∷ [])
    (text (rendering c.args.word.now) ∷ (text (36 ∷ []) ∷ [])) c.in_err-put_text.ensures)

pub returns-in_err-put_text-2 : goal.returns-in_err-put_text-2
returns-in_err-put_text-2 c =
    let p = err_from_is_err_and c.from_residual-in_err-put_text-2.result
    c.from_residual-in_err-put_text-2.ensures.1 in
    rw (p.1, p.2, ← c.rendered.ensures)
    (stops_then c.in_err-put_text-2.field-0.0 c.args.state.now c.put_text.new.state
    (text (94 ∷ []) ∷ []) (text (c.rendered.result.now) ∷ (text (36 ∷ []) ∷ []))
    c.in_ok-put_text.ensures
    (stops_more c.in_err-put_text-2.field-0.0 c.put_text.new.state (text (c.rendered.result.now)
    ∷ []) (text (36 ∷ []) ∷ []) c.in_err-put_text-2.ensures))

pub returns : goal.returns
returns c =
    rw (← c.rendered.ensures)
    (writes_then c.put_text-3.result c.args.state.now c.put_text.new.state
    c.put_text-3.new.state (text (94 ∷ []) ∷ []) (text (c.rendered.result.now)
    ∷ (text (36 ∷ []) ∷ [])) c.in_ok-put_text.ensures
    (writes_then c.put_text-3.result c.put_text.new.state c.put_text-2.new.state
    c.put_text-3.new.state (text (c.rendered.result.now) ∷ []) (text (36 ∷ []) ∷ [])
    c.in_ok-put_text-2.ensures c.put_text-3.ensures))
