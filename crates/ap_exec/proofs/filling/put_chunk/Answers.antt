use Rattle.std.proofs.Common.{[], ◌∷◌, ◌++◌}
use Rattle.std.proofs.lemmas.Result.{err_from_is_err_and}
use Rattle.ap_symbol.specs.Rendering.{rendering}
use Rattle.ap_exec.specs.Filling.{text, atoms_marks}
use Rattle.ap_exec.proofs.Fills.{stops_more, stops_then, writes_then}
use Rattle.ap_exec.proofs.filling.put_chunk.Goals as goal

pub returns-in_err-put_text : goal.returns-in_err-put_text
returns-in_err-put_text c =
    let p = err_from_is_err_and c.from_residual.result c.from_residual.ensures.1 in
    let last = text (125 ∷ 36 ∷ []) ∷ [] in
    rw (p.1, p.2) (stops_more c.in_err-put_text.field-0.0 c.args.state.now (text (94 ∷ []) ∷ [])
    (text (rendering c.args.name.now)
    ∷ (text (123 ∷ []) ∷ (atoms_marks c.args.atoms.now ++ last))) c.in_err-put_text.ensures)

pub returns-in_err-put_text-2 : goal.returns-in_err-put_text-2
returns-in_err-put_text-2 c =
    let e = c.in_err-put_text-2.field-0.0 in
    let p = err_from_is_err_and c.from_residual-in_err-put_text-2.result
    c.from_residual-in_err-put_text-2.ensures.1 in
    let atoms = atoms_marks c.args.atoms.now ++ text (125 ∷ 36 ∷ []) ∷ [] in
    rw (p.1, p.2, ← c.rendered.ensures)
    (stops_then e c.args.state.now c.put_text.new.state (text (94 ∷ []) ∷ [])
    (text (c.rendered.result.now) ∷ (text (123 ∷ []) ∷ atoms)) c.in_ok-put_text.ensures
    (stops_more e c.put_text.new.state (text (c.rendered.result.now) ∷ []) (text (123 ∷ []) ∷ atoms)
    c.in_err-put_text-2.ensures))

pub returns-in_err-put_text-3 : goal.returns-in_err-put_text-3
returns-in_err-put_text-3 c =
    let e = c.in_err-put_text-3.field-0.0 in
    let p = err_from_is_err_and c.from_residual-in_err-put_text-3.result
    c.from_residual-in_err-put_text-3.ensures.1 in
    let atoms = atoms_marks c.args.atoms.now ++ text (125 ∷ 36 ∷ []) ∷ [] in
    rw (p.1, p.2, ← c.rendered.ensures)
    (stops_then e c.args.state.now c.put_text.new.state (text (94 ∷ []) ∷ [])
    (text (c.rendered.result.now) ∷ (text (123 ∷ []) ∷ atoms)) c.in_ok-put_text.ensures
    (stops_then e c.put_text.new.state c.put_text-2.new.state (text (c.rendered.result.now) ∷ [])
    (text (123 ∷ []) ∷ atoms) c.in_ok-put_text-2.ensures
    (stops_more e c.put_text-2.new.state (text (123 ∷ []) ∷ []) atoms c.in_err-put_text-3.ensures)))

pub returns-in_err-put_atoms : goal.returns-in_err-put_atoms
returns-in_err-put_atoms c =
    let e = c.in_err-put_atoms.field-0.0 in
    let p = err_from_is_err_and c.from_residual-in_err-put_atoms.result
    c.from_residual-in_err-put_atoms.ensures.1 in
    let last = text (125 ∷ 36 ∷ []) ∷ [] in
    let atoms = atoms_marks c.args.atoms.now ++ last in
    rw (p.1, p.2, ← c.rendered.ensures)
    (stops_then e c.args.state.now c.put_text.new.state (text (94 ∷ []) ∷ [])
    (text (c.rendered.result.now) ∷ (text (123 ∷ []) ∷ atoms)) c.in_ok-put_text.ensures
    (stops_then e c.put_text.new.state c.put_text-2.new.state (text (c.rendered.result.now) ∷ [])
    (text (123 ∷ []) ∷ atoms) c.in_ok-put_text-2.ensures
    (stops_then e c.put_text-2.new.state c.put_text-3.new.state (text (123 ∷ []) ∷ []) atoms
    c.in_ok-put_text-3.ensures
    (stops_more e c.put_text-3.new.state (atoms_marks c.args.atoms.now) last
    c.in_err-put_atoms.ensures))))

pub returns : goal.returns
returns c =
    let r = c.put_text-4.result in
    let end = c.put_text-4.new.state in
    let last = text (125 ∷ 36 ∷ []) ∷ [] in
    let atoms = atoms_marks c.args.atoms.now ++ last in
    rw (← c.rendered.ensures)
    (writes_then r c.args.state.now c.put_text.new.state end (text (94 ∷ []) ∷ [])
    (text (c.rendered.result.now) ∷ (text (123 ∷ []) ∷ atoms)) c.in_ok-put_text.ensures
    (writes_then r c.put_text.new.state c.put_text-2.new.state end (text (c.rendered.result.now)
    ∷ []) (text (123 ∷ []) ∷ atoms) c.in_ok-put_text-2.ensures
    (writes_then r c.put_text-2.new.state c.put_text-3.new.state end (text (123 ∷ []) ∷ []) atoms
    c.in_ok-put_text-3.ensures
    (writes_then r c.put_text-3.new.state c.put_atoms.new.state end (atoms_marks c.args.atoms.now)
    last c.in_ok-put_atoms.ensures c.put_text-4.ensures))))
