use Rattle.std.proofs.Common.{◌∙◌, ap, ◌++◌, List, ℕ}
use Rattle.std.proofs.lemmas.Result.{err_from_is_err_and}
use Rattle.ap_exec.proofs.Fills.{blank_stops, blank_written}
use Rattle.ap_exec.proofs.filling.put_blank.Goals as goal

pub returns-in_err-put_bytes : goal.returns-in_err-put_bytes
returns-in_err-put_bytes c =
    let p = err_from_is_err_and c.from_residual.result c.from_residual.ensures.1 in
    rw (p.1, p.2) (blank_stops c.args.state.now c.args.blank.now c.args.rest.now c.requires
    c.in_err-put_bytes.field-0.0 c.put_bytes.new.out
    (rw c.as_slice.ensures at c.in_err-put_bytes.ensures))

pub returns : goal.returns
returns c = blank_written c.args.state.now c.args.blank.now c.args.rest.now c.requires
    c.put_bytes.new.out (c.in_ok-put_bytes.ensures
    ∙ ap (λ (b : List ℕ). c.args.state.now.out ++ b) c.as_slice.ensures)
