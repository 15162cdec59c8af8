use Rattle.std.proofs.Common.{◌≡◌}
use Rattle.std.proofs.lemmas.Result.{err_from_is_err_and}
use Rattle.ap_exec.specs.Filling.{marks, filled}
use Rattle.ap_exec.proofs.Fills.{fill_stops, fill_ends}
use Rattle.ap_exec.proofs.filling.fill_lent.Goals as goal

pub returns-in_err-put_pieces : goal.returns-in_err-put_pieces
returns-in_err-put_pieces c =
    let p = err_from_is_err_and c.from_residual.result c.from_residual.ensures.1 in
    rw (p.1, p.2, ← c.as_slice.ensures, ← c.as_slice-2.ensures)
    (fill_stops c.in_err-put_pieces.field-0.0
    (record { blanks = c.as_slice.result; out = c.args.out }) (marks c.as_slice-2.result.now)
    c.requires c.in_err-put_pieces.ensures)

pub returns : goal.returns
returns c =
    let text : c.push_rest.new.into ≡ filled (marks c.as_slice-2.result.now) c.as_slice.result.now =
    fill_ends (record { blanks = c.as_slice.result; out = c.args.out }) c.put_pieces.new.state
    (marks c.as_slice-2.result.now) c.push_rest.new.into c.requires
    c.in_ok-put_pieces.ensures c.in_ok-push_rest.ensures in
    rw (← c.as_slice.ensures, ← c.as_slice-2.ensures, ← text) c.bounded.ensures
