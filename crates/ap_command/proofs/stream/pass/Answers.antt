use Rattle.std.proofs.Common.{map}
use Rattle.ap_pipe.specs.Any.{any_rest}
use Rattle.ap_command.proofs.Flowing.{flows-by, flows-told}
use Rattle.ap_command.proofs.stream.pass.Goals as goal

pub returns-clause-flows : goal.returns-clause-flows
returns-clause-flows g c = λ stages row.
    flows-by stages c.args.row _ _ _ _ c.stream_row.result c.status_of.result row
    c.stream_row.ensures c.status_of.ensures

pub returns-clause-told : goal.returns-clause-told
returns-clause-told g c =
    λ words. flows-told (map any_rest c.args.row) _ _ _ _ c.stream_row.result c.status_of.result
    words c.stream_row.ensures c.status_of.ensures
