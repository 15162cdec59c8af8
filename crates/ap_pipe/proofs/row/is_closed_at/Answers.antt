use Rattle.std.proofs.Common.{ap, sym, ◌∙◌}
use Rattle.ap_pipe.specs.Row.{closes}
use Rattle.ap_pipe.proofs.Rows as rows
use Rattle.ap_pipe.proofs.row.is_closed_at.Goals as goal

pub returns-then-at-eq0 : goal.returns-then-at-eq0
returns-then-at-eq0 g c =
    rw c.if-at-eq0.true (sym (rows.closed_zero g.S.Stage g.met.S.Stage.rest_is c.args.closed c.args.stations.now))

pub returns-else-at-eq0 : goal.returns-else-at-eq0
returns-else-at-eq0 g c = c.is_closed.ensures
    ∙ ap (closes g.S.Stage) c.index-stations-at.is
    ∙ rows.closed_before g.S.Stage g.met.S.Stage.rest_is c.args.closed
    c.args.stations.now c.args.at c.index-stations-at.result c.if-at-eq0.false c.requires
