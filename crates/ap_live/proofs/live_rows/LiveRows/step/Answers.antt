use Rattle.std.proofs.Common.{◌≡◌, ◌∙◌, ◌-◌, ℕ, List, Some, ap, subst, sym, ◌++◌, ◌∷◌, [], slice_get, length}
use Rattle.ap_live.specs.Fitting.{Input}
use Rattle.ap_live.specs.Rows.{AreLiveRows, IsNext}
use Rattle.ap_live.specs.declared.rows.Row.{Row}
use Rattle.ap_live.proofs.RowLaws.{live_stepped}
use Rattle.ap_live.proofs.live_rows.LiveRows.step.Goals as goal

pub returns-clause-ok : goal.returns-clause-ok
returns-clause-ok c = λ seen is are.
    let input : Input = record { symbol = c.args.input.now; sensitive = c.args.sensitive } in
    let rows : List Row = c.self.inside.rows.items in
    let last : Row = c.in-Some.last.now in
    let row : Row = c.fill_row.new.row in
    let there : Some last ≡ slice_get rows (length rows - 1) =
    c.in-Some.ensures.value ∙ ap (λ (z : List Row). slice_get z (length z - 1)) c.deref.ensures.value in
    let next : IsNext c.args.fst.now.edges (Some input) last.states.items row =
    subst (λ (z : List ℕ). IsNext c.args.fst.now.edges (Some input) z row) c.states.ensures
    (c.in_ok-fill_row.ensures.next is) in
    live_stepped c.args.fst.now seen input rows c.push.new.self.items last row there next
    c.in_ok-fill_row.ensures.told
    (c.in_ok-push.ensures.items ∙ ap (λ (z : Row). rows ++ z ∷ []) c.new.ensures)
    (subst (λ (z : List Row). AreLiveRows c.args.fst.now seen z) (sym c.self.view_is) are)
