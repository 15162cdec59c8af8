use Rattle.std.proofs.Common.{◌≡◌, ◌∙◌, ◌++◌, ap, sym, List, length, is_some, Bool, ℕ, Ok}
use Rattle.std.proofs.lemmas.Result.{err_from_is_err_and}
use Rattle.ap_symbol.specs.declared.symbol.Symbol.{Symbol}
use Rattle.ap_rules.specs.Views.{plain_rules}
use Rattle.ap_rules.specs.declared.rules.DefMacro.{DefMacro}
use Rattle.ap_exec.specs.Acting.{act_of, Outcome, units_in, positions_in}
use Rattle.ap_exec.specs.Beginning.{lead_in, from_first}
use Rattle.ap_exec.specs.Results.{Ran}
use Rattle.ap_exec.specs.Running.{run_all, macros_below}
use Rattle.ap_exec.specs.Stacks.{body_of}
use Rattle.ap_exec.specs.States.{run_state, definitions, overlaid}
use Rattle.ap_exec.specs.Units.{Shown}
use Rattle.ap_exec.proofs.Begins.{act_is, state_is, positions_are, length_macros, ends_badly, ends_well}
use Rattle.ap_exec.proofs.acting.run_rule.Goals as goal

pub returns-in_err-run_body : goal.returns-in_err-run_body
returns-in_err-run_body c = λ m units_are chunk_is.
    let p = err_from_is_err_and c.from_residual-in_err-run_body.result
    c.from_residual-in_err-run_body.ensures.1 in
    let r = plain_rules c.args.rules.now in
    let w = c.world_of-world.result in
    let s = run_state w (record {
      units = c.args.units;
      fresh = c.take_fresh-fresh.result;
      pieces =
          c.new.result;
    }) in
    let macros : length w.macros.now ≡ length r.macros =
    ap (λ (ms : List DefMacro). length ms) c.world_of-world.ensures.macros
    ∙ length_macros c.args.rules.now.macros.items in
    let count : c.len.result ≡ length (units_in m.chunk m.units) =
    c.len.ensures ∙ c.args.units.ok.0 ∙ ap (λ (us : List Shown). length us) units_are in
    let positions : c.in_ok-positions.positions.items ≡ positions_in m.chunk (length m.units) =
    c.in_ok-positions.ensures ∙ ap (λ (b : Bool). lead_in b ++ from_first c.len.result) chunk_is
    ∙ ap (λ (n : ℕ). lead_in (is_some m.chunk) ++ from_first n) count
    ∙ positions_are m.chunk m.units in
    let start = state_is m c.args.vars.now w.vars.now c.args.units.items
    c.take_fresh-fresh.result.items
    c.new.result units_are c.world_of-world.ensures.vars c.take_fresh-fresh.ensures
    c.new.ensures in
    let whole = act_is r c.args.rule m c.args.vars.now (definitions w) (length w.macros.now)
    c.in_ok-positions.positions.items (body_of c.action_of.result.now) s
    c.world_of-world.ensures.definitions
    macros positions c.action_of.ensures start in
    rw (p.1, p.2) (ends_badly c.in_err-run_body.field-0.0
    (run_all (definitions w) (macros_below (definitions w) (length w.macros.now))
    c.in_ok-positions.positions.items
    (body_of c.action_of.result.now) s) (act_of r c.args.rule m c.args.vars.now) whole
    c.in_err-run_body.ensures)

pub returns : goal.returns
returns c = λ m units_are chunk_is.
    let r = plain_rules c.args.rules.now in
    let w = c.world_of-world.result in
    let s = run_state w (record {
      units = c.args.units;
      fresh = c.take_fresh-fresh.result;
      pieces =
          c.new.result;
    }) in
    let macros : length w.macros.now ≡ length r.macros =
    ap (λ (ms : List DefMacro). length ms) c.world_of-world.ensures.macros
    ∙ length_macros c.args.rules.now.macros.items in
    let count : c.len.result ≡ length (units_in m.chunk m.units) =
    c.len.ensures ∙ c.args.units.ok.0 ∙ ap (λ (us : List Shown). length us) units_are in
    let positions : c.in_ok-positions.positions.items ≡ positions_in m.chunk (length m.units) =
    c.in_ok-positions.ensures ∙ ap (λ (b : Bool). lead_in b ++ from_first c.len.result) chunk_is
    ∙ ap (λ (n : ℕ). lead_in (is_some m.chunk) ++ from_first n) count
    ∙ positions_are m.chunk m.units in
    let start = state_is m c.args.vars.now w.vars.now c.args.units.items
    c.take_fresh-fresh.result.items
    c.new.result units_are c.world_of-world.ensures.vars c.take_fresh-fresh.ensures
    c.new.ensures in
    let whole = act_is r c.args.rule m c.args.vars.now (definitions w) (length w.macros.now)
    c.in_ok-positions.positions.items (body_of c.action_of.result.now) s
    c.world_of-world.ensures.definitions
    macros positions c.action_of.ensures start in
    ends_well (run_all (definitions w) (macros_below (definitions w) (length w.macros.now))
    c.in_ok-positions.positions.items
    (body_of c.action_of.result.now) s) (run_state w c.run_body.new.state)
    (act_of r c.args.rule m c.args.vars.now) whole c.in_ok-run_body.ensures
    ∙ ap (λ (vars : List (List Symbol)). let x : Ran Outcome =
    Ok (record {
      pieces = c.run_body.new.state.pieces;
      vars =
          overlaid vars c.run_body.new.state.fresh.items;
    }) in x) c.world_of-world.ensures.vars
    ∙ ap (λ pieces. let x : Ran Outcome =
    Ok (record {
      pieces = pieces;
      vars =
          overlaid c.args.vars.now c.run_body.new.state.fresh.items;
    }) in x) (sym c.into_template-pieces.ensures)
