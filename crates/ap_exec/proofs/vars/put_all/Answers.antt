use Rattle.std.proofs.Common.{◌≡◌, ◌∙◌, ap, sym, arith, List, length, ℕ}
use Rattle.ap_symbol.specs.declared.symbol.Symbol.{Symbol}
use Rattle.ap_exec.specs.Starting.{with_new}
use Rattle.ap_exec.specs.States.{overlaid}
use Rattle.ap_exec.proofs.Begins.{overlaid_last, overlaid_none}
use Rattle.ap_exec.proofs.vars.put_all.Goals as goal

pub rest-preserved : goal.rest-preserved
rest-preserved c =
    let popped = c.pop.new.self.items in
    let words = c.rest.words.items in
    let count : c.len.result ≡ length popped = c.len.ensures ∙ c.pop.new.self.ok.0 in
    ap (λ (ws : List (List Symbol)). overlaid ws popped)
    (c.put_one.ensures ∙ ap (λ (n : ℕ). with_new words n c.in-Some.new) count)
    ∙ sym (overlaid_last words popped c.in-Some.new)
    ∙ ap (overlaid words) (sym c.in-Some.ensures.items)
    ∙ c.rest.invariant

pub returns : goal.returns
returns c = overlaid_none c.rest.words.items c.rest.rest.items
    (omega (arith, c.in_default.ensures.cases, c.rest.rest.ok.0)) ∙ c.rest.invariant
