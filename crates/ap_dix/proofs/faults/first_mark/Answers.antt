use Rattle.std.proofs.Common.{◌≡◌, [], ap, sym, subst, ◌∙◌, Option, IfOk}
use Rattle.ap_markup.specs.Tree.{Done}
use Rattle.ap_markup.specs.View.{parts_of, node_then}
use Rattle.ap_dix.specs.Faults.{DixMark, declared_in, first_in, first_mark}
use Rattle.ap_dix.proofs.Walks.{mark_own, mark_within}
use Rattle.ap_dix.proofs.faults.first_mark.Goals as goal

pub returns-in-Some : goal.returns-in-Some
returns-in-Some c =
    mark_own c.args.root.now c.declare.new.names c.new-defined.result c.in-Some.mark
    (c.in_ok-declare.ensures
    ∙ ap (λ ns. declared_in ns (parts_of c.deref.result.now)) c.new-declared.ensures
    ∙ ap (λ ps. declared_in [] (parts_of ps)) c.deref.ensures.value)
    c.new-defined.ensures
    (sym c.in_ok-mark.ensures ∙ c.in-Some.is)

pub returns : goal.returns
returns c =
    let same : first_in c.declare.new.names c.new-defined.result (parts_of c.deref-2.result.now)
    ≡ first_mark (node_then c.args.root.now Done) =
    ap (λ ps. first_in c.declare.new.names c.new-defined.result (parts_of ps))
    c.deref-2.ensures.value
    ∙ mark_within c.args.root.now c.declare.new.names c.new-defined.result
    (c.in_ok-declare.ensures
    ∙ ap (λ ns. declared_in ns (parts_of c.deref.result.now)) c.new-declared.ensures
    ∙ ap (λ ps. declared_in [] (parts_of ps)) c.deref.ensures.value)
    c.new-defined.ensures
    (sym c.in_ok-mark.ensures ∙ c.in_default.is) in
    subst (λ (x : Option DixMark). IfOk c.first_in.result (λ first. first ≡ x)) same
    c.first_in.ensures.first
