use Rattle.std.proofs.Common.{◌≡◌, List, None, Some, refl, subst, sym, slice_get}
use Rattle.std.proofs.lemmas.Result.{IfOk-weaker}
use Rattle.ap_symbol.proofs.FittingSymbols.{fits_itself}
use Rattle.ap_live.specs.Fitting.{Input}
use Rattle.ap_live.specs.Outlines.{IsCut}
use Rattle.ap_live.specs.Spreads.{AnyPlace, HasLeft}
use Rattle.ap_live.specs.declared.outline.Entry.{Entry}
use Rattle.ap_live.proofs.Leading.{cut_there, nowhere}
use Rattle.ap_live.proofs.NodeLaws.{adds_none, adds_seen}
use Rattle.ap_live.proofs.Others.{one_side, picked_by}
use Rattle.ap_live.proofs.nodes.push_mark.Goals as goal

pub returns-then-not-has_code-clause-added : goal.returns-then-not-has_code-clause-added
returns-then-not-has_code-clause-added c = λ is span.
    let input : Input = record { symbol = c.args.input.now; sensitive = c.args.sensitive } in
    let cut : IsCut c.args.outline.now.entries.items c.args.first c.args.last
    c.code_of_input-code.result c.low_of-low.result =
    cut_there c.args.fst.now.edges c.args.outline.now c.args.from c.args.first c.args.last is
    c.edges-edges.ensures.sound.edges_ascend span c.requires.within c.code_of_input-code.result
    c.low_of-low.result c.as_slice.result.now c.as_slice.ensures.value c.low_of-low.ensures in
    adds_none c.args.fst.now.edges (Some input) c.args.from c.args.back AnyPlace
    c.args.nodes.now.items
    (λ s j p any. nowhere c.args.fst.now.edges c.args.outline.now c.args.from c.args.first
    c.args.last is c.edges-edges.ensures.sound.edges_ascend span c.requires.within input
    c.code_of_input-code.result c.low_of-low.result c.requires.other c.code_of_input-code.ensures
    cut
    (λ lt x at. c.has_code.ensures.not c.if-not-has_code.true lt x
    (subst (λ (z : List Entry). slice_get z c.low_of-low.result ≡ Some x)
    (sym c.as_slice-2.ensures.value) at)) s j p)

pub returns-then-last-saturating_add-clause-added :
    goal.returns-then-last-saturating_add-clause-added
returns-then-last-saturating_add-clause-added c =
    let input : Input = record { symbol = c.args.input.now; sensitive = c.args.sensitive } in
    IfOk-weaker c.push_found.result _ _
    (λ x h is span. adds_seen c.args.fst.now.edges (Some input) c.args.from c.args.back
    (HasLeft c.args.fst.now.edges (Some c.args.input.now)) AnyPlace c.args.nodes.now.items
    c.push_found.new.nodes.items
    (λ s j p any. one_side c.args.fst.now.edges (Some input) input c.args.input.now None refl refl
    refl c.requires.other c.args.from s j p)
    (h (Some input) (picked_by input c.args.input.now
    (fits_itself c.args.sensitive c.args.input.now))))
    c.push_found.ensures.added
