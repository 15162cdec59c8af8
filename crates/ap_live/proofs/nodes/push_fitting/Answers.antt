use Rattle.std.proofs.Common.{◌≡◌, ap, refl, subst, Some, ℕ, true}
use Rattle.std.specs.Option.{option_copied}
use Rattle.std.proofs.lemmas.Result.{IfOk-weaker}
use Rattle.ap_symbol.proofs.FittingSymbols.{fits_itself}
use Rattle.ap_symbol.specs.Fitting.{fits_lem}
use Rattle.ap_symbol.specs.declared.symbol.Symbol.{Symbol}
use Rattle.ap_symbol.specs.declared.symbol.Symbol.TheVariants.{Letter}
use Rattle.ap_live.specs.Fitting.{Input}
use Rattle.ap_live.specs.Spreads.{AnyPlace, HasLeft}
use Rattle.ap_live.proofs.NodeLaws.{adds_seen, adds_two}
use Rattle.ap_live.proofs.Others.{one_side, picked_by, two_sides}
use Rattle.ap_live.proofs.nodes.push_fitting.Goals as goal

-- The input itself fits.
itself : (input : Input) (c : ℕ) → input.symbol ≡ Letter c →
    fits_lem input.sensitive (Letter c) input.symbol ≡ true
itself input c is = subst (λ (z : Symbol). fits_lem input.sensitive z input.symbol ≡ true) is
    (fits_itself input.sensitive input.symbol)

pub returns-in-Letter-None-clause-added : goal.returns-in-Letter-None-clause-added
returns-in-Letter-None-clause-added c =
    let input : Input = record { symbol = c.args.input.now; sensitive = c.args.sensitive } in
    let letter : Symbol = Letter c.in-Letter-None.letter in
    IfOk-weaker c.push_letter.result _ _
    (λ x h is span codes. adds_seen c.args.fst.now.edges (Some input) c.args.from c.args.back
    (HasLeft c.args.fst.now.edges (Some letter)) AnyPlace c.args.nodes.now.items
    c.push_letter.new.nodes.items
    (λ s j p any. one_side c.args.fst.now.edges (Some input) input letter
    (option_copied c.args.other) refl c.in-Letter-None.is-0 (ap option_copied c.in-Letter-None.is-1)
    c.requires.other c.args.from s j p)
    (h c.args.fst.now.edges (Some input) c.args.from is c.edges-edges.ensures.sound.edges_ascend span codes
    (picked_by input letter (itself input c.in-Letter-None.letter c.in-Letter-None.is-0))))
    c.push_letter.ensures.added

pub returns-in_ok-push_letter-in-Letter-Some-Letter-clause-added :
    goal.returns-in_ok-push_letter-in-Letter-Some-Letter-clause-added
returns-in_ok-push_letter-in-Letter-Some-Letter-clause-added c =
    let input : Input = record { symbol = c.args.input.now; sensitive = c.args.sensitive } in
    let letter : Symbol = Letter c.in-Letter-Some-Letter.letter in
    let small : Symbol = Letter c.in-Letter-Some-Letter.small in
    let there : option_copied c.args.other ≡ Some small = cc in
    IfOk-weaker c.push_letter-in-Letter-Some-Letter-2.result _ _
    (λ x h is span codes. adds_two c.args.fst.now.edges (Some input) c.args.from c.args.back
    (HasLeft c.args.fst.now.edges (Some letter)) (HasLeft c.args.fst.now.edges (Some small))
    AnyPlace c.args.nodes.now.items c.push_letter-in-Letter-Some-Letter.new.nodes.items
    c.push_letter-in-Letter-Some-Letter-2.new.nodes.items
    (λ s j p any. two_sides c.args.fst.now.edges (Some input) input letter small
    (option_copied c.args.other) refl c.in-Letter-Some-Letter.is-0 there c.requires.other c.args.from s j p)
    (c.in_ok-push_letter-in-Letter-Some-Letter.ensures.added c.args.fst.now.edges (Some input) c.args.from
    is c.edges-edges.ensures.sound.edges_ascend span codes
    (picked_by input letter
    (itself input c.in-Letter-Some-Letter.letter c.in-Letter-Some-Letter.is-0)))
    (h c.args.fst.now.edges (Some input) c.args.from is c.edges-edges.ensures.sound.edges_ascend span codes
    (picked_by input small (c.requires.other.fits small there))))
    c.push_letter-in-Letter-Some-Letter-2.ensures.added
