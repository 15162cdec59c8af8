use Rattle.std.proofs.Common.{◌≡◌, ◌<◌, ◌-◌, arith, refl, length, Some, slice_get}
use Rattle.std.proofs.lemmas.Option.{slice_get_read}
use Rattle.std.proofs.lemmas.Bool.Decides.{nat_tests}
use Rattle.ap_live.proofs.Outlining.{all_smaller}
use Rattle.ap_live.proofs.outline.is_behind_smaller.Goals as goal

pub returns-clause-before : goal.returns-clause-before
returns-clause-before c = λ t.
    let some : 0 < c.args.place = omega (arith, c.if-place-eq0.false) in
    let within : c.args.place - 1 < length c.args.edges.now =
    omega (arith, c.if-edges-place.false) in
    let at : slice_get c.args.edges.now (c.args.place - 1) ≡ Some c.index-edges-place.result =
    slice_get_read c.args.edges.now (length c.args.edges.now) (c.args.place - 1)
    c.index-edges-place.result refl within c.index-edges-place.is in
    let less : c.index-edges-place.result.from < c.args.from = grind (arith, nat_tests) in
    all_smaller c.args.edges.now c.args.place c.args.from c.index-edges-place.result
    c.requires some at less
