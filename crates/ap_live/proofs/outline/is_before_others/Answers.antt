use Rattle.std.proofs.Common.{◌≡◌, ◌<◌, ◌≤◌, arith, refl, length, Some, slice_get}
use Rattle.std.proofs.lemmas.Option.{slice_get_read}
use Rattle.std.proofs.lemmas.Bool.Decides.{nat_tests}
use Rattle.ap_live.proofs.Outlining.{none_smaller}
use Rattle.ap_live.proofs.outline.is_before_others.Goals as goal

pub returns : goal.returns
returns c = λ t.
    let within : c.args.place < length c.args.edges.now = omega (arith, c.if-edges-place.false) in
    let at : slice_get c.args.edges.now c.args.place ≡ Some c.index-edges-place.result =
    slice_get_read c.args.edges.now (length c.args.edges.now) c.args.place
    c.index-edges-place.result refl within c.index-edges-place.is in
    let more : c.args.from ≤ c.index-edges-place.result.from = grind (arith, nat_tests) in
    none_smaller c.args.edges.now c.args.place c.args.from c.index-edges-place.result
    c.requires at more
