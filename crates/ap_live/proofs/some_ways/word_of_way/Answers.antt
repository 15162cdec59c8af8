use Rattle.std.proofs.Common.{ℕ, List, subst, sym}
use Rattle.ap_symbol.specs.declared.symbol.Symbol.{Symbol}
use Rattle.ap_live.specs.Outputs.{IsOutput}
use Rattle.ap_live.specs.Trails.{Way}
use Rattle.ap_live.proofs.WayLaws.{way_output}
use Rattle.ap_live.proofs.some_ways.word_of_way.Goals as goal

pub returns : goal.returns
returns c = λ outlined seen are.
    let (s, (way, final)) = c.is_way.ensures c.if-not-is_way.false seen are in
    let whole : Way c.args.fst.now.edges seen s c.args.places.items =
    subst (λ (z : List ℕ). Way c.args.fst.now.edges seen s z) c.as_slice.ensures.value way in
    subst (λ (z : List Symbol). IsOutput c.args.fst.now seen z)
    (sym (c.in_ok-word.ensures.is outlined))
    (way_output c.args.fst.now seen s c.args.places.items whole final)
