use Rattle.std.proofs.Common.{arith, sym, ◌∙◌, ◌≡◌, vec_len}
use Rattle.std.proofs.lemmas.Bool.Decides.{nat_tests}
use Rattle.ap_symbol.specs.Recasing.{carry_lem}
use Rattle.ap_live.proofs.Ordered.{mapped_none}
use Rattle.ap_live.proofs.readings.push_carried.Goals as goal

pub returns-then-keeps_words : goal.returns-then-keeps_words
returns-then-keeps_words c =
    let none : vec_len c.args.into.now ≡ 0 =
    grind (arith, nat_tests, sym c.is_empty.ensures ∙ c.if-is_empty.true) in
    let len = c.args.into.now.ok.0 in
    mapped_none (carry_lem c.args.case) c.args.into.now.items c.args.words.items
    (omega (arith, none, len)) (c.keeps_words.ensures c.if-keeps_words.true)
