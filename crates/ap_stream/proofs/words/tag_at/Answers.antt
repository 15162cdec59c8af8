use Rattle.std.proofs.Common.{◌≡◌, ◌+◌, length, ap, sym, ◌∙◌, refl, arith}
use Rattle.ap_symbol.specs.declared.symbol.Symbol.TheVariants as symbol
use Rattle.ap_stream.specs.Units.{Reads}
use Rattle.ap_stream.specs.UnitBytes.{Heads}
use Rattle.ap_stream.proofs.KeptNames.{heads_tag}
use Rattle.ap_stream.proofs.words.tag_at.Goals as goal

pub returns-in-Some : goal.returns-in-Some
returns-in-Some c =
    let h : Heads c.args.bytes.now c.in-Some.tag = rw c.in-Some.is at c.in_ok-tag.ensures in
    let t = heads_tag c.args.bytes.now c.in-Some.tag h in
    let size : length c.text-size.result.now ≡ length c.in-Some.tag =
    ap length c.text-size.ensures.text in (
      t.0 ∙ ap (λ n. Reads (symbol.Tag c.in-Some.tag) (2 + n)) (sym size),
      refl,
      omega arith,
      omega (arith, t.1, size),
    )
