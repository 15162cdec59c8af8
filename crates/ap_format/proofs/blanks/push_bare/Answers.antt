use Rattle.std.proofs.Common.{sym, ◌∙◌, ap, arith}
use Rattle.ap_format.proofs.BareBlanks.{bare_more, bare_less, bare_end}
use Rattle.ap_format.proofs.blanks.push_bare.Goals as goal
use Rattle.ap_format.proofs.blanks.push_bare.Goals.{then-is_kept+in_ok-push, else-is_kept}

pub loop-byte-preserved : goal.loop-byte-preserved
loop-byte-preserved c = elim c.if-is_kept.branch [
  | then-is_kept+in_ok-push w ↦
      bare_more c.args.bytes.now c.loop-byte.byte-index (omega (arith, c.loop-byte-test.true))
      c.loop-byte.at _ c.loop-byte.text.items c.if-is_kept.text.items c.loop-byte.invariant
      c.next_spot-at.result c.next_spot-at.ensures (sym c.is_kept.ensures ∙ w.if-is_kept.true)
      (ap (λ t. t.items) w.text-is ∙ w.in_ok-push.ensures.items)
  | else-is_kept w ↦
      ap (λ q. q) (bare_less c.args.bytes.now c.loop-byte.byte-index
      (omega (arith, c.loop-byte-test.true))
      c.loop-byte.at _ c.loop-byte.text.items c.if-is_kept.text.items c.loop-byte.invariant
      c.next_spot-at.result c.next_spot-at.ensures (sym c.is_kept.ensures ∙ w.if-is_kept.false)
      (ap (λ t. t.items) w.text-is))
]

pub returns : goal.returns
returns c = bare_end c.args.bytes.now c.loop-byte.byte-index c.loop-byte.at _
    c.loop-byte.text.items (omega (arith, c.loop-byte-test.false)) c.loop-byte.invariant
