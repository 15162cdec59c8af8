use Rattle.ap_symbol.proofs.Reading.{encoded_more}
use Rattle.ap_dix.proofs.words.encoded.Goals as goal

pub loop-c-preserved : goal.loop-c-preserved
loop-c-preserved c = cc (
  c.in_ok-push.ensures.bytes,
  encoded_more c.args.text.now c.loop-c.c-index c.c-item.result c.loop-c-test.true,
)
