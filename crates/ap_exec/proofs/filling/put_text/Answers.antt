use Rattle.ap_exec.proofs.Fills.{text_written}
use Rattle.ap_exec.proofs.filling.put_text.Goals as goal

pub returns : goal.returns
returns c = text_written c.put_bytes.result c.args.state.now c.put_bytes.new.out c.args.bytes.now
    c.put_bytes.ensures
