use Rattle.ap_command.proofs.Told.{joined-3, says-as}
use Rattle.ap_command.proofs.messages.say_file.Goals as goal

pub returns : goal.returns
returns g c = says-as _ _
    (joined-3 _ _ _ _ _ _ c.as_bytes.ensures.value c.as_bytes-2.ensures.value
    c.as_bytes-3.ensures.value)
    (record {
      ok = c.put_all.ensures.ok;
      failed = c.put_all.ensures.failed;
      cause =
          c.put_all.ensures.cause;
    })
