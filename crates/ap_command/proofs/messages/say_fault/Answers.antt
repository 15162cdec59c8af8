use Rattle.std.proofs.Common.{◌∙◌}
use Rattle.ap_command.proofs.Told.{joined-9, says-as}
use Rattle.ap_command.proofs.messages.say_fault.Goals as goal

pub returns : goal.returns
returns g c = says-as _ _
    (joined-9 _ _ _ _ _ _ _ _ _ _ _ _ _ _ _ _ _ _ c.as_bytes.ensures.value
    c.as_bytes-2.ensures.value c.as_bytes-3.ensures.value (c.as_bytes-4.ensures.value
    ∙ c.format.ensures.text) c.as_bytes-5.ensures.value (c.as_bytes-6.ensures.value
    ∙ c.format-2.ensures.text) c.as_bytes-7.ensures.value c.as_bytes-8.ensures.value
    c.as_bytes-9.ensures.value)
    (record {
      ok = c.put_all.ensures.ok;
      failed = c.put_all.ensures.failed;
      cause =
          c.put_all.ensures.cause;
    })
