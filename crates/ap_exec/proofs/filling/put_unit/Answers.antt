use Rattle.ap_exec.proofs.Fills.{full_unit}
use Rattle.ap_exec.proofs.filling.put_unit.Goals as goal

pub returns-else-is_empty : goal.returns-else-is_empty
returns-else-is_empty c =
    rw (full_unit c.args.word.now (λ e. let no = c.if-is_empty.ensures.1 e in cc))
    c.put_word.ensures
