use Rattle.std.proofs.Common.{arith}
use Rattle.ap_fst.proofs.Removals.{numbers_on, numbers_all}
use Rattle.ap_fst.proofs.removal.final_numbers.Goals as goal

pub loop-number-preserved : goal.loop-number-preserved
loop-number-preserved c =
    numbers_on c.args.kept.now c.args.back.now c.loop-number.number c.loop-number.finals
    c.add_final.new.finals c.in_ok-add_final.ensures c.loop-number.invariant

pub returns-clause-members : goal.returns-clause-members
returns-clause-members c =
    numbers_all c.args.kept.now c.args.back.now c.loop-number.number c.loop-number.finals
    (omega arith) c.loop-number.invariant
