use Rattle.std.proofs.Common.{◌≡◌, ◌+◌, ◌-◌, ◌++◌, arith, ap, sym, ◌∙◌, length, take, drop}
use Rattle.ap_command.proofs.Making.{more-given, placed}
use Rattle.ap_command.proofs.made.WorkSourceSource.take.Goals as goal

pub loop-count-preserved : goal.loop-count-preserved
loop-count-preserved c = record {
  given = more-given _ _ _ c.loop-count.into c.give-count.new.into _ c.loop-count.count
      c.give-count.result c.loop-count.invariant.given c.give-count.ensures.given
      c.loop-count.invariant.within c.give-count.ensures.most;
  within = placed c.loop-count.into c.give-count.new.into _ c.loop-count.count c.give-count.result
      c.loop-count.invariant.within c.give-count.ensures.most;
}
