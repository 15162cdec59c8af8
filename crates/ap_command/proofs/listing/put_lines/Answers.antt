use Rattle.ap_pipe.specs.Standing.{standing}
use Rattle.ap_command.specs.Listing.{listing}
use Rattle.ap_command.proofs.Told.{on-err, on-ok}
use Rattle.ap_command.proofs.Listings.{goes-on, fails, runs-out, all-listed}
use Rattle.ap_command.proofs.listing.put_lines.Goals as goal

pub returns-in_default-gather-clause-listed : goal.returns-in_default-gather-clause-listed
returns-in_default-gather-clause-listed g c =
    runs-out _ _ _ c.loop-more.expansion c.loop-more.invariant

pub returns-then-is_err-clause-listed : goal.returns-then-is_err-clause-listed
returns-then-is_err-clause-listed g c =
    fails _ (standing (g.K.Sink.written c.loop-more.sink) (g.K.Sink.faults c.loop-more.sink)) _ _
    c.loop-more.expansion c.gather.new.expansion c.gather.new.into c.as_slice.result.now
    c.loop-more.invariant c.in-Ok-gather.ensures.gathered c.as_slice.ensures
    (on-err c.put.result _ c.put.ensures.failed c.if-is_err.ensures.value)
    (on-err c.put.result _ c.put.ensures.cause.failed c.if-is_err.ensures.value)

pub loop-more-preserved : goal.loop-more-preserved
loop-more-preserved g c =
    goes-on _ (standing (g.K.Sink.written c.loop-more.sink) (g.K.Sink.faults c.loop-more.sink)) _ _
    c.loop-more.expansion c.gather.new.expansion c.gather.new.into c.as_slice.result.now
    c.loop-more.invariant c.in-Ok-gather.ensures.gathered c.as_slice.ensures
    (on-ok c.put.result _ c.put.ensures.ok c.if-is_err.ensures.negation)
    (on-ok c.put.result _ c.put.ensures.cause.stays c.if-is_err.ensures.negation)

pub returns-then-not-more-clause-listed : goal.returns-then-not-more-clause-listed
returns-then-not-more-clause-listed g c =
    all-listed (standing (g.K.Sink.written c.args.sink.now) (g.K.Sink.faults c.args.sink.now))
    (standing (g.K.Sink.written c.put.new.self) (g.K.Sink.faults c.put.new.self))
    (listing c.args.dictionary.now) c.gather.new.expansion
    (goes-on _ (standing (g.K.Sink.written c.loop-more.sink) (g.K.Sink.faults c.loop-more.sink)) _ _
    c.loop-more.expansion c.gather.new.expansion c.gather.new.into c.as_slice.result.now
    c.loop-more.invariant c.in-Ok-gather.ensures.gathered c.as_slice.ensures
    (on-ok c.put.result _ c.put.ensures.ok c.if-is_err.ensures.negation)
    (on-ok c.put.result _ c.put.ensures.cause.stays c.if-is_err.ensures.negation))
    (c.in-Ok-gather.ensures.end c.if-not-more.true)
