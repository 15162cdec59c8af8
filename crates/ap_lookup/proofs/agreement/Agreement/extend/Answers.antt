use Rattle.ap_lookup.proofs.Agreements.{agreement_step}
use Rattle.ap_lookup.proofs.agreement.Agreement.extend.Goals as goal

pub loop-found-preserved : goal.loop-found-preserved
loop-found-preserved c =
    let same = c.is_same.ensures c.if-not-is_same.false in
    record {
      agreed = agreement_step c.args.reads.now c.loop-found.found c.args.by c.index-reads-at.result
          c.index-behind-at.result same.0 c.loop-found.invariant.agreed c.loop-found.invariant.by
          c.if-found-behind.true same.1 same.2;
      by = c.loop-found.invariant.by;
    }
