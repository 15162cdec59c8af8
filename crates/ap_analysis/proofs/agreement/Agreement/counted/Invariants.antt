use Rattle.std.proofs.Common.{◌-◌, length}
use Rattle.ap_analysis.specs.Agreements.{IsAgreement, AreLikeFront}
use Rattle.ap_analysis.proofs.agreement.Agreement.counted.Given as goal

abbrev pub invariant-loop-count : goal.invariant-loop-count
invariant-loop-count l = IsAgreement l.reads l.self → AreLikeFront l.reads l.by l.count

abbrev pub decreases-loop-count : goal.decreases-loop-count
decreases-loop-count l = length l.behind - l.count
