use Rattle.ap_fst.proofs.Coverings.{AreLedBelow}
use Rattle.ap_fst.proofs.covering.leads_of.Given as goal

abbrev pub invariant-loop-next : goal.invariant-loop-next
invariant-loop-next l = AreLedBelow l.moves l.arcs.finish l.next-index l.leads.items
