use Rattle.ap_trim.proofs.Unions.{union_is}
use Rattle.ap_trim.proofs.union.union_of.Goals as goal

pub returns : goal.returns
returns c = union_is c.args.compiled.now c.in_ok-standard.standard
    c.in_ok-inconditional.inconditional c.in_ok-postblank.postblank c.in_ok-preblank.preblank
    c.in_ok-first.first c.in_ok-second.second c.in_ok-all.all c.in_ok-fst.fst
    c.in_ok-standard.ensures c.in_ok-inconditional.ensures c.in_ok-postblank.ensures
    c.in_ok-preblank.ensures c.in_ok-first.ensures c.in_ok-second.ensures c.in_ok-all.ensures
    c.in_ok-fst.ensures
