use Rattle.ap_trim.proofs.Sectioning.{kept_by_same}
use Rattle.ap_trim.proofs.trimming.determined.Goals as goal

pub returns : goal.returns
returns c = kept_by_same c.args.section.now c.args.bilingual.now c.in_ok-made.made c.in_ok-one.one
    c.in_ok-one.ensures.same c.in_ok-made.ensures
