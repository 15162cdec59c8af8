use Rattle.std.proofs.Common.{List, subst, sym}
use Rattle.std.specs.Prelude.{◌↔◌}
use Rattle.ap_fst.specs.Machines.{Machine}
use Rattle.ap_fst.specs.Paths.{Accepts}
use Rattle.ap_fst.specs.Walks.{AcceptsLabels}
use Rattle.ap_fst.specs.declared.label.Label.{Label}
use Rattle.ap_min.specs.Canonical.{IsCanonical}
use Rattle.ap_compile.proofs.Telling.{still}
use Rattle.ap_compile.proofs.small.canonical_form.Goals as goal

pub returns-clause-same : goal.returns-clause-same
returns-clause-same c = subst (λ (m : Machine). (w : List Label) →
    AcceptsLabels m w ↔ Accepts c.args.draft w) (sym c.into_fst.ensures.value)
    (still c.args.draft c.in_ok-one.one c.in_ok-small.small c.in_ok-small.ensures.same
    c.in_ok-one.ensures)

pub returns-clause-canonical : goal.returns-clause-canonical
returns-clause-canonical c =
    subst IsCanonical (sym c.into_fst.ensures.value) c.into_fst.ensures.canonical
