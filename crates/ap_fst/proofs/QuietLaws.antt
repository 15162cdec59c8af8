use Rattle.std.proofs.Common.{◌≡◌, ℕ, List, [], ◌++◌, refl, sym, ◌∙◌, ap, subst, Option, Some, None}
use Rattle.std.specs.Option.{option_to_list}
use Rattle.ap_fst.specs.Lists.{IsIn}
use Rattle.ap_fst.specs.declared.draft.Move.{Move}
use Rattle.ap_fst.specs.declared.label.Label.{Label}
use Rattle.ap_fst.specs.Paths.{Path, here, on}
use Rattle.ap_fst.specs.Quiet.{Quiet, still, along, Steps, final, next}

pub steps_along : (moves : List Move) (finish s : ℕ) (m : Move) (w : List Label) → IsIn m moves →
    s ≡ m.from → m.label ≡ None → Steps moves finish m.to w → Steps moves finish s w
steps_along moves finish s m w listed from none (final e q) = final e (along m listed from none q)
steps_along moves finish s m w listed from none (next label t more e edge rest) =
    next label t more e (record {
      move = edge.move;
      quiet = along m listed from none edge.quiet;
      listed = edge.listed;
      label_is = edge.label_is;
      to_is = edge.to_is;
    }) rest

steps_by : (moves : List Move) (finish s : ℕ) (m : Move) (w labels : List Label)
    (label : Option Label) → IsIn m moves → s ≡ m.from → m.label ≡ label → w ≡ option_to_list label
    ++ labels → Steps moves finish m.to labels → Steps moves finish s w
steps_by moves finish s m w labels None listed from is whole rest =
    steps_along moves finish s m w listed from is
    (subst (λ (x : List Label). Steps moves finish m.to x) (sym whole) rest)
steps_by moves finish s m w labels (Some label) listed from is whole rest =
    next label m.to labels whole
    (record { move = m; quiet = still from; listed = listed; label_is = is; to_is = refl }) rest

pub steps_from_path : (moves : List Move) (finish s : ℕ) (w : List Label) → Path moves s w finish →
    Steps moves finish s w
steps_from_path moves finish s w (here e) = final refl (still e)
steps_from_path moves finish s w (on {labels = labels} m listed from whole rest) =
    steps_by moves finish s m w labels m.label listed from refl whole
    (steps_from_path moves finish m.to labels rest)

quiet_path : (moves : List Move) (s u t : ℕ) (w : List Label) → Quiet moves s u → Path moves u w t →
    Path moves s w t
quiet_path moves s u t w (still e) p = subst (λ (x : ℕ). Path moves x w t) (sym e) p
quiet_path moves s u t w (along m listed from none more) p =
    on m listed from (ap (λ (o : Option Label). option_to_list o ++ w) (sym none))
    (quiet_path moves m.to u t w more p)

pub path_from_steps : (moves : List Move) (finish s : ℕ) (w : List Label) → Steps moves finish s w →
    Path moves s w finish
path_from_steps moves finish s w (final e q) =
    subst (λ (x : List Label). Path moves s x finish) (sym e)
    (quiet_path moves s finish finish [] q (here refl))
path_from_steps moves finish s w (next label t more e edge rest) =
    quiet_path moves s edge.move.from finish w edge.quiet
    (on edge.move edge.listed refl
    (e ∙ ap (λ (o : Option Label). option_to_list o ++ more) (sym edge.label_is))
    (subst (λ (x : ℕ). Path moves x more finish) edge.to_is
    (path_from_steps moves finish t more rest)))
