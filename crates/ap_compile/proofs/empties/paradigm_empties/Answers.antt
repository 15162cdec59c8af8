use Rattle.std.proofs.Common.{◌≡◌, arith, sym, subst, ap, ◌∙◌, List, Bool, length, length-append, ◌∷◌, []}
use Rattle.std.specs.Prelude.{IsTrue, ◌↔◌}
use Rattle.std.specs.List.{list_all}
use Rattle.ap_dix.specs.Soundness.{is_sound_entry}
use Rattle.ap_dix.specs.declared.dictionary.Entry.{Entry}
use Rattle.ap_compile.specs.Empties.{AreEmpties, HasEmptyEntry}
use Rattle.ap_compile.proofs.Deriving.{sound_at}
use Rattle.ap_compile.proofs.Silences.{empties_more, told_empty}
use Rattle.ap_compile.proofs.empties.paradigm_empties.Goals as goal

pub first_empty_entry-first-requires : goal.first_empty_entry-first-requires
first_empty_entry-first-requires c =
    let count : length c.as_slice.result.now ≡ c.loop-pardef.pardef-index =
    ap (length {A = Bool}) c.as_slice.ensures.value ∙ c.loop-pardef.invariant.count in
    let same : c.as_slice-pardef-items.result.now ≡ c.args.dictionary.now.pardefs =
    c.as_slice-pardef-items.ensures in
    subst (λ (xs : List Entry). IsTrue
    (list_all (is_sound_entry (length c.as_slice.result.now)) xs))
    (sym c.as_slice-in-loop-pardef.ensures)
    (sound_at 0 c.args.dictionary.now.pardefs c.loop-pardef.pardef-index
    (length c.as_slice.result.now) c.pardef-item.result c.pardef-item.result
    (rw same at c.loop-pardef-test.true) (omega (arith, count)) (rw same at c.pardef-item.is)
    c.requires.pardefs)

pub loop-pardef-preserved : goal.loop-pardef-preserved
loop-pardef-preserved c =
    let d = c.args.dictionary.now in
    let same : c.as_slice-pardef-items.result.now ≡ c.args.dictionary.now.pardefs =
    c.as_slice-pardef-items.ensures in
    let are : AreEmpties d c.args.direction c.as_slice.result.now =
    subst (λ (ds : List Bool). AreEmpties d c.args.direction ds) (sym c.as_slice.ensures.value)
    c.loop-pardef.invariant.empties in
    record {
      empties = empties_more d c.args.direction c.loop-pardef.empties.items c.push.new.self.items
          c.is_some.result c.pardef-item.result c.pardef-item.result c.loop-pardef.pardef-index
          (sym c.loop-pardef.invariant.count)
          (rw same at c.loop-pardef-test.true) (rw same at c.pardef-item.is)
          c.loop-pardef.invariant.empties c.in_ok-push.ensures.items
          (subst (λ (xs : List Entry). IsTrue c.is_some.result
          ↔ HasEmptyEntry d c.args.direction xs) c.as_slice-in-loop-pardef.ensures
          (told_empty d c.args.direction c.as_slice-in-loop-pardef.result.now
          c.first_empty_entry-first.result c.is_some.result c.is_some.ensures
          (c.first_empty_entry-first.ensures d are)));
      count = omega (
        arith,
        ap (length {A = Bool}) c.in_ok-push.ensures.items,
        length-append c.loop-pardef.empties.items (c.is_some.result ∷ []),
        c.loop-pardef.invariant.count,
      );
    }
