use Rattle.std.proofs.Common.{◌≡◌, ◌∙◌, ◌+◌, ◌<◌, List, ℕ, Some, ap, arith, length, refl, slice_get, sym}
use Rattle.ap_dix.specs.declared.dictionary.Pardef.{Pardef}
use Rattle.ap_compile.proofs.Deriving.{sound_at}
use Rattle.ap_compile.proofs.LastUses.{all_drafted, next_drafted, next_pardef, to_same}
use Rattle.ap_compile.proofs.paradigms.paradigm_drafts.Goals as goal

pub with_paradigm-requires : goal.with_paradigm-requires
with_paradigm-requires c =
    let d = c.args.dictionary.now in
    let at : ℕ = c.loop-pardef.pardef-index in
    let same : c.as_slice-pardef-items.result.now ≡ d.pardefs = c.as_slice-pardef-items.ensures in
    let lt : at < length d.pardefs = rw same at c.loop-pardef-test.true in
    next_drafted d c.args.direction c.in_ok-last.last.items at c.loop-pardef.drafts.items
    c.pardef-item.result c.loop-pardef.invariant c.in_ok-last.ensures lt
    (next_pardef d at c.pardef-item.result c.pardef-item.result lt (rw same at c.pardef-item.is))
    (sound_at 0 d.pardefs at at c.pardef-item.result c.pardef-item.result lt (omega arith)
    (rw same at c.pardef-item.is) c.requires.pardefs)

pub loop-pardef-preserved : goal.loop-pardef-preserved
loop-pardef-preserved c =
    let d = c.args.dictionary.now in
    let at : ℕ = c.loop-pardef.pardef-index in
    let last : List ℕ = c.in_ok-last.last.items in
    let count : length c.loop-pardef.drafts.items ≡ at = c.loop-pardef.invariant.count in
    let same : c.as_slice-pardef-items.result.now ≡ d.pardefs = c.as_slice-pardef-items.ensures in
    let lt : at < length d.pardefs = rw same at c.loop-pardef-test.true in
    let here : slice_get d.pardefs at ≡ Some c.pardef-item.result =
    next_pardef d at c.pardef-item.result c.pardef-item.result lt (rw same at c.pardef-item.is) in
    to_same d c.args.direction c.as_slice.result.now last (length c.loop-pardef.drafts.items + 1)
    (at + 1) c.in_ok-drafts.drafts.items c.as_slice.ensures.value (ap (λ (z : ℕ). z + 1) count)
    (c.in_ok-drafts.ensures d
    (to_same d c.args.direction last c.as_slice.result.now at (length c.loop-pardef.drafts.items)
    c.loop-pardef.drafts.items (sym c.as_slice.ensures.value) (sym count) c.loop-pardef.invariant)
    (ap (slice_get d.pardefs) count ∙ here))

pub returns-clause-drafts : goal.returns-clause-drafts
returns-clause-drafts c = c.loop-pardef.invariant.made

pub returns-clause-drafted : goal.returns-clause-drafted
returns-clause-drafted c =
    let d = c.args.dictionary.now in
    let last : List ℕ = c.in_ok-last.last.items in
    let end : c.loop-pardef.pardef-index ≡ length d.pardefs = omega (
      arith,
      c.loop-pardef-test.false,
      c.loop-pardef.auto.pardef-index-end,
      ap (length {A = Pardef}) c.as_slice-pardef-items.ensures,
    ) in
    all_drafted d c.args.direction last c.loop-pardef.drafts.items
    (to_same d c.args.direction last last c.loop-pardef.pardef-index (length d.pardefs)
    c.loop-pardef.drafts.items refl end c.loop-pardef.invariant)
    c.in_ok-last.ensures c.requires
