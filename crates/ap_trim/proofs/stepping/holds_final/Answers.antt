use Rattle.std.proofs.Common.{arith, get_or, sym, ◌∙◌, refl}
use Rattle.std.proofs.lemmas.Bool.{true≢false}
use Rattle.std.proofs.lemmas.Option.{slice_get-get_or}
use Rattle.ap_fst.proofs.Listing.{in_at}
use Rattle.ap_det.proofs.Constructing.{none_begun, none_on, none_all}
use Rattle.ap_trim.proofs.stepping.holds_final.Goals as goal

pub loop-state-init : goal.loop-state-init
loop-state-init c = none_begun c.args.fst.now c.args.set.now

pub loop-state-preserved : goal.loop-state-preserved
loop-state-preserved c =
    none_on c.args.fst.now c.args.set.now c.loop-state.state-index
    (get_or c.args.set.now c.loop-state.state-index 0)
    (slice_get-get_or c.args.set.now c.loop-state.state-index 0 c.loop-state-test.true)
    (λ i. true≢false (sym (c.is_final.ensures.holds.1 i) ∙ c.if-is_final.false))
    c.loop-state.invariant

pub returns-then-is_final : goal.returns-then-is_final
returns-then-is_final c = (
  λ t. record {
    state = get_or c.args.set.now c.loop-state.state-index 0;
    listed =
        in_at c.args.set.now c.loop-state.state-index 0 c.loop-state-test.true;
    final =
        c.is_final.ensures.holds.0 c.if-is_final.true;
  },
  λ h. refl,
)

pub returns : goal.returns
returns c = (
  λ t. absurd (true≢false (sym t)),
  λ h. absurd (none_all c.args.fst.now c.args.set.now c.loop-state.state-index (omega arith)
      c.loop-state.invariant h),
)
