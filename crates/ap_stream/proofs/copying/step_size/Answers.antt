use Rattle.std.proofs.Common.{arith, sym, ◌∙◌}
use Rattle.std.proofs.lemmas.List.{take_rest}
use Rattle.ap_stream.proofs.Copied.{none_runs, run_of_common, white_step}
use Rattle.ap_stream.proofs.copying.step_size.Goals as goal

pub returns-then-size-gt0-clause-run : goal.returns-then-size-gt0-clause-run
returns-then-size-gt0-clause-run c = λ dialect. run_of_common dialect _ (c.common_size-size.ensures.common c.if-size-gt0.true)

pub returns-then-not-is_white-clause-run : goal.returns-then-not-is_white-clause-run
returns-then-not-is_white-clause-run c = none_runs

pub returns-then-more-gt0-clause-run : goal.returns-then-more-gt0-clause-run
returns-then-more-gt0-clause-run c = λ dialect.
    white_step dialect c.args.bytes.now c.common_size-more.result
    (let some = c.in-len1-up.len_at_least in omega (arith, some))
    (sym c.is_white.ensures ∙ c.if-not-is_white.false)
    (rw take_rest at (c.common_size-more.ensures.common c.if-more-gt0.true))

pub returns-in-empty-clause-run : goal.returns-in-empty-clause-run
returns-in-empty-clause-run c = none_runs

pub returns-else-more-gt0-clause-run : goal.returns-else-more-gt0-clause-run
returns-else-more-gt0-clause-run c = none_runs
