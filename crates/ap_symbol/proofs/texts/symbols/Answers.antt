use Rattle.std.proofs.Common.{◌≡◌, ◌≤◌, ◌+◌, length, arith, ap, ◌∙◌, ◌++◌, drop}
use Rattle.std.proofs.lemmas.Grind.{common_steps}
use Rattle.ap_symbol.specs.TextWord.{symbols_after, first_len, first_symbol}
use Rattle.ap_symbol.proofs.Reading.{walk, walk_within, walk_goes}
use Rattle.ap_symbol.proofs.texts.symbols.Goals as goal

pub overflow_add-at : goal.overflow_add-at
overflow_add-at c =
    let len : c.in_ok-symbol.len ≡ first_len (drop c.loop-at.at c.args.text.now) =
    grind (arith, common_steps, c.in_ok-symbol.ensures.len) in
    let within : c.loop-at.at + c.in_ok-symbol.len ≤ length c.args.text.now =
    walk_within _ _ _ c.loop-at-test.true len in
    omega arith

pub loop-at-preserved : goal.loop-at-preserved
loop-at-preserved c =
    let len : c.in_ok-symbol.len ≡ first_len (drop c.loop-at.at c.args.text.now) =
    grind (arith, common_steps, c.in_ok-symbol.ensures.len) in
    let symbol : c.in_ok-symbol.symbol ≡ first_symbol (drop c.loop-at.at c.args.text.now) =
    grind (arith, common_steps, c.in_ok-symbol.ensures.symbol) in
    record {
      within = walk_within _ _ _ c.loop-at-test.true len;
      read = ap (λ w. w ++ symbols_after 0
          (drop (c.loop-at.at + c.in_ok-symbol.len) c.args.text.now)) c.in_ok-push.ensures.ok
          ∙ walk _ _ _ _ _ c.loop-at-test.true symbol len c.loop-at.invariant.read;
    }

pub loop-at-smaller : goal.loop-at-smaller
loop-at-smaller c =
    let len : c.in_ok-symbol.len ≡ first_len (drop c.loop-at.at c.args.text.now) =
    grind (arith, common_steps, c.in_ok-symbol.ensures.len) in
    let goes : 1 ≤ c.in_ok-symbol.len = walk_goes c.args.text.now c.loop-at.at _ len in
    omega arith
