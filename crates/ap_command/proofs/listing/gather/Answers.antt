use Rattle.std.proofs.Common.{◌≡◌, true, ap, ◌∙◌, ◌++◌, List, ℕ}
use Rattle.ap_command.proofs.Listings.{gathered-more}
use Rattle.ap_command.proofs.listing.gather.Goals as goal

pub loop-expansion-preserved : goal.loop-expansion-preserved
loop-expansion-preserved c =
    let more : c.in_ok-next.field-0 ≡ true = c.if-not-branch.false in
    gathered-more c.args.expansion.now c.loop-expansion.expansion c.next.new.self
    c.loop-expansion.into c.next.new.line c.extend.new.self c.extend-in-loop-expansion.new.self
    c.as_bytes.result.now
    c.loop-expansion.invariant (c.in_ok-next.ensures.found more)
    (c.in_ok-extend.ensures.ok
    ∙ ap (λ (x : List ℕ). c.loop-expansion.into ++ x) c.as_slice-in-loop-expansion.ensures)
    c.in_ok-extend-2.ensures.ok c.as_bytes.ensures.value
