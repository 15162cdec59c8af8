use Rattle.std.proofs.Common.{arith, sym, subst, ◌≡◌, length, drop, false}
use Rattle.std.proofs.lemmas.List.{length-drop}
use Rattle.ap_stream.proofs.SignLaws as laws
use Rattle.ap_stream.proofs.ChunkWalk as walk
use Rattle.ap_stream.specs.Units.{sign}
use Rattle.ap_stream.proofs.UnitLaws.{longer_zero}
use Rattle.ap_stream.specs.UnitBytes.{Signs}
use Rattle.ap_stream.specs.declared.words.Signed.{Signed}
use Rattle.ap_stream.proofs.chunks.name_at.Goals.{In_ok-symbol}
use Rattle.ap_stream.proofs.chunks.name_at.Goals as goal

-- what stands at the front of what is left
signed : (c : In_ok-symbol) (s : Signed) → c.in_ok-symbol.field-0 ≡ s →
    Signs (sign false (drop c.loop-at.at c.args.held.now))
    (length (drop c.loop-at.at c.args.held.now)) s
signed c s e =
    subst (λ (q : Signed). Signs (sign false (drop c.loop-at.at c.args.held.now))
    (length (drop c.loop-at.at c.args.held.now)) q) e
    (rw (laws.slice_rest c.args.held.now c.loop-at.at) at c.in_ok-symbol.ensures)

pub loop-at-init : goal.loop-at-init
loop-at-init c = record {
  begun = omega arith;
  fits = walk.name_some c.args.held.now c.requires;
  on = rw c.in_ok-name.ensures (sym (longer_zero _));
}

pub loop-at-preserved : goal.loop-at-preserved
loop-at-preserved c =
    let h = signed (goal.at.loop-at-preserved c).In_ok-symbol _ c.in-Reads.is in
    let l = length-drop c.loop-at.at c.args.held.now in
    record {
      begun = omega (arith, c.loop-at.invariant.begun);
      fits = omega (arith, h.3, l, c.loop-at.invariant.fits);
      on = rw c.in_ok-push-in-Reads.ensures.ok
          (walk.name_on _ _ _ c.loop-at.invariant.begun c.loop-at.invariant.on c.requires
          c.in-Reads.symbol c.in-Reads.size h.0 h.2 h.3);
    }

pub returns-in-Brace : goal.returns-in-Brace
returns-in-Brace c =
    let h = signed (goal.at.returns-in-Brace c).In_ok-symbol _ c.in-Brace.is in (
      omega arith,
      omega (arith, c.loop-at-test.true),
      walk.name_stops _ _ _ c.loop-at.invariant.begun c.loop-at.invariant.on c.requires h
          (omega (arith, c.loop-at-test.true)),
    )

pub unreachable-requires : goal.unreachable-requires
unreachable-requires c =
    let h = signed (goal.at.unreachable-requires c).In_ok-symbol _ c.in-Slash.is in
    walk.no_slash _ _ _ c.loop-at.invariant.begun c.loop-at.invariant.on c.requires h
    (omega (arith, c.loop-at-test.true))

pub unreachable-requires-in-Dollar : goal.unreachable-requires-in-Dollar
unreachable-requires-in-Dollar c =
    let h = signed (goal.at.unreachable-requires-in-Dollar c).In_ok-symbol _ c.in-Dollar.is in
    walk.no_dollar _ _ _ c.loop-at.invariant.begun c.loop-at.invariant.on c.requires h
    (omega (arith, c.loop-at-test.true))

pub unreachable-requires-in-Nothing : goal.unreachable-requires-in-Nothing
unreachable-requires-in-Nothing c =
    let h = signed (goal.at.unreachable-requires-in-Nothing c).In_ok-symbol _ c.in-Nothing.is in
    walk.no_symbol _ _ _ c.loop-at.invariant.begun c.loop-at.invariant.on c.requires h

pub unreachable-requires-2 : goal.unreachable-requires-2
unreachable-requires-2 c =
    walk.name_over _ _ _ c.loop-at.invariant.begun c.loop-at.invariant.on c.requires
    (omega (arith, c.loop-at-test.false))
