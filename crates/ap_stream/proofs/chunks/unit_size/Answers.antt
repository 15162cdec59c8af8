use Rattle.std.proofs.Common.{arith, ap, ◌∙◌, ◌≡◌, [], ◌∷◌, drop, false}
use Rattle.std.proofs.lemmas.List.{length-drop}
use Rattle.ap_stream.proofs.SignLaws as laws
use Rattle.ap_stream.proofs.ChunkWalk as walk
use Rattle.ap_stream.proofs.ChunkWalk.{SymbolAt}
use Rattle.ap_stream.specs.Units.{sign}
use Rattle.ap_stream.proofs.chunks.unit_size.Goals.{After-symbol_size-at}
use Rattle.ap_stream.proofs.chunks.unit_size.Goals as goal

symbol : (c : After-symbol_size-at) → SymbolAt (drop c.loop-at.at c.args.bytes.now)
symbol c =
    walk.symbol_here c.args.bytes.now c.loop-at.at c.loop-at.invariant.on.0 c.loop-at.invariant.on.1
    c.requires c.loop-at-test.true c.if-bytes-at-eq36.false

size_is : (c : After-symbol_size-at) → c.symbol_size-at.result ≡ (symbol c).size
size_is c =
    c.symbol_size-at.ensures.size (symbol c).symbol (symbol c).size
    (ap (sign false) (laws.slice_rest c.args.bytes.now c.loop-at.at) ∙ (symbol c).is)

pub returns-then-bytes-at-eq36-clause-size : goal.returns-then-bytes-at-eq36-clause-size
returns-then-bytes-at-eq36-clause-size c = (
  c.loop-at.invariant.on.0 ∷ [],
  walk.word_ends c.args.bytes.now c.loop-at.at c.loop-at.invariant.on.0 c.loop-at.invariant.on.1
      c.requires (omega (arith, c.loop-at-test.true)) (omega (arith, c.if-bytes-at-eq36.true)),
)

pub loop-at-smaller : goal.loop-at-smaller
loop-at-smaller c =
    let at = (goal.at.loop-at-smaller c).After-symbol_size-at in
    let s = symbol at in let e = size_is at in let some = s.some in
    omega (arith, e, some, c.loop-at-test.true)

pub loop-at-preserved : goal.loop-at-preserved
loop-at-preserved c =
    let at = (goal.at.loop-at-preserved c).After-symbol_size-at in
    let s = symbol at in let e = size_is at in let fits = s.fits in
    let l = length-drop c.loop-at.at c.args.bytes.now in
    record {
      fits = omega (arith, e, fits, l, c.loop-at-test.true);
      on = walk.word_past c.args.bytes.now c.loop-at.at c.loop-at.invariant.on.0
          c.loop-at.invariant.on.1 c.requires s c.symbol_size-at.result e;
    }

pub unreachable-requires : goal.unreachable-requires
unreachable-requires c =
    walk.word_over c.args.bytes.now c.loop-at.at c.loop-at.invariant.on.0 c.loop-at.invariant.on.1
    c.requires (omega (arith, c.loop-at-test.false))
