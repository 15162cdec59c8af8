use Rattle.std.proofs.Common.{arith, sym, ◌≡◌, ℕ, ◌+◌, ◌-◌, ◌<◌, List, ◌++◌, min, length, take, drop}
use Rattle.std.proofs.lemmas.List.{take-take, length-take}
use Rattle.std.proofs.Math.Seq.{take-add}
use Rattle.ap_stream.proofs.Copied.{front_gives}
use Rattle.ap_stream.proofs.copying.give_unit.Goals as goal

pub returns-clause-gives : goal.returns-clause-gives
returns-clause-gives g c = λ some.
    let piece : List ℕ = c.args.piece.now in
    let most : ℕ = c.min-most.result in
    let white : ℕ = c.white_size-white.result in
    let size : ℕ = c.in_ok-size.size in
    let n = c.min-most.ensures in
    let w = c.white_size-white.ensures.most in
    let s = c.in_ok-size.ensures.most in
    let first : length (take most piece) ≡ min most (length piece) = length-take most piece in
    let second : length (take (most - white) (drop white piece))
    ≡ min (most - white) (length (drop white piece)) =
    length-take (most - white) (drop white piece) in
    let all : length (take size (drop white piece)) ≡ min size (length (drop white piece)) =
    length-take size (drop white piece) in
    let front : take white (take most piece) ≡ take white piece =
    take-take white most piece (omega (arith, w, first)) in
    let back : take size (take (most - white) (drop white piece)) ≡ take size (drop white piece) =
    take-take size (most - white) (drop white piece) (omega (arith, s, second)) in
    let whole : take white piece ++ take size (drop white piece) ≡ take (white + size) piece =
    sym (take-add white size piece) in
    let more : 0 < size = let z = c.if-size-eq0.false in omega (arith, z) in
    let made = rw back at (c.in_ok-size.ensures.wrote more) in
    rw (← whole, made.is, c.in_ok-extend.ensures.ok, c.requires.empty)
    (front_gives g.H.Handler.count g.H.Handler.work c.requires.copies c.args.dialect
    c.args.handler.now c.give_front.new.handler c.requires.none (take size (drop white piece))
    made.given made.words made.unit (omega (arith, all, s, second, n)) made.gives
    (take white piece) (rw front at c.white_size-white.ensures.white))
