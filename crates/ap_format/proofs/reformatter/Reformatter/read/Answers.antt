use Rattle.std.proofs.Common.{ap, arith, length, length-append, refl, ◌≡◌, ◌∙◌, ◌-◌, None}
use Rattle.ap_stream.specs.Given.{Shows}
use Rattle.ap_stream.specs.Reading.{IsRead}
use Rattle.ap_stream.specs.declared.dialect.Dialect.TheVariants.{Generated}
use Rattle.ap_format.specs.Giving.{Unread}
use Rattle.ap_format.specs.Reformatted.{bare_item}
use Rattle.ap_format.proofs.RetTurns.{bare_fits}
use Rattle.ap_format.proofs.Taken.{sound_stop, stop_falls, stop_fits, stops_there, takes_item, takes_more, takes_stop}
use Rattle.ap_format.proofs.reformatter.Reformatter.read.Goals as goal
use Rattle.ap_format.proofs.reformatter.Reformatter.read.Goals.{Joined-read, After-begun}

-- the item that was read
is_read : (c : Joined-read) → IsRead Generated c.in-Some.read
is_read c = rw (c.in-Some.is, c.self.invariant.0) at c.in-Ok.ensures.item

pub returns-in-None-clause-takes : goal.returns-in-None-clause-takes
returns-in-None-clause-takes c =
    rw (← c.self.view_is)
    (takes_more c.self.inside.passed c.self.inside.reader c.feed.new.self c.self.inside.stop
    c.self.inside.stop c.self.invariant.0 c.feed.ensures.dialect _ _
    (rw c.in-None.is at c.in-Ok.ensures.given))

pub returns-in-Ok-write_bare-clause-takes : goal.returns-in-Ok-write_bare-clause-takes
returns-in-Ok-write_bare-clause-takes c =
    rw (← c.self.view_is)
    (takes_item c.self.inside.passed c.self.inside.reader c.feed.new.self c.self.inside.stop
    c.self.inside.stop c.self.invariant.0 c.feed.ensures.dialect _ _ _ c.in-Some.read
    (rw c.in-Some.is at c.in-Ok.ensures.given) c.in-Ok-write_bare.ensures.ok (is_read c).some)

pub returns-in-Ok-write_bare-clause-short : goal.returns-in-Ok-write_bare-clause-short
returns-in-Ok-write_bare-clause-short c =
    let size = ap length c.in-Ok-write_bare.ensures.ok
    ∙ length-append c.args.out.now (bare_item c.in-Some.read.item) in
    let fits = bare_fits c.in-Some.read (is_read c) in
    omega (arith, size, fits)

-- it stopped

going : (c : After-begun) → c.self.inside.stop ≡ None
going c = ap (λ (u : Unread). u.stop) c.self.view_is ∙ c.requires.going

shown : (c : After-begun) →
    Shows c.in-Err.fault c.self.inside.reader c.args.piece.now c.feed.new.self
shown c = c.in-Err.ensures.shown (c.self.invariant.1 (going c)) c.in_default.not-Memory

used : (c : After-begun) → c.begun.result - c.begun-before.result
    ≡ length c.feed.new.self.held - length c.self.inside.reader.held
used c = omega (arith, c.begun.ensures.count, c.begun-before.ensures.count)

pub returns : goal.returns
returns c = record {
  count = stop_fits c.self.inside.passed c.self.inside.reader c.feed.new.self c.args.piece.now
      c.in-Err.fault c.self.invariant.0 (shown c) _ (used c);
  takes = rw (← c.self.view_is)
      (takes_stop c.self.inside.passed c.self.inside.reader c.feed.new.self c.args.piece.now
      c.in-Err.fault c.self.invariant.0 (shown c) _ _ _ _ (used c));
  sound = sound_stop _ _ _ c.moved.ensures
      (stops_there c.self.inside.passed c.self.inside.reader c.feed.new.self c.args.piece.now
      c.in-Err.fault c.self.invariant.0 (shown c) _) refl;
  falls = rw (← c.self.view_is)
      (stop_falls c.self.inside.passed c.self.inside.reader c.feed.new.self c.args.piece.now
      c.in-Err.fault c.self.invariant.0 (shown c) _ c.moved.result _ (going c) (used c));
  short = omega arith;
  most = c.feed.ensures.holds;
}
