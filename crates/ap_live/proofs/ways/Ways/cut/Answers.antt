use Rattle.std.proofs.Common.{inl, inr}
use Rattle.ap_live.proofs.Heads.{none_of}
use Rattle.ap_live.proofs.LiveLaws.{before_cut, by_rows, cut_back}
use Rattle.ap_live.proofs.ways.Ways.cut.Goals.{then-is_none-via-then-is_none, then-is_none-via-else-is_none+then-has_inputs}
use Rattle.ap_live.proofs.ways.Ways.cut.Goals as goal

pub returns-then-is_none : goal.returns-then-is_none
returns-then-is_none c = λ m seen held.
    cut_back m seen c.args.len c.args.self.now.trail c.args.self.now.rows c.cut_trail.new.self
    (λ t e s is. c.cut_trail.ensures m s t e is)
    (elim c.then-is_none.branch [
      | then-is_none-via-then-is_none w ↦
          inl (none_of c.args.self.now.rows w.if-is_none.ensures)
      | then-is_none-via-else-is_none+then-has_inputs w ↦
          inr (
            w.has_inputs.ensures.yes w.if-has_inputs.true,
            w.has_inputs.ensures.some w.if-has_inputs.true,
          )
    ]) held

pub returns-in-Some : goal.returns-in-Some
returns-in-Some c = λ m seen held.
    let both = by_rows m seen c.args.self.now c.in-Some.rows c.in-Some.is held in (
      c.cut.ensures m seen both.0,
      before_cut m seen c.args.len c.args.self.now.trail
          (c.has_inputs.ensures.no c.if-has_inputs.false) both.1,
    )
