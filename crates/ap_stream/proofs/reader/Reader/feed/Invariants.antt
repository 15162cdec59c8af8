use Rattle.std.proofs.Common.{◌≡◌, ◌≤◌, ◌-◌, ◌++◌, take, length, true, None}
use Rattle.ap_stream.specs.Limits.{begun_max}
use Rattle.ap_stream.specs.Given.{CanGoOn}
use Rattle.ap_stream.proofs.reader.Reader.feed.Given as goal

abbrev pub invariant-loop-used : goal.invariant-loop-used
invariant-loop-used l = record {
  fits : l.used ≤ length l.piece;
  going : l.self.fault ≡ None;
  looked : l.self.looked ≡ true;
  dialect : l.self.dialect ≡ l.fn.self.dialect;
  begun : CanGoOn l.self;
  place : l.self.place ≡ l.fn.self.place;
  holds : length l.self.held ≤ begun_max;
  held : l.self.held ≡ l.fn.self.held ++ take l.used l.piece;
}

abbrev pub decreases-loop-used : goal.decreases-loop-used
decreases-loop-used l = length l.piece - l.used
