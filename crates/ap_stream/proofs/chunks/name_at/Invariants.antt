use Rattle.std.proofs.Common.{length, ◌-◌, ◌≡◌, ◌≤◌, [], drop}
use Rattle.ap_stream.specs.declared.dialect.Dialect.TheVariants.{Chunked}
use Rattle.ap_stream.specs.Units.{rest, longer, form_of}
use Rattle.ap_stream.proofs.chunks.name_at.Given as goal

abbrev pub invariant-loop-at : goal.invariant-loop-at
invariant-loop-at l = record {
  begun : 1 ≤ l.at;
  fits : l.at ≤ length l.held;
  on : rest (form_of Chunked) [] [] 0 (drop 1 l.held)
      ≡ longer (l.at - 1) (rest (form_of Chunked) [] l.name 0 (drop l.at l.held));
}

abbrev pub decreases-loop-at : goal.decreases-loop-at
decreases-loop-at l = length l.held - l.at
