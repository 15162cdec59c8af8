use Rattle.std.proofs.Common.{length, ◌-◌, ◌≡◌, ◌≤◌, List, [], drop}
use Rattle.ap_symbol.specs.declared.symbol.Symbol.{Symbol}
use Rattle.ap_stream.specs.declared.dialect.Dialect.TheVariants.{Lexical}
use Rattle.ap_stream.specs.Units.{rest, longer, form_of}
use Rattle.ap_stream.proofs.chunks.unit_size.Given as goal

abbrev pub invariant-loop-at : goal.invariant-loop-at
invariant-loop-at l = record {
  fits : l.at ≤ length l.bytes;
  on : (word : List Symbol) × (rest (form_of Lexical) [] [] 0 l.bytes
      ≡ longer l.at (rest (form_of Lexical) [] word 0 (drop l.at l.bytes)));
}

abbrev pub decreases-loop-at : goal.decreases-loop-at
decreases-loop-at l = length l.bytes - l.at
