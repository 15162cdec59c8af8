use Rattle.std.proofs.Common.{◌≡◌, take}
use Rattle.std.specs.List.{filter}
use Rattle.ap_symbol.specs.Kinds.{is_tag}
use Rattle.ap_chunk.proofs.chunks.tags_of.Given as goal

abbrev pub invariant-loop-symbol : goal.invariant-loop-symbol
invariant-loop-symbol l = l.made ≡ filter is_tag (take l.symbol-index l.word)
