use Rattle.std.proofs.Common.{◌≡◌, ◌<◌, List, arith, length, true}
use Rattle.std.specs.List.{flat_map}
use Rattle.std.proofs.lemmas.List.Concat.{length-flat_map}
use Rattle.ap_symbol.specs.declared.symbol.Symbol.{Symbol}
use Rattle.ap_stream.specs.Limits.{unit_max}
use Rattle.ap_stream.specs.Spelling.{slashed}
use Rattle.ap_live.specs.Lexicon.{lexicon_of}
use Rattle.ap_live.specs.Readings.{parted_size}
use Rattle.ap_analysis.specs.Analysis.{readings_at}
use Rattle.ap_analysis.proofs.too_long.is_told_too_long.Goals as goal

pub returns : goal.returns
returns c = λ told.
    let readings : List (List Symbol) =
    readings_at (lexicon_of c.args.compiled.now c.args.sensitive) c.args.sensitive c.args.reads.now
    c.args.count in
    let is_told : c.are_told_longer.result ≡ true = cc in
    let over : unit_max < parted_size readings =
    c.are_told_longer.ensures is_told readings c.in_ok-words.ensures.some in
    let size : length (flat_map slashed readings) ≡ parted_size readings =
    length-flat_map slashed readings in
    let long : unit_max < length (flat_map slashed readings) = omega (arith, over, size) in
    long
