use Rattle.std.proofs.Common.{◌≡◌, ◌<◌, length, get_or, take, true, arith}
use Rattle.std.proofs.lemmas.Grind.{common_steps}
use Rattle.std.specs.Str.{bytes_eq}
use Rattle.ap_stream.proofs.KeptNames.{begins_with}
use Rattle.ap_stream.proofs.names.begins.Goals as goal

pub returns : goal.returns
returns c = λ e.
    let more : length c.args.name.now < length c.args.bytes.now = omega arith in
    let at : get_or c.args.bytes.now (length c.args.name.now) 0 ≡ 62 =
    grind (arith, common_steps) in
    let same : bytes_eq (take (length c.args.name.now) c.args.bytes.now) c.args.name.now ≡ true =
    grind (arith, common_steps) in
    begins_with c.args.bytes.now c.args.name.now more at same
