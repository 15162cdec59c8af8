use Rattle.std.proofs.Common.{◌<◌, length}
use Rattle.ap_stream.specs.Limits.{unit_max}
use Rattle.ap_stream.specs.UnitBytes.{unit_words}
use Rattle.ap_stream.proofs.EachLaws as laws
use Rattle.ap_stream.proofs.UnitWords.{words_are}
use Rattle.ap_stream.proofs.each.write_one.Goals as goal

pub returns-then-was_left-clause-long : goal.returns-then-was_left-clause-long
returns-then-was_left-clause-long g c = λ _.
    let given = g.W.UnitWriter.given c.args.writer.now in
    let long : unit_max < length (given c.in-Unit.unit) =
    rw (words_are c.args.dialect c.in-Some.key.now c.in-Unit.unit c.in-Some.ensures)
    at (c.was_left.ensures (λ q. given (unit_words c.args.dialect q)) c.requires.long
    c.if-was_left.true) in
    rw c.in-Unit.is (laws.unit_over given c.in-Unit.unit long)
