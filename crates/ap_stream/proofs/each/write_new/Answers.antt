use Rattle.std.proofs.Common.{◌≡◌, ◌∙◌, length, drop}
use Rattle.std.proofs.lemmas.List.{take_rest}
use Rattle.std.proofs.Math.Seq.{drop-append_seam}
use Rattle.ap_stream.proofs.each.write_new.Goals as goal

pub returns-clause-kept : goal.returns-clause-kept
returns-clause-kept g c =
    let given = g.W.UnitWriter.given c.write_unit.new.writer in
    let all = c.as_slice.ensures ∙ c.in_ok-write_unit.ensures.text (cc) in
    let text : drop (length c.as_slice-before.result.now) c.as_slice.result.now
    ≡ g.W.UnitWriter.given c.args.writer.now c.args.unit.now =
    rw (all, c.as_slice-before.ensures)
    (drop-append_seam c.args.into.now (g.W.UnitWriter.given c.args.writer.now c.args.unit.now)) in
    c.keep.ensures c.args.dialect given c.args.unit.now c.requires.unit
    (rw (take_rest, c.in_ok-write_unit.ensures.same) text) c.in_ok-write_unit.ensures.kept
