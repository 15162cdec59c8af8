use Rattle.std.proofs.lemmas.Result.{err_from_is_err_and}
use Rattle.ap_fst.specs.Sections.{Parts}
use Rattle.ap_binary.specs.declared.file.File.{File}
use Rattle.ap_binary.proofs.Trimmed.{spelled_is_compiled, spells_by, section_refused}
use Rattle.ap_binary.proofs.reading.read_compiled.Goals as goal

pub returns-in_err-made-clause-fault : goal.returns-in_err-made-clause-fault
returns-in_err-made-clause-fault c =
    let p = err_from_is_err_and c.from_residual-in_err-made.result
    c.from_residual-in_err-made.ensures.1 in
    rw (p.1, p.2) (section_refused c.args.text.now c.in_ok-way.field-0 c.in_err-made.field-0.0
    c.in_ok-way.ensures.gives c.in_err-made.ensures.fault)

pub new-requires : goal.new-requires
new-requires c =
    let file : File = c.in_ok-way.field-0 in
    let t = c.in_ok-made.made in
    let p : Parts = record {
      alphabet = file.alphabet;
      way = file.way;
      standard =
          t.standard;
      inconditional = t.inconditional;
      postblank = t.postblank;
      preblank =
          t.preblank;
    } in
    spelled_is_compiled c.args.text.now p
    (spells_by c.args.text.now file t c.in_ok-way.ensures.gives c.in_ok-made.ensures.spelled)
