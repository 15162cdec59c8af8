use Rattle.std.proofs.Common.{◌∙◌, ap, List, ℕ, string_bytes}
use Rattle.ap_outside.specs.declared.mem_file.MemFile.{MemFile}
use Rattle.ap_outside.proofs.Places.{rewritten, places_stay, name_at}
use Rattle.ap_outside.proofs.mem_file.rewrite.Goals as goal

pub returns-clause-contents : goal.returns-clause-contents
returns-clause-contents c =
    let named : MemFile → List ℕ = λ file. string_bytes file.name in
    rewritten c.args.files.now.items c.args.at _ c.args.name.now c.requires
    (ap named c.index_mut.ensures.value
    ∙ name_at c.args.files.now.items c.args.at c.index_mut.result.now
    c.args.name.now c.requires)

pub returns-clause-places : goal.returns-clause-places
returns-clause-places c =
    let named : MemFile → List ℕ = λ file. string_bytes file.name in
    places_stay c.args.files.now.items c.args.at _ c.index_mut.result.now
    (ap named c.index_mut.ensures.value)
