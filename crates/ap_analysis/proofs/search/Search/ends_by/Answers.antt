use Rattle.std.proofs.Common.{◌≡◌, ap, sym, ◌∙◌, get_or, length, ◌<◌}
use Rattle.std.proofs.lemmas.Option.{get_or_from_slice_get, slice_get_within}
use Rattle.ap_stream.specs.declared.item.Read.{Read}
use Rattle.ap_analysis.specs.Items.{symbol_of}
use Rattle.ap_analysis.proofs.Stepped.{ended_here}
use Rattle.ap_analysis.proofs.search.Search.ends_by.Goals as goal

pub returns-then-is_at-clause-ends : goal.returns-then-is_at-clause-ends
returns-then-is_at-clause-ends c = λ _.
    let (read, (at, is)) = c.is_at.ensures c.if-is_at.true in
    let more : c.args.self.now.looked < length c.args.reads.now =
    slice_get_within c.args.reads.now c.args.self.now.looked read at in
    let there : get_or c.args.reads.now c.args.self.now.looked read ≡ read =
    get_or_from_slice_get c.args.reads.now c.args.self.now.looked read read at in
    ended_here c.args.compiled.now c.args.sensitive c.args.reads.now c.args.self.now.looked read
    c.requires.end.here more c.args.symbol.now
    (sym (ap (λ (z : Read). symbol_of z.item) there ∙ is)) c.requires.end
