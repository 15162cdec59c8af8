use Rattle.std.proofs.lemmas.Bool.{ne_eqb}
use Rattle.ap_stream.proofs.SignLaws as laws
use Rattle.ap_stream.proofs.ChunkWalk as walk
use Rattle.ap_stream.proofs.chunks.symbol_size.Goals as goal

pub returns-then-first-eq92-clause-size : goal.returns-then-first-eq92-clause-size
returns-then-first-eq92-clause-size c =
    walk.symbol_escape c.args.bytes.now c.in-len1-up.len_at_least c.char_size.result
    c.if-first-eq92.true
    (rw (laws.slice_rest c.args.bytes.now 1) at c.char_size.ensures.size)

pub returns-then-first-eq60-clause-size : goal.returns-then-first-eq60-clause-size
returns-then-first-eq60-clause-size c =
    walk.symbol_tag c.args.bytes.now c.in-len1-up.len_at_least c.name_size.result
    c.if-first-eq60.true
    (rw (laws.slice_rest c.args.bytes.now 1) at c.name_size.ensures.size)

pub returns-in-empty-clause-size : goal.returns-in-empty-clause-size
returns-in-empty-clause-size c = walk.symbol_none c.args.bytes.now c.in-empty.len_below

pub returns-else-first-eq60-clause-size : goal.returns-else-first-eq60-clause-size
returns-else-first-eq60-clause-size c =
    walk.symbol_bare c.args.bytes.now c.in-len1-up.len_at_least c.char_size-in-len1-up.result
    (ne_eqb _ 92 c.if-first-eq92.false) (ne_eqb _ 60 c.if-first-eq60.false)
    c.char_size-in-len1-up.ensures.size
