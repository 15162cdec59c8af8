use Rattle.ap_stream.proofs.ItemFronts.{front_short}
use Rattle.ap_analysis.specs.Items.{symbol_of}
use Rattle.ap_analysis.proofs.Surfaces.{small_seen, word_seen}
use Rattle.ap_analysis.proofs.surface.read_seen.Goals as goal

pub returns-then-begins_small : goal.returns-then-begins_small
returns-then-begins_small c = small_seen c.args.piece.now c.args.reads.now c.args.count
    c.args.seen.now c.requires.within (front_short symbol_of c.args.reads.now) c.requires.read
    (c.begins_small.ensures.within c.if-begins_small.true)
    (c.begins_small.ensures.small c.if-begins_small.true)

pub returns : goal.returns
returns c = word_seen c.args.piece.now c.args.reads.now c.args.count c.read_surface.new.word
    c.in_ok-read_surface.ensures
