use Rattle.std.specs.Option.{option_copied}
use Rattle.ap_trim.proofs.Adding.{span_leaves}
use Rattle.ap_trim.proofs.reading.add_by.Goals as goal

pub returns : goal.returns
returns c = span_leaves c.args.fst.now c.edges.result.now c.args.state (option_copied c.args.left)
    c.span_by-low.result.0 c.span_by-low.result.1 c.args.targets.now.items
    c.add_span.new.targets.items c.edges.ensures.value c.span_by-low.ensures.span
    c.in_ok-add_span.ensures
