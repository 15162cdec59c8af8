use Rattle.std.proofs.Common.{◌-◌, ◌∙◌, sym, arith}
use Rattle.std.proofs.lemmas.Option.{none-some}
use Rattle.ap_fst.proofs.Removals.{last_none, last_more, last_all}
use Rattle.ap_fst.proofs.removal.all_edges.Goals as goal

pub loop-back-init : goal.loop-back-init
loop-back-init c = record {
  rows = λ s r at. absurd (none-some r (sym (c.no_rows-rows.ensures s) ∙ at));
  edges = last_none c.args.moves.now c.args.arcs.now.finish c.args.leads.now c.args.kept.now
      c.new-edges.result.items c.new-edges.ensures.items;
}

pub loop-back-preserved : goal.loop-back-preserved
loop-back-preserved c = record {
  rows = c.in_ok-add_number.ensures.rows;
  edges = last_more c.args.moves.now c.args.arcs.now.finish c.args.leads.now c.args.kept.now
      c.loop-back.back (c.len.result - 1 - c.loop-back.back) c.loop-back.edges.items c.add_number.new.edges.items
      (omega arith) (omega arith) c.in_ok-add_number.ensures.edges c.loop-back.invariant.edges;
}

pub add_number-requires-clause-rows : goal.add_number-requires-clause-rows
add_number-requires-clause-rows c = c.loop-back.invariant.rows

pub returns : goal.returns
returns c = last_all c.args.moves.now c.args.arcs.now.finish c.args.leads.now c.args.kept.now
    c.loop-back.back c.loop-back.edges.items (omega arith) c.loop-back.invariant.edges
