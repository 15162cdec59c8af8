use Rattle.std.proofs.Common.{◌≡◌, ◌++◌, take, true}
use Rattle.std.specs.List.{flat_map, list_all}
use Rattle.ap_binary.specs.Held.{is_held_edge}
use Rattle.ap_binary.specs.Text.{edge_text}
use Rattle.ap_binary.proofs.writing.put_edges.Given as goal

abbrev pub invariant-edges : goal.invariant-edges
invariant-edges l = record {
  text : l.into ≡ l.fn.into ++ flat_map edge_text (take l.edge-index l.edges);
  held : list_all is_held_edge (take l.edge-index l.edges) ≡ true;
}
