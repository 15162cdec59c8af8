use Rattle.std.proofs.Common.{◌≡◌, ◌++◌, drop, List, map}
use Rattle.ap_rules.specs.Views.{plain_chunk_piece}
use Rattle.ap_exec.specs.declared.template.Atom.{Atom}
use Rattle.ap_exec.specs.Pieces.{chunk_pieces_of}
use Rattle.ap_exec.specs.Results.{seen}
use Rattle.ap_exec.specs.States.{sight}
use Rattle.ap_exec.proofs.pieces.chunk_pieces_of.Given as goal

abbrev pub invariant-pieces : goal.invariant-pieces
invariant-pieces l = seen (λ (w : List Atom). l.made ++ w)
    (chunk_pieces_of (sight l.view) (map plain_chunk_piece (drop l.piece-index l.pieces)))
    ≡ chunk_pieces_of (sight l.view) (map plain_chunk_piece l.pieces)
