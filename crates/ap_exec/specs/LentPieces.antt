-- The piece that a lent piece stands for.
use Rattle.ap_exec.specs.declared.lent_template.PieceHeld.{PieceHeld}
use Rattle.ap_exec.specs.declared.lent_template.PieceHeld.TheVariants as held
use Rattle.ap_exec.specs.declared.template.Piece.{Piece}
use Rattle.ap_exec.specs.declared.template.Piece.TheVariants.{Atom as The_atom, Chunk}

abbrev pub piece_held : PieceHeld → Piece
piece_held (held.Atom a) = The_atom a
piece_held (held.Chunk name atoms) = Chunk name atoms
