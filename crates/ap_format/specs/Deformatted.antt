-- A plain text as a text of the stream: its characters are plain characters, and its white space is
-- kept in blanks.
use Rattle.std.specs.Prelude.{ℕ, eqb, Bool, false, if◌then◌else◌, List, [], ◌∷◌, ◌++◌, length, Option, Some, None}
use Rattle.std.specs.List.{flat_map}
use Rattle.ap_symbol.specs.Rendering.{letter_bytes}
use Rattle.ap_stream.specs.declared.fault.StreamFault.{StreamFault}
use Rattle.ap_stream.specs.Told.{Told, Ending, stop_at, rest_from}
use Rattle.ap_format.specs.Pieces.{Piece, Run, Letter, Pieces, pieces_of}

abbrev pub is_space : List ℕ → Bool
is_space [] = false
is_space (b ∷ []) = eqb b 32
is_space (b ∷ c ∷ bs) = false

-- a run of white space that is one space is itself; any other run stands in brackets
abbrev pub run_bytes : List ℕ → List ℕ
run_bytes run = if is_space run then run else 91 ∷ (run ++ 93 ∷ [])

-- a character that means something in the stream is written behind a backslash, and any other one
-- as itself
abbrev pub piece_bytes : Piece → List ℕ
piece_bytes (Run run) = run_bytes run
piece_bytes (Letter c) = letter_bytes c

-- the pieces are written, and then comes the stop; where the text was cut, it is no fault that a
-- character is unfinished
abbrev pub written : Pieces → Ending → Told
written cut ending =
    record { text = flat_map piece_bytes cut.pieces; fault = stop_at ending cut.stop }

-- a text whose first byte has this place
abbrev pub des_from : ℕ → List ℕ → Ending → Told
des_from place text ending = written (pieces_of place text) ending

-- a whole text
abbrev pub des_text : List ℕ → Ending → Told
des_text text ending = des_from 0 text ending

-- the bytes that were taken and are no whole piece yet, and the place of the first
pub record Uncut : Type 0 where
  pub bytes : List ℕ
  pub place : ℕ

-- the stage seen as data
pub record Deformatting : Type 0 where
  pub uncut : Uncut
  pub pending : List ℕ
  pub ended : Bool
  pub fault : Option StreamFault

-- the pieces of the text that still comes
abbrev pub coming_pieces : Deformatting → List ℕ → Pieces
coming_pieces stage x = pieces_of stage.uncut.place (stage.uncut.bytes ++ x)

-- their text, which has no fault of its own
abbrev pub made_of : Deformatting → List ℕ → Told
made_of stage x =
    record { text = flat_map piece_bytes (coming_pieces stage x).pieces; fault = None }

-- what is still to come where this text still comes
abbrev pub des_rest : Deformatting → List ℕ → Ending → Told
des_rest stage x ending =
    rest_from stage.fault stage.pending (coming_pieces stage x).stop (made_of stage x) ending

abbrev pub des_held_from : Option StreamFault → Deformatting → ℕ
des_held_from (Some fault) stage = 0
des_held_from None stage = length stage.uncut.bytes

-- the number of bytes that were taken and aren't answered
abbrev pub des_held : Deformatting → ℕ
des_held stage = des_held_from stage.fault stage
