-- The pieces of a plain text, and what stops it: each piece is a maximal run of white space, or a
-- character that is none. Places are in bytes.
use Rattle.std.specs.Prelude.{ℕ, zero, suc, ◌+◌, ◌-◌, pred, nat_lt, cond, if◌then◌else◌, List, [], ◌∷◌, take, Option, Some, None}
use Rattle.ap_stream.specs.Blanks.{is_white}
use Rattle.ap_stream.specs.Chars.{Front, Part, NotChar, Char, char_at}
use Rattle.ap_stream.specs.Limits.{unit_max}
use Rattle.ap_stream.specs.Reading.{counted}
use Rattle.ap_stream.specs.declared.fault.StreamFault.{StreamFault}
use Rattle.ap_stream.specs.declared.fault.StreamFault.TheVariants.{Malformed, Limit}
use Rattle.ap_stream.specs.declared.fault.MalformedKind.TheVariants.{NotUtf8, Unfinished}
use Rattle.ap_stream.specs.declared.fault.LimitKind.TheVariants.{ItemTooLong}

-- a run of white space, or a character
pub data Piece : Type 0 where
  Run : List ℕ → Piece
  Letter : ℕ → Piece

pub record Pieces : Type 0 where
  pub pieces : List Piece
  pub stop : Option StreamFault

abbrev pub nothing : Pieces
nothing = record { pieces = []; stop = None }

abbrev pub stopped : StreamFault → Pieces
stopped fault = record { pieces = []; stop = Some fault }

abbrev pub followed : Piece → Pieces → Pieces
followed piece more = record { pieces = piece ∷ more.pieces; stop = more.stop }

-- the most bytes of a run of white space: between brackets it is an item of the stream
unfoldable pub run_max : ℕ
run_max = unit_max - 2

-- how many bytes of white space stand at the front
unfoldable pub white_size : List ℕ → ℕ
white_size [] = 0
white_size (b ∷ bs) = cond (is_white b) (suc (white_size bs)) 0

-- a run of so many bytes at the front, and what stands behind it
abbrev pub of_run : ℕ → List ℕ → ℕ → (ℕ → ℕ → Pieces) → Pieces
of_run place bytes size more =
    if nat_lt run_max size then stopped (Limit ItemTooLong place)
    else followed (Run (take size bytes)) (more (counted (place + size)) (pred size))

-- a character at the front, where a text that ends in it is unfinished
abbrev pub of_char : ℕ → Front → (ℕ → ℕ → Pieces) → Pieces
of_char place Part more = stopped (Malformed Unfinished place)
of_char place NotChar more = stopped (Malformed NotUtf8 place)
of_char place (Char c size) more =
    followed (Letter c) (more (counted (place + size)) (pred size))

-- the pieces behind so many bytes
unfoldable pub cut : ℕ → ℕ → List ℕ → Pieces
cut place skip [] = nothing
cut place (suc skip) (b ∷ bs) = cut place skip bs
cut place zero (b ∷ bs) =
    cond (is_white b) (of_run place (b ∷ bs) (white_size (b ∷ bs)) (λ at skip. cut at skip bs))
    (of_char place (char_at (b ∷ bs)) (λ at skip. cut at skip bs))

-- the pieces of a text whose first byte has this place, and what stops it
unfoldable pub pieces_of : ℕ → List ℕ → Pieces
pieces_of place text = cut place 0 text
