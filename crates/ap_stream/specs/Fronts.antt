-- Steps that a handler knows by the bytes at the front of a text, before they are items.
use Rattle.std.specs.Prelude.{◌≡◌, ℕ, ◌+◌, ◌<◌, ◌≤◌, List, [], ◌++◌, length, take, drop, Bool, false, None}
use Rattle.ap_stream.specs.Types.{Dialect}
use Rattle.ap_stream.specs.Items.{Read}
use Rattle.ap_stream.specs.Reading.{reads, counted}
use Rattle.ap_stream.specs.Rest.{worked}
use Rattle.ap_stream.specs.Seat.{Seat}
use Rattle.ap_stream.specs.Told.{Told, Ending, behind}

-- wherever these bytes stand and however the text goes on, so many of them are used, and give this
-- text
pub record GivesFront {H : Type 0} (work : H → List Read → Told) (dialect : Dialect) (h : H)
    (front : List ℕ) (used : ℕ) (given : List ℕ) : Type 0 where
  pub gives : (place : ℕ) → counted place ≡ place → (x : List ℕ) (e : Ending) →
      worked (work h) (reads dialect place (front ++ x)) e
      ≡ behind given
      (worked (work h) (reads dialect (counted (place + used)) (drop used front ++ x)) e)

-- of the first so many bytes of the piece so many are used, and they gave what was appended
pub record GaveFront {H : Type 0} (work : H → List Read → Told) (dialect : Dialect) (h : H)
    (piece : List ℕ) (used seen : ℕ) (before after : List ℕ) : Type 0 where
  pub some : 0 < used
  pub within : used ≤ seen
  pub most : seen ≤ length piece
  pub given : List ℕ
  pub is : after ≡ before ++ given
  pub gives : GivesFront work dialect h (take seen piece) used given

-- nothing is held or pending, at most one byte is begun, and items may come
pub record IsFresh {H : Type 0} (is_finished : H → Bool) (count held : H → ℕ) (seat : Seat H)
    : Type 0 where
  pub going : seat.fault ≡ None
  pub short : length seat.begun ≤ 1
  pub none : count seat.handler ≡ 0
  pub no_bytes : held seat.handler ≡ 0
  pub reading : is_finished seat.handler ≡ false
  pub empty : seat.pending ≡ []
