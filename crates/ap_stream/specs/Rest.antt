-- What is still to come of a stage seen as data, and what is true of one that has answered no fault.
use Rattle.std.specs.Prelude.{ℕ, ◌+◌, List, [], ◌++◌, length, Option, Some, None, ◌≡◌, ◌≢◌, ◌*◌, ◌≤◌, Bool, true, false, cond}
use Rattle.ap_stream.specs.Types.{StreamFault, Malformed, Unfinished, Dialect}
use Rattle.ap_stream.specs.Items.{Read}
use Rattle.ap_stream.specs.Reading.{reads, Reads}
use Rattle.ap_stream.specs.Told.{Told, Ending, Clean, up_to, rest_from}
use Rattle.ap_stream.specs.Seat.{Seat}
use Rattle.ap_stream.specs.Limits.{begun_max, stage_max}
use Rattle.ap_stream.specs.Given.{Begun}

-- What a tool makes of a text that is read item by item: the text of whole items up to the first
-- that passes a limit, and that limit; where none does, up to where the input stops, and what stops
-- it. Where the text was cut, it is no fault that an item is unfinished.
abbrev pub worked : (List Read → Told) → Reads → Ending → Told
worked work read ending = up_to read.stop (work read.items) ending

-- what is read of the text that still comes
abbrev pub reads_of : {H : Type 0} → Seat H → List ℕ → Reads
reads_of seat x = reads seat.dialect seat.place (seat.begun ++ x)

abbrev pub rest_of : {H : Type 0} → (H → List Read → Told) → Seat H → List ℕ → Ending → Told
rest_of work seat x ending =
    rest_from seat.fault seat.pending (reads_of seat x).stop
    (work seat.handler (reads_of seat x).items) ending

-- the bytes that a stage took and hasn't answered
abbrev pub held_from : {H : Type 0} → Option StreamFault → (H → ℕ) → Seat H → ℕ
held_from (Some fault) held seat = 0
held_from None held seat = held seat.handler + length seat.begun

abbrev pub held_of : {H : Type 0} → (H → ℕ) → Seat H → ℕ
held_of held seat = held_from seat.fault held seat

-- no item comes any more, and this is the stop
abbrev pub only_stop : Option StreamFault → Reads
only_stop stop = record { items = []; stop = stop }

pub record Sound {H : Type 0} (is_finished : H → Bool) (held : H → ℕ) (dialect : H → Dialect)
    (handler : H) (reader : Begun) (finished : Bool) (stop : Option StreamFault)
    (ended : Bool) : Type 0 where
  pub agrees : is_finished handler ≡ finished
  pub reads_it : dialect handler ≡ reader.dialect
  pub bounded : held handler + length reader.held ≤ stage_max
  pub reader_bounded : length reader.held ≤ begun_max
  pub reading : finished ≡ false → reader.fault ≡ None
  pub unstopped : finished ≡ false → stop ≡ None
  pub at_end : finished ≡ true → reads reader.dialect reader.place reader.held ≡ only_stop stop
  pub at_stop : finished ≡ true → ended ≡ false → (x : List ℕ) →
      reads reader.dialect reader.place (reader.held ++ x) ≡ only_stop stop
  pub stopped : finished ≡ true → ended ≡ false → stop ≢ None
  pub seen : finished ≡ true → ended ≡ false → (place : ℕ) →
      stop ≢ Some (Malformed Unfinished place)

-- this text and this ending may still come
abbrev pub May : {H : Type 0} → Seat H → List ℕ → Ending → Type 0
May seat x ending = seat.ended ≡ true → (x ≡ []) × (ending ≡ Clean)

-- falls with each step over a piece of which so many bytes are left
abbrev pub measure : {H : Type 0} → (H → Bool) → (H → ℕ) → Seat H → ℕ → ℕ
measure finished held seat left =
    3 * left + 2 * length seat.begun + held seat.handler + cond (finished seat.handler) 0 1
