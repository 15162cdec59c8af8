-- What is still to come of a stage: a text, and a fault or none.
use Rattle.std.specs.Prelude.{ℕ, List, [], ◌++◌, Option, Some, None, ◌≡◌}
use Rattle.ap_stream.specs.Types.{StreamFault, Malformed, Unfinished}

pub record Told : Type 0 where
  pub text : List ℕ
  pub fault : Option StreamFault

-- how a text ends: it was whole, or its source failed and it was cut there
pub data Ending : Type 0 where
  Clean : Ending
  Cut : Ending

-- nothing is to come
abbrev pub silent : Told
silent = record { text = []; fault = None }

-- a text, and then this fault
abbrev pub ends_in : List ℕ → StreamFault → Told
ends_in text fault = record { text = text; fault = Some fault }

-- this text first
abbrev pub behind : List ℕ → Told → Told
behind text told = record { text = text ++ told.text; fault = told.fault }

-- the first of two faults
abbrev pub or_else : Option StreamFault → Option StreamFault → Option StreamFault
or_else None later = later
or_else (Some fault) later = Some fault

-- where the text was cut, it is no fault that an item is unfinished
abbrev pub cut_fault : StreamFault → Option StreamFault
cut_fault (Malformed Unfinished place) = None
cut_fault fault = Some fault

abbrev pub stop_at : Ending → Option StreamFault → Option StreamFault
stop_at Cut (Some fault) = cut_fault fault
stop_at ending stop = stop

-- a fault that is left where the text was cut
abbrev pub cut_option : Option StreamFault → Option StreamFault
cut_option None = None
cut_option (Some fault) = cut_fault fault

-- what is to come, where the text that comes has this ending
abbrev pub cut_told : Ending → Told → Told
cut_told Clean told = told
cut_told Cut told = record { text = told.text; fault = cut_option told.fault }

-- one list begins another
abbrev pub Begins : List ℕ → List ℕ → Type 0
Begins front whole = (more : List ℕ) × (whole ≡ front ++ more)

-- what is made of a text up to where it stops: its text, and the first fault, its own or the stop
abbrev pub up_to : Option StreamFault → Told → Ending → Told
up_to stop made ending =
    record { text = made.text; fault = or_else made.fault (stop_at ending stop) }

-- what is still to come: what is pending, and then the fault that was answered; where none was,
-- what is made of the text that still comes, up to its stop
abbrev pub rest_from : Option StreamFault → List ℕ → Option StreamFault → Told → Ending → Told
rest_from (Some fault) pending stop made ending = ends_in pending fault
rest_from None pending stop made ending = behind pending (up_to stop made ending)

-- it is still to come of a stage that answered this fault, or none, and has these bytes pending
pub record IsRest (fault : Option StreamFault) (pending : List ℕ) (rest : Ending → Told) : Type 0
  where
    pub stop : Option StreamFault
    pub made : Told
    pub is : (ending : Ending) → rest ending ≡ rest_from fault pending stop made ending
