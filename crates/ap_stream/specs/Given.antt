-- What a reader holds, and what it gives.
use Rattle.std.specs.Prelude.{◌≡◌, ◌≢◌, ℕ, ◌+◌, ◌-◌, ◌≤◌, List, ◌++◌, drop, take, length, Option, Bool, true, false}
use Rattle.ap_stream.specs.Types.{StreamFault, Malformed, Unfinished, Dialect}
use Rattle.ap_stream.specs.Items.{Read}
use Rattle.ap_stream.specs.declared.level.Level.{Level}
use Rattle.ap_stream.specs.Reading.{Reads, Needs, limited, reads, followed, size_of, stopped}
use Rattle.ap_stream.specs.Stands.{StandsIn, StoodIn}
use Rattle.ap_stream.specs.Limits.{item_max, unit_max}

-- its dialect, the bytes that it took of no whole item, the place of the first, whether it has
-- looked at the last of them, and the fault that it has answered
pub record Begun : Type 0 where
  pub dialect : Dialect
  pub held : List ℕ
  pub place : ℕ
  pub looked : Bool
  pub fault : Option StreamFault

-- the items of what is held and what comes
abbrev pub reads_of : Begun → List ℕ → Reads
reads_of begun x = reads begun.dialect begun.place (begun.held ++ x)

-- however the text goes on, the item comes first
pub record Gives (old : Begun) (item : Option Read) (new : Begun) : Type 0 where
  pub reads_on : (x : List ℕ) → reads_of old x ≡ followed item (reads_of new x)
  pub bytes : length new.held + size_of item ≡ length old.held

-- however the text goes on, no item comes before this fault
abbrev pub Stopped : StreamFault → Begun → Type 0
Stopped fault begun = (x : List ℕ) → reads_of begun x ≡ stopped fault

-- what is held is nothing, or the begin of an item that can still go on
abbrev pub CanGoOn : Begun → Type 0
CanGoOn begun = limited item_max begun.dialect begun.held ≡ Needs

-- before the last byte that is held, more was needed
abbrev pub NeededMore : Begun → Type 0
NeededMore begun = limited item_max begun.dialect (take (length begun.held - 1) begun.held) ≡ Needs

-- where a reader stands that has answered no fault
abbrev pub StandsAt : Dialect → Bool → Level → ℕ → List ℕ → Type 0
StandsAt dialect true at done held = StandsIn dialect at (take done held) (drop done held)
StandsAt dialect false at done held = StoodIn dialect at (take done held) (drop done held)

pub record Standing (dialect : Dialect) (looked : Bool) (at : Level) (done : ℕ)
    (held : List ℕ) : Type 0 where
  pub fits : done ≤ length held
  pub short : looked ≡ true → length held ≤ unit_max
  pub stands : StandsAt dialect looked at done held

-- a reader shows a fault: it holds what it held and some of the piece, up to the byte that shows
-- the fault, and however the text goes on, no item comes before the fault
pub record Shows (fault : StreamFault) (old : Begun) (piece : List ℕ) (new : Begun) : Type 0 where
  pub used : ℕ
  pub within : used ≤ length piece
  pub dialect : new.dialect ≡ old.dialect
  pub held : new.held ≡ old.held ++ take used piece
  pub place : new.place ≡ old.place
  pub stops : Stopped fault new
  pub seen : (place : ℕ) → fault ≢ Malformed Unfinished place
  pub needed : NeededMore new

-- however the text goes on, the item comes first
pub record Feeds (old : Begun) (used : List ℕ) (item : Option Read) (new : Begun) : Type 0 where
  pub reads_on : (x : List ℕ) → reads_of old (used ++ x) ≡ followed item (reads_of new x)
  pub bytes : length new.held + size_of item ≡ length old.held + length used

-- the last item, or none; no byte follows
pub record Ends (old : Begun) (item : Option Read) (new : Begun) : Type 0 where
  pub reads_end : reads old.dialect old.place old.held
      ≡ followed item (reads new.dialect new.place new.held)
  pub bytes : length new.held + size_of item ≡ length old.held
