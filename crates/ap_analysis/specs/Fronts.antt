-- Of the inside: no public contract stands on this file.
-- Steps that are known by the bytes at the front of a text, each of which is an item by itself.
use Rattle.std.specs.Prelude.{◌≡◌, ℕ, ◌<◌, ◌≤◌, Bool, true, List, ◌++◌, map, length, take}
use Rattle.ap_stream.specs.Bare.{bare_item, bare_items, bare_run}
use Rattle.ap_stream.specs.declared.item.Read.{Read}
use Rattle.ap_live.specs.Lexicon.{Lexicon}
use Rattle.ap_analysis.specs.Entries.{IsStep}
use Rattle.ap_analysis.specs.Kept.{mark_of}

-- the marks of such bytes
abbrev pub byte_marks : List ℕ → List ℕ
byte_marks bytes = map (λ b. mark_of (bare_item b)) bytes

-- such a byte as an item of a text of its own, and such bytes
abbrev pub byte_read : ℕ → Read
byte_read b = record { item = bare_item b; place = 0; size = 1 }

abbrev pub byte_reads : List ℕ → List Read
byte_reads bytes = map byte_read bytes

-- so many bytes of the piece are read, which are few
pub record AreRead (piece : List ℕ) (reads : List Read) : Type 0 where
  pub most : length reads ≤ length piece
  pub few : length reads ≤ 256
  pub are : reads ≡ byte_reads (take (length reads) piece)

-- the first so many bytes of the piece are items, which decide a step that uses so many of them and
-- gives what was appended
pub record IsFront (lexicon : Lexicon) (sensitive : Bool) (piece : List ℕ) (used seen : ℕ)
    (before after : List ℕ) : Type 0 where
  pub some : 0 < used
  pub within : used ≤ seen
  pub most : seen ≤ length piece
  pub bare : bare_run (take seen piece) ≡ true
  pub text : List ℕ
  pub is : after ≡ before ++ text
  pub step : (place : ℕ) → IsStep lexicon sensitive (bare_items place (take seen piece)) used text
