-- What the bytes are that are no whole piece yet, and what taking more of them means.
use Rattle.std.specs.Prelude.{◌≡◌, ℕ, ◌+◌, ◌<◌, ◌≤◌, List, [], ◌++◌, length, false, eqb, if◌then◌else◌}
use Rattle.ap_symbol.specs.Rendering.{is_escaped_lem}
use Rattle.ap_stream.specs.Chars.{Part, Char, char_at}
use Rattle.ap_stream.specs.Chars as chars
use Rattle.ap_stream.specs.Limits.{unit_max}
use Rattle.ap_stream.specs.Reading.{counted}
use Rattle.ap_stream.specs.Told.{Ending, behind, ends_in}
use Rattle.ap_stream.specs.declared.fault.StreamFault.{StreamFault}
use Rattle.ap_format.specs.declared.cutter.Begun.{Begun}
use Rattle.ap_format.specs.declared.cutter.Begun.TheVariants as begun
use Rattle.ap_format.specs.Pieces.{white_size}
use Rattle.ap_format.specs.Deformatted.{Uncut, des_from}

-- white space, and nothing else
abbrev pub IsWhite : List ℕ → Type 0
IsWhite bytes = white_size bytes ≡ length bytes

abbrev pub Stands : Begun → List ℕ → Type 0
Stands begun.Nothing held = held ≡ []
Stands begun.White held = IsWhite held × (0 < length held) × (length held + 2 ≤ unit_max)
Stands begun.Character held = (char_at held ≡ Part) × (0 < length held) × (length held ≤ 3)
Stands begun.NotChar held = (char_at held ≡ chars.NotChar) × (0 < length held)
    × (length held ≤ 4)
Stands begun.TooLong held = IsWhite held × (length held + 1 ≡ unit_max)

-- what white space of so many bytes is: a run, or too long to be an item with two brackets
abbrev pub kind_of_white : ℕ → Begun
kind_of_white size = if eqb (size + 1) unit_max then begun.TooLong else begun.White

-- however the text goes on, no piece comes before this fault
abbrev pub Stops : Uncut → StreamFault → Type 0
Stops uncut fault = (x : List ℕ) (e : Ending) → des_from uncut.place (uncut.bytes ++ x) e
    ≡ ends_in [] fault

-- however the text goes on behind these bytes, this comes first, and then what comes from there
abbrev pub Moves : Uncut → List ℕ → List ℕ → Uncut → Type 0
Moves old taken given new = (x : List ℕ) (e : Ending) →
    des_from old.place (old.bytes ++ (taken ++ x)) e
    ≡ behind given (des_from new.place (new.bytes ++ x) e)

-- these bytes were taken, and what comes first was written
pub record Cuts (old : Uncut) (taken before after : List ℕ) (new : Uncut) : Type 0 where
  pub given : List ℕ
  pub written : after ≡ before ++ given
  pub moves : Moves old taken given new
  pub held : length new.bytes ≤ length old.bytes + length taken

-- a run of white space was written, which no white space follows
pub record Closes (old : Uncut) (before after : List ℕ) (new : Uncut) : Type 0 where
  pub given : List ℕ
  pub written : after ≡ before ++ given
  pub empty : new.bytes ≡ []
  pub short : length given ≤ unit_max
  pub moves : (x : List ℕ) (e : Ending) → white_size x ≡ 0 → des_from old.place (old.bytes ++ x) e
      ≡ behind given (des_from new.place x e)

-- one whole character that is written as it is, and is no white space
pub record IsBare (bytes : List ℕ) : Type 0 where
  pub letter : ℕ
  pub whole : char_at bytes ≡ Char letter (length bytes)
  pub plain : is_escaped_lem letter ≡ false
  pub dark : white_size bytes ≡ 0

-- bytes that are written as they are, wherever they stand and whatever follows
abbrev pub AreCopied : List ℕ → Type 0
AreCopied bytes = (place : ℕ) (x : List ℕ) (e : Ending) → des_from place (bytes ++ x) e
    ≡ behind bytes (des_from (counted (place + length bytes)) x e)
