-- Bytes of which each is read as an item, however the text goes on.
use Rattle.std.specs.Prelude.{ℕ, ◌+◌, Bool, true, false, ◌&&◌, ◌||◌, nat_lt, List, [], ◌∷◌, if◌then◌else◌}
use Rattle.ap_stream.specs.Blanks.{is_white}
use Rattle.ap_stream.specs.Copying.{is_common}
use Rattle.ap_stream.specs.Reading.{counted, read_at}
use Rattle.ap_stream.specs.Items.{Item, Read}

-- an ASCII character that no dialect refuses, with which no item but itself begins, and to which no
-- tool gives a meaning
abbrev pub plain_byte : ℕ → Bool
plain_byte b = nat_lt b 128 && is_common b

-- such a character stands first
abbrev pub plain_first : List ℕ → Bool
plain_first [] = false
plain_first (b ∷ bytes) = plain_byte b

-- each byte is such a character, or white space before one
abbrev pub bare_run : List ℕ → Bool
bare_run [] = true
bare_run (b ∷ bytes) = (plain_byte b || (is_white b && plain_first bytes)) && bare_run bytes

-- such a byte as an item
abbrev pub bare_item : ℕ → Item
bare_item b = if is_white b then Item.Blank (b ∷ [])
    else Item.Plain (record { letter = b; escaped = false })

-- such bytes as items, the first of which stands at this place
abbrev pub bare_items : ℕ → List ℕ → List Read
bare_items place [] = []
bare_items place (b ∷ bytes) = read_at place (bare_item b) 1
    ∷ bare_items (counted (place + 1)) bytes
