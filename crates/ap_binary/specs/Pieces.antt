-- What stands on the lines of a compiled file, each read from the front: its value, and the bytes
-- behind it.
use Rattle.std.specs.Prelude.{◌≡◌, ◌<◌, ℕ, zero, suc, ◌+◌, ◌-◌, ◌*◌, ◌^◌, Bool, true, false, not, ◌&&◌, ◌||◌, nat_lt, nat_le, ◌==◌, List, [], ◌∷◌, ◌++◌, length, take, drop, slice_index, Option, Some, None, if◌then◌else◌, codes}
use Rattle.std.specs.List.{prefix_len}
use Rattle.std.specs.Str.{bytes_eq}
use Rattle.std.specs.Str.Lossy.{utf8_valid_len}
use Rattle.ap_symbol.specs.Alphabet.{is_closed}
use Rattle.ap_symbol.specs.TagNames.{is_tag_name, is_reserved_lem}
use Rattle.ap_symbol.specs.Words.{is_white}
use Rattle.ap_symbol.specs.declared.symbol.Symbol.{Symbol}
use Rattle.ap_symbol.specs.declared.symbol.Symbol.TheVariants.{Letter, Tag, Blank, Join, Queue, Alarm}
use Rattle.ap_fst.specs.Sides.{has_side}
use Rattle.ap_fst.specs.declared.compiled.Kind2.{Kind2}
use Rattle.ap_fst.specs.declared.compiled.Way.{Way}
use Rattle.ap_fst.specs.declared.compiled.Way.TheVariants.{Lr, Rl}
use Rattle.ap_fst.specs.declared.label.Edge.{Edge}
use Rattle.ap_fst.specs.declared.label.Label.{Label}
use Rattle.ap_binary.specs.Reading.{◌>>=◌}
use Rattle.ap_binary.specs.Text.{section_name}
use Rattle.ap_binary.specs.declared.heads.Head.{Head}

-- this byte
unfoldable pub byte_at : ℕ → List ℕ → Option (List ℕ)
byte_at b [] = None
byte_at b (c ∷ rest) = if c == b then Some rest else None

-- these bytes
unfoldable pub word_at : List ℕ → List ℕ → Option (List ℕ)
word_at word bytes = if bytes_eq (take (length word) bytes) word
    then Some (drop (length word) bytes) else None

-- the first of two words that stands there, by what it says
abbrev pub either_at : {A : Type 0} → A → A → Option (List ℕ) → Option (List ℕ) →
    Option (A × List ℕ)
either_at a b (Some rest) second = Some (a, rest)
either_at a b None (Some rest) = Some (b, rest)
either_at a b None None = None

-- the first line: whether it is `LTC2`, behind which the direction is told, or `LTC1`
unfoldable pub version_at : List ℕ → Option (Bool × List ℕ)
version_at text = either_at false true (word_at (codes "LTC1\n") text)
    (word_at (codes "LTC2\n") text)

-- the line of the direction
unfoldable pub way_at : List ℕ → Option (Way × List ℕ)
way_at bytes = either_at Lr Rl (word_at (codes "way lr\n") bytes) (word_at (codes "way rl\n") bytes)

abbrev pub is_digit : ℕ → Bool
is_digit b = nat_le 48 b && nat_le b 57

-- the number that these digits write behind those of n
abbrev pub value_after : ℕ → List ℕ → ℕ
value_after n [] = n
value_after n (d ∷ ds) = value_after (n * 10 + (d - 48)) ds

-- a digit at least, and no zero before others
abbrev pub is_numeral : List ℕ → Bool
is_numeral digits = nat_lt 0 (length digits)
    && (not (slice_index digits 0 == 48) || (length digits == 1))

-- a number as far as 64 bits hold it
abbrev pub limited : ℕ → Option ℕ
limited n = if nat_lt n (2 ^ 64) then Some n else None

-- A number; none in its place where it is over 2 ^ 64 - 1.
unfoldable pub number_at : List ℕ → Option (Option ℕ × List ℕ)
number_at bytes =
    if is_numeral (take (prefix_len is_digit bytes) bytes)
    then Some (
      limited (value_after 0 (take (prefix_len is_digit bytes) bytes)),
      drop (prefix_len is_digit bytes) bytes,
    )
    else None

-- the number that the digits at the front write, and how many they are
pub record IsShort (bytes : List ℕ) (value len : ℕ) : Type 0 where
  pub len_is : len ≡ prefix_len is_digit bytes
  pub value_is : value ≡ value_after 0 (take len bytes)
  pub small : value < 2 ^ 64

-- The number of a state. One over 2 ^ 64 - 1 is as good as that limit: neither is below a number of
-- states, and both are above each state.
abbrev pub state_of : Option ℕ → ℕ
state_of None = 2 ^ 64 - 1
state_of (Some n) = n

-- a code point, and no surrogate
abbrev pub is_character : ℕ → Bool
is_character c = nat_lt c 0xD800 || (nat_le 0xE000 c && nat_lt c 0x110000)

abbrev pub scalar_of : ℕ → Option ℕ
scalar_of c = if is_character c then Some c else None

abbrev pub unless_white : ℕ → Option ℕ
unless_white c = if is_white c then None else Some c

-- a number that is a character, and no white space
abbrev pub character_of : Option ℕ → Option ℕ
character_of None = None
character_of (Some n) = scalar_of n >>= unless_white

unfoldable pub character_at : List ℕ → Option (ℕ × List ℕ)
character_at bytes = do
  n ← number_at bytes
  c ← character_of n.0
  Some (c, n.1)

unfoldable pub letter_at : List ℕ → Option (Option Symbol × List ℕ)
letter_at bytes = do
  c ← character_at bytes
  Some (Some (Letter c.0), c.1)

abbrev pub is_utf8 : List ℕ → Bool
is_utf8 bytes = utf8_valid_len bytes == length bytes

abbrev pub is_name_byte : ℕ → Bool
is_name_byte b = not (is_reserved_lem b)

-- the name of a tag, in UTF-8
abbrev pub tag_of : List ℕ → Option Symbol
tag_of name = if is_utf8 name && is_tag_name name then Some (Tag name) else None

-- the tag whose name are the bytes up to the first that no name holds
unfoldable pub tag_at : List ℕ → Option (Option Symbol × List ℕ)
tag_at bytes = do
  tag ← tag_of (take (prefix_len is_name_byte bytes) bytes)
  Some (Some tag, drop (prefix_len is_name_byte bytes) bytes)

unfoldable pub side_at : List ℕ → Option (Option Symbol × List ℕ)
side_at [] = None
side_at (b ∷ rest) =
    if b == 45 then Some (None, rest)
    else if b == 76 then letter_at rest
    else if b == 84 then tag_at rest
    else if b == 66 then Some (Some Blank, rest)
    else if b == 74 then Some (Some Join, rest)
    else if b == 81 then Some (Some Queue, rest)
    else if b == 65 then Some (Some Alarm, rest)
    else None

abbrev pub label_of : Option Symbol → Option Symbol → Option Label
label_of left right = let label : Label = record { left = left; right = right } in if has_side label
    then Some label else None

-- two sides with a space between them, not both empty
unfoldable pub label_at : List ℕ → Option (Label × List ℕ)
label_at bytes = do
  left ← side_at bytes
  after ← byte_at 32 left.1
  right ← side_at after
  label ← label_of left.0 right.0
  Some (label, right.1)

-- a number and the space behind it, or the end of the line
unfoldable pub number_then : ℕ → List ℕ → Option (Option ℕ × List ℕ)
number_then b bytes = do
  n ← number_at bytes
  rest ← byte_at b n.1
  Some (n.0, rest)

-- the line of an edge
unfoldable pub edge_at : List ℕ → Option (Edge × List ℕ)
edge_at bytes = do
  from ← number_then 32 bytes
  label ← label_at from.1
  after ← byte_at 32 label.1
  to ← number_then 10 after
  Some (record { from = state_of from.0; label = label.0; to = state_of to.0 }, to.1)

-- the line of a final state
unfoldable pub final_at : List ℕ → Option (ℕ × List ℕ)
final_at bytes = do
  n ← number_then 10 bytes
  Some (state_of n.0, n.1)

-- what stands before the numbers on the first line of a section of a kind
unfoldable pub kind_at : Kind2 → List ℕ → Option (List ℕ)
kind_at kind bytes = do
  word ← word_at (codes "section ") bytes
  name ← word_at (section_name kind) word
  byte_at 32 name

-- the first line of a section of a kind
unfoldable pub head_at : Kind2 → List ℕ → Option (Head × List ℕ)
head_at kind bytes = do
  name ← kind_at kind bytes
  states ← number_then 32 name
  edges ← number_then 32 states.1
  finals ← number_then 10 edges.1
  Some (record { states = states.0; edges = edges.0; finals = finals.0 }, finals.1)

abbrev pub begins_with : ℕ → List ℕ → Bool
begins_with b [] = false
begins_with b (c ∷ rest) = c == b

-- a space and a letter that is no less than this
unfoldable pub next_letter_at : ℕ → List ℕ → Option (ℕ × List ℕ)
next_letter_at least bytes = do
  rest ← byte_at 32 bytes
  c ← character_at rest
  if nat_le least c.0 then Some c else None

abbrev pub with_letters : List ℕ → Option (List ℕ × List ℕ) → Option (List ℕ × List ℕ)
with_letters front read = read >>= λ x. Some (front ++ x.0, x.1)

-- At most so many letters, ascending, the first of them no less than this.
unfoldable pub letters_in : ℕ → ℕ → List ℕ → Option (List ℕ × List ℕ)
letters_in zero least bytes = Some ([], bytes)
letters_in (suc n) least bytes =
    if begins_with 32 bytes then
    (next_letter_at least bytes >>= λ c. with_letters (c.0 ∷ []) (letters_in n (c.0 + 1) c.1))
    else Some ([], bytes)

-- The line of the alphabet: ascending letters, closed under case partners. Each takes a byte, so
-- that there are no more than bytes.
unfoldable pub alphabet_at : List ℕ → Option (List ℕ × List ℕ)
alphabet_at bytes = do
  word ← word_at (codes "alphabet") bytes
  letters ← letters_in (length word) 0 word
  rest ← byte_at 10 letters.1
  if is_closed letters.0 then Some (letters.0, rest) else None
