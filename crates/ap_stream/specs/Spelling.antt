-- The bytes of an item, by the Apertium stream format. A unit or a chunk is written by the
-- rendering of its words.
use Rattle.std.specs.Prelude.{ℕ, List, [], ◌∷◌, ◌++◌, cond, encode_utf8}
use Rattle.std.specs.List.{flat_map}
use Rattle.ap_stream.specs.Types.{Symbol}
use Rattle.ap_symbol.specs.Rendering.{rendering}
use Rattle.ap_stream.specs.Items.{Character, Inner, Item}

-- a backslash before an escaped character
abbrev pub character_bytes : Character → List ℕ
character_bytes c = cond c.escaped (92 ∷ encode_utf8 c.letter) (encode_utf8 c.letter)

abbrev pub slashed : List Symbol → List ℕ
slashed word = 47 ∷ rendering word

-- words joined by slashes
abbrev pub joined : List (List Symbol) → List ℕ
joined [] = []
joined (word ∷ words) = rendering word ++ flat_map slashed words

abbrev pub unit_bytes : List (List Symbol) → List ℕ
unit_bytes words = 94 ∷ (joined words ++ 36 ∷ [])

abbrev pub inner_bytes : Inner → List ℕ
inner_bytes (Inner.Unit words) = unit_bytes words
inner_bytes (Inner.Blank bytes) = bytes

abbrev pub chunk_bytes : List Symbol → List Inner → List ℕ
chunk_bytes name content =
    94 ∷ (rendering name ++ (123 ∷ (flat_map inner_bytes content ++ 125 ∷ 36 ∷ [])))

abbrev pub spelled : Item → List ℕ
spelled (Item.Plain c) = character_bytes c
spelled (Item.Blank bytes) = bytes
spelled (Item.Unit words) = unit_bytes words
spelled (Item.Chunk c) = chunk_bytes c.name c.content
