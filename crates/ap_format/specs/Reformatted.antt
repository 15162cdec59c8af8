-- A text of the stream as a plain text: its characters without their escapes, and its blanks
-- without the brackets of their superblanks.
use Rattle.std.specs.Prelude.{ℕ, eqb, Bool, true, not, ◌||◌, if◌then◌else◌, List, [], ◌∷◌, ◌++◌, Option, encode_utf8}
use Rattle.ap_stream.specs.Each.{held_items}
use Rattle.ap_stream.specs.Reading.{reads}
use Rattle.ap_stream.specs.Rest.{worked}
use Rattle.ap_stream.specs.Told.{Told, Ending, silent, behind}
use Rattle.ap_stream.specs.declared.dialect.Dialect.TheVariants.{Generated}
use Rattle.ap_stream.specs.declared.item.Item.{Item}
use Rattle.ap_stream.specs.declared.item.Item.TheVariants.{Plain, Blank, Unit, Chunk}
use Rattle.ap_stream.specs.declared.item.Read.{Read}
use Rattle.ap_format.specs.declared.blanks.Spot.{Spot}
use Rattle.ap_format.specs.declared.blanks.Spot.TheVariants.{Outside, Inside, Escaped}

-- outside a superblank a bracket begins one; in one a bare bracket ends it, and a bare backslash
-- escapes the next byte
abbrev pub next_spot : Spot → ℕ → Spot
next_spot Outside b = if eqb b 91 then Inside else Outside
next_spot Inside b = if eqb b 93 then Outside else (if eqb b 92 then Escaped else Inside)
next_spot Escaped b = Inside

-- these brackets and backslashes aren't kept
abbrev pub is_kept : Spot → ℕ → Bool
is_kept Outside b = not (eqb b 91)
is_kept Inside b = not (eqb b 93 || eqb b 92)
is_kept Escaped b = true

-- The bytes of a blank without the bracket that begins each superblank and the one that ends it,
-- and without the backslash before each character that is escaped in one. Brackets and backslashes
-- are bytes of their own, so that the bytes of every other character are kept.
unfoldable pub bare_blank : Spot → List ℕ → List ℕ
bare_blank at [] = []
bare_blank at (b ∷ bs) = if is_kept at b then b ∷ bare_blank (next_spot at b) bs
    else bare_blank (next_spot at b) bs

-- What is written for an item: a character without its escape, and a blank so. A generated text has
-- no units and no chunks.
abbrev pub bare_item : Item → List ℕ
bare_item (Plain c) = encode_utf8 c.letter
bare_item (Blank bytes) = bare_blank Outside bytes
bare_item (Unit words) = []
bare_item (Chunk c) = []

-- each item by itself
abbrev pub bare_items : List Read → Told
bare_items [] = silent
bare_items (read ∷ reads) = behind (bare_item read.item) (bare_items reads)

-- a generated text as a plain text
abbrev pub ret_text : List ℕ → Ending → Told
ret_text text ending = worked bare_items (reads Generated 0 text) ending

-- what is seen of the work: the item that it holds, and whether it is the last
pub record Reformatting : Type 0 where
  pub item : Option Read
  pub finished : Bool

-- what is still to come where these items still come
abbrev pub ret_work : Reformatting → List Read → Told
ret_work h xs = bare_items (held_items h.item ++ xs)
