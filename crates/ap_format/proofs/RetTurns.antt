-- What an item gives has no more bytes than were read.
use Rattle.std.specs.Prelude.{ℕ, ◌≤◌, Bool, true, false, cond, List, [], ◌∷◌, length, refl, encode_utf8}
use Rattle.std.proofs.Common.{arith}
use Rattle.ap_stream.specs.Limits.{unit_max}
use Rattle.ap_stream.specs.declared.dialect.Dialect.TheVariants.{Generated}
use Rattle.ap_stream.specs.declared.item.Item.{Item}
use Rattle.ap_stream.specs.declared.item.Item.TheVariants as item
use Rattle.ap_stream.specs.declared.item.Read.{Read}
use Rattle.ap_stream.specs.Reading.{IsRead}
use Rattle.ap_stream.specs.Spelling.{spelled}
use Rattle.ap_stream.proofs.Spells.{spelled_size}
use Rattle.ap_format.specs.declared.blanks.Spot.{Spot}
use Rattle.ap_format.specs.declared.blanks.Spot.TheVariants.{Outside}
use Rattle.ap_format.specs.Reformatted.{bare_blank, bare_item, is_kept, next_spot}

pub bare_short : (at : Spot) (bytes : List ℕ) → length (bare_blank at bytes) ≤ length bytes
unfolding bare_blank
bare_short at [] = omega arith
bare_short at (b ∷ bs) = by (is_kept at b) (bare_short (next_spot at b) bs)
  where
    by : (v : Bool) → length (bare_blank (next_spot at b) bs) ≤ length bs →
        length (cond v (b ∷ bare_blank (next_spot at b) bs) (bare_blank (next_spot at b) bs))
        ≤ length (b ∷ bs)
    by true short = omega (arith, short)
    by false short = omega (arith, short)

letter_short : (v : Bool) (bytes : List ℕ) → length bytes ≤ length (cond v (92 ∷ bytes) bytes)
letter_short true bytes = omega arith
letter_short false bytes = omega arith

item_short : (thing : Item) → length (bare_item thing) ≤ length (spelled thing)
item_short (item.Plain c) = letter_short c.escaped (encode_utf8 c.letter)
item_short (item.Blank bytes) = bare_short Outside bytes
item_short (item.Unit words) = omega arith
item_short (item.Chunk c) = omega arith

pub bare_fits : (read : Read) → IsRead Generated read → length (bare_item read.item) ≤ unit_max
bare_fits read h =
    let a = item_short read.item in
    let b = spelled_size Generated read refl h in
    let c = h.short in
    omega (arith, a, b, c)
