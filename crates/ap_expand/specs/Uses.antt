use Rattle.std.specs.Prelude.{Bool, true, false, ◌||◌, ◌&&◌, if◌then◌else◌, List, [], ◌∷◌, ◌++◌, get_or}
use Rattle.ap_dix.specs.declared.dictionary.Entry.{Entry}
use Rattle.ap_dix.specs.declared.dictionary.EntryPart.{EntryPart}
use Rattle.ap_dix.specs.declared.dictionary.EntryPart.TheVariants.{Identity, Pair, Paradigm, Expression}
use Rattle.ap_dix.specs.declared.dictionary.Pardef.{Pardef}
use Rattle.ap_dix.specs.declared.dictionary.Side.{Side}
use Rattle.ap_dix.specs.declared.dictionary.Side.TheVariants.{LrOnly, RlOnly}
use Rattle.ap_expand.specs.declared.uses.Uses.{Uses}

-- What each way through something uses: an entry that is kept from left to right alone, and one that
-- is kept from right to left alone. A way that uses both writes no line.

abbrev pub is_lr : Side → Bool
is_lr LrOnly = true
is_lr _ = false

abbrev pub is_rl : Side → Bool
is_rl RlOnly = true
is_rl _ = false

abbrev pub both : Uses
both = record { lr = true; rl = true }

abbrev pub neither : Uses
neither = record { lr = false; rl = false }

-- what ways use that use the one thing and then the other
abbrev pub with_uses : Uses → Uses → Uses
with_uses a b = record { lr = a.lr || b.lr; rl = a.rl || b.rl }

-- what ways use that use the one thing or the other
abbrev pub shared_uses : Uses → Uses → Uses
shared_uses a b = record { lr = a.lr && b.lr; rl = a.rl && b.rl }

-- a part; the list is that of the paradigms
abbrev pub part_uses : List Uses → EntryPart → Uses
part_uses uses (Identity word) = neither
part_uses uses (Pair left right) = neither
part_uses uses (Paradigm n) = get_or uses n both
part_uses uses (Expression e text) = neither

abbrev pub parts_uses : List Uses → List EntryPart → Uses
parts_uses uses [] = neither
parts_uses uses (part ∷ parts) = with_uses (part_uses uses part) (parts_uses uses parts)

abbrev pub side_uses : Side → Uses
side_uses side = record { lr = is_lr side; rl = is_rl side }

abbrev pub entry_uses : List Uses → Entry → Uses
entry_uses uses entry = with_uses (side_uses entry.side) (parts_uses uses entry.parts)

-- ways through an entry more, unless it is ignored
abbrev pub with_entry_uses : List Uses → Uses → Entry → Uses
with_entry_uses uses made entry =
    if entry.ignored then made else shared_uses made (entry_uses uses entry)

-- some entries, of which there may be none
abbrev pub entries_uses : List Uses → List Entry → Uses
entries_uses uses [] = both
entries_uses uses (entry ∷ entries) =
    shared_uses (with_entry_uses uses both entry) (entries_uses uses entries)

-- the paradigms, those of the ones above being given
abbrev pub pardefs_uses : List Uses → List Pardef → List Uses
pardefs_uses above [] = above
pardefs_uses above (pardef ∷ pardefs) =
    pardefs_uses (above ++ entries_uses above pardef.entries ∷ []) pardefs

-- each way on through the entry uses both, where these were used before it
abbrev pub is_barren : List Uses → Bool → Bool → Entry → Bool
is_barren uses lr rl entry =
    (lr || (entry_uses uses entry).lr) && (rl || (entry_uses uses entry).rl)
