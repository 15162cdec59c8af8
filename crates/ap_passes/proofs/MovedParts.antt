-- A word whose invariable part is moved.
use Rattle.std.proofs.Common.{◌≡◌, ◌<◌, true, false, List, ◌++◌, length, take, drop}
use Rattle.std.specs.Prelude.{nat_lt}
use Rattle.std.proofs.lemmas.Bool.{cond-true, cond-false, and_parts, ltb-true}
use Rattle.ap_symbol.specs.declared.symbol.Symbol.{Symbol}
use Rattle.ap_passes.specs.Splitting.{between, tag_place, queue_place, part_end, invariable, is_moved, moved}

pub moved_places : (word : List Symbol) → is_moved word ≡ true → (tag_place word < queue_place word)
    × (queue_place word < length word)
moved_places word h =
    let p = and_parts (nat_lt (tag_place word) (queue_place word))
    (nat_lt (queue_place word) (length word)) h in (
      ltb-true (tag_place word) (queue_place word) p.0,
      ltb-true (queue_place word) (length word) p.1,
    )

pub moved_is : (word : List Symbol) → is_moved word ≡ true → moved word ≡ take (tag_place word) word
    ++ (invariable word ++ (between (tag_place word) (queue_place word) word
    ++ drop (part_end word) word))
moved_is word h = cond-true (is_moved word) (take (tag_place word) word
    ++ (invariable word ++ (between (tag_place word) (queue_place word) word
    ++ drop (part_end word) word))) word h

pub moved_not : (word : List Symbol) → is_moved word ≡ false → moved word ≡ word
moved_not word h = cond-false (is_moved word) (take (tag_place word) word
    ++ (invariable word ++ (between (tag_place word) (queue_place word) word
    ++ drop (part_end word) word))) word h
