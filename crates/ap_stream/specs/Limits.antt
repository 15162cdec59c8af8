-- What bounds the stream. Each number stands at its constant alone.
use Rattle.std.specs.Prelude.{◌≡◌, ℕ, ◌+◌}
use Rattle.ap_stream.specs.declared.TheConstants.{UNIT_MAX, SPAN_MAX, ROOM_MAX}

-- the most bytes of an item, and of what is written for a unit
abbrev pub unit_max : ℕ
unit_max = UNIT_MAX

-- the most bytes of input that are held for one match
abbrev pub span_max : ℕ
span_max = SPAN_MAX

-- the most bytes that a pipe holds
abbrev pub room_max : ℕ
room_max = ROOM_MAX

-- the most bytes that a reader holds: those of an item, and the one that shows that it is too long
abbrev pub begun_max : ℕ
begun_max = UNIT_MAX + 1

-- the most bytes that a stage holds, and the most that are pending
abbrev pub stage_max : ℕ
stage_max = SPAN_MAX + UNIT_MAX + 2

-- the most bytes of an item, where it isn't to be counted down
unfoldable pub item_max : ℕ
item_max = UNIT_MAX

-- the numbers
abbrev pub LimitsAre : Type 0
LimitsAre = (UNIT_MAX ≡ 4194304) × (SPAN_MAX ≡ 16777216) × (ROOM_MAX ≡ 1048576)
