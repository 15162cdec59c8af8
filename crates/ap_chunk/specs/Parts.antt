-- What items are in a match: a row of units with one blank at most between two of them.
use Rattle.std.specs.Prelude.{ℕ, zero, suc, Bool, true, false, List, [], ◌∷◌, ◌++◌, map, if◌then◌else◌}
use Rattle.std.specs.List.{list_any}
use Rattle.ap_symbol.specs.declared.symbol.Symbol.{Symbol}
use Rattle.ap_stream.specs.declared.item.Item.{Item}
use Rattle.ap_stream.specs.declared.item.Item.TheVariants.{Plain, Blank, Unit, Chunk}
use Rattle.ap_stream.specs.declared.item.Read.{Read}
use Rattle.ap_rules.specs.declared.rules.Form.{Form}
use Rattle.ap_rules.specs.declared.rules.Form.TheVariants.{Transfer, Interchunk, Postchunk}
use Rattle.ap_rules.specs.declared.rules.Rules.{Rules}
use Rattle.ap_chunk.specs.Choice.{unit_of, opens}
use Rattle.ap_chunk.specs.Live.{goes_on}
use Rattle.ap_chunk.specs.Tests.{row_of}

-- a unit as the test of its categories, a blank, or what no match holds
pub data Part : Type 0 where
  unit : (ℕ → Bool) → Part
  gap : Part
  wall : Part

-- the word at a place of a unit, counted from 0; the empty one where there is none
abbrev pub word_of : ℕ → List (List Symbol) → List Symbol
word_of n [] = []
word_of zero (word ∷ words) = word
word_of (suc n) (word ∷ words) = word_of n words

-- a unit of transfer, by its first word
abbrev pub unit_part : Rules → Form → List (List Symbol) → Part
unit_part rules Transfer words = unit (unit_of (row_of rules (word_of 0 words)))
unit_part rules Interchunk words = wall
unit_part rules Postchunk words = wall

-- in interchunk and postchunk a chunk is a unit, by its name
abbrev pub chunk_part : Rules → Form → List Symbol → Part
chunk_part rules Transfer name = wall
chunk_part rules Interchunk name = unit (unit_of (row_of rules name))
chunk_part rules Postchunk name = unit (unit_of (row_of rules name))

abbrev pub part_of : Rules → Item → Part
part_of rules (Plain c) = wall
part_of rules (Blank bytes) = gap
part_of rules (Unit words) = unit_part rules rules.form words
part_of rules (Chunk c) = chunk_part rules rules.form c.name

abbrev pub parts_of : Rules → List Read → List Part
parts_of rules reads = map (λ read. part_of rules read.item) reads

-- the units of the row at the front, where a blank may come first or not
abbrev pub units_in : Bool → List Part → List (ℕ → Bool)
units_in after [] = []
units_in after (unit u ∷ parts) = u ∷ units_in true parts
units_in true (gap ∷ parts) = units_in false parts
units_in false (gap ∷ parts) = []
units_in after (wall ∷ parts) = []

-- how many items the first so many units take, with the blanks between them
abbrev pub taken_by : ℕ → List Part → ℕ
taken_by zero parts = 0
taken_by (suc n) [] = 0
taken_by (suc n) (unit u ∷ parts) = suc (taken_by n parts)
taken_by (suc n) (gap ∷ parts) = suc (taken_by (suc n) parts)
taken_by (suc n) (wall ∷ parts) = suc (taken_by (suc n) parts)

-- the units fit the beginning of some pattern
abbrev pub some_opens : List (List ℕ) → List (ℕ → Bool) → Bool
some_opens patterns units = list_any (λ pattern. opens pattern units) patterns

-- and that pattern is longer
abbrev pub some_longer : List (List ℕ) → List (ℕ → Bool) → Bool
some_longer patterns units = list_any (λ pattern. goes_on pattern units) patterns

-- How many items more are seen together with those before, which hold these units, where a blank
-- may come next or not: a unit
-- while the units so far fit the beginning of a pattern, and one blank behind a unit while that
-- pattern is longer.
abbrev pub together : List (List ℕ) → List (ℕ → Bool) → Bool → List Part → ℕ
together patterns units after [] = 0
together patterns units after (unit u ∷ parts) = if some_opens patterns (units ++ u ∷ []) then suc
    (together patterns (units ++ u ∷ []) true parts) else 0
together patterns units true (gap ∷ parts) = if some_longer patterns units then suc
    (together patterns units false parts) else 0
together patterns units false (gap ∷ parts) = 0
together patterns units after (wall ∷ parts) = 0
