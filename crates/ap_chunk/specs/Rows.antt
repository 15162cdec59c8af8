-- The row of a word as a unit: it is of those categories that take the word, and of no others.
use Rattle.std.specs.Prelude.{◌≡◌, ◌↔◌, ℕ, Bool, true, List, Some, slice_get}
use Rattle.ap_symbol.specs.declared.symbol.Symbol.{Symbol}
use Rattle.ap_stream.specs.declared.item.Item.{Item}
use Rattle.ap_stream.specs.declared.item.Item.TheVariants.{Unit as unit_item, Chunk as chunk_item}
use Rattle.ap_rules.specs.declared.rules.DefCat.{DefCat}
use Rattle.ap_rules.specs.declared.rules.Form.{Form}
use Rattle.ap_rules.specs.declared.rules.Form.TheVariants.{Transfer, Interchunk, Postchunk}
use Rattle.ap_rules.specs.declared.rules.Rules.{Rules}
use Rattle.ap_chunk.specs.Categories.{Takes}
use Rattle.ap_chunk.specs.Choice.{unit_of}
use Rattle.ap_chunk.specs.Parts.{unit, part_of, word_of}
use Rattle.ap_chunk.specs.Tests.{row_of}

-- there is a category of that number, and it takes the word
pub record NumberTakes (rules : Rules) (word : List Symbol) (n : ℕ) : Type 0 where
  pub category : DefCat
  pub at : slice_get rules.categories n ≡ Some category
  pub takes : Takes rules.form category word

abbrev pub RowsTell : Type 0
RowsTell = (rules : Rules) (word : List Symbol) (n : ℕ) → (unit_of (row_of rules word) n ≡ true)
    ↔ NumberTakes rules word n

-- the word by which an item is of a category: in transfer the source of a unit, in interchunk and
-- postchunk the name of a chunk
abbrev pub IsSeenBy : Form → Item → List Symbol → Type 0
IsSeenBy Transfer (unit_item words) word = word ≡ word_of 0 words
IsSeenBy Interchunk (chunk_item c) word = word ≡ c.name
IsSeenBy Postchunk (chunk_item c) word = word ≡ c.name
IsSeenBy _ _ word = ⊥

-- By these rules an item is a unit of a match where it is seen by a word, and then of those
-- categories that take this word.
abbrev pub TakesDecides : Rules → Type 0
TakesDecides rules = (item : Item) (word : List Symbol) → IsSeenBy rules.form item word →
    (test : ℕ → Bool) × (part_of rules item ≡ unit test)
    × ((n : ℕ) → (test n ≡ true) ↔ NumberTakes rules word n)

-- This holds of all rules.
abbrev pub UnitsTell : Type 0
UnitsTell = (rules : Rules) → TakesDecides rules
