-- What a match gives to a rule, and its blanks.
use Rattle.std.specs.Prelude.{ℕ, List, [], ◌∷◌, map, Some, None}
use Rattle.std.specs.List.{flat_map}
use Rattle.ap_symbol.specs.declared.symbol.Symbol.{Symbol}
use Rattle.ap_stream.specs.declared.item.Inner.{Inner}
use Rattle.ap_stream.specs.declared.item.Inner.TheVariants as inner
use Rattle.ap_stream.specs.declared.item.Item.{Item}
use Rattle.ap_stream.specs.declared.item.Item.TheVariants.{Plain, Blank, Unit, Chunk}
use Rattle.ap_stream.specs.declared.item.Read.{Read}
use Rattle.ap_rules.specs.declared.rules.Form.{Form}
use Rattle.ap_rules.specs.declared.rules.Form.TheVariants.{Transfer, Interchunk, Postchunk}
use Rattle.ap_exec.specs.declared.matched.Matched.{Matched}
use Rattle.ap_exec.specs.declared.matched.MatchedUnit.{MatchedUnit}
use Rattle.ap_exec.specs.Acting.{shown}
use Rattle.ap_exec.specs.Units.{Shown}
use Rattle.ap_chunk.specs.Chunks.{first_words}
use Rattle.ap_chunk.specs.Parts.{word_of}

-- a unit of transfer: its first word and the whole of its second; further words aren't used
abbrev pub translated : List (List Symbol) → MatchedUnit
translated words = record {
  source = word_of 0 words;
  head = word_of 1 words;
  queue = [];
  content =
      [];
}

-- a word of a chunk in postchunk
abbrev pub worded : List Symbol → MatchedUnit
worded word = record { source = []; head = word; queue = []; content = [] }

-- a chunk of interchunk: its name with its tags, and what it holds
abbrev pub named : List Symbol → List Inner → MatchedUnit
named name content = record { source = []; head = name; queue = []; content = content }

-- what a rule sees of a unit with these words
abbrev pub Sees : Type 0
Sees = List (List Symbol) → MatchedUnit

abbrev pub seen_item : Sees → Item → List MatchedUnit
seen_item sees (Plain c) = []
seen_item sees (Blank bytes) = []
seen_item sees (Unit words) = sees words ∷ []
seen_item sees (Chunk c) = named c.name c.content ∷ []

-- the units of the items of a match
abbrev pub seen_items : Sees → List Read → List MatchedUnit
seen_items sees reads = flat_map (λ read. seen_item sees read.item) reads

abbrev pub matched_item : Item → List MatchedUnit
matched_item thing = seen_item translated thing

abbrev pub matched_items : List Read → List MatchedUnit
matched_items reads = seen_items translated reads

-- the same, each as a rule reads it
abbrev pub shown_items : List Read → List Shown
shown_items reads = flat_map (λ read. map shown (matched_item read.item)) reads

abbrev pub shown_word : List Symbol → Shown
shown_word word = shown (worded word)

-- the name of a chunk, with its tags
abbrev pub item_name : Item → List Symbol
item_name (Plain c) = []
item_name (Blank bytes) = []
item_name (Unit words) = []
item_name (Chunk c) = c.name

abbrev pub first_name : List Read → List Symbol
first_name [] = []
first_name (read ∷ reads) = item_name read.item

-- What a rule is run on: the units of the match; in postchunk, where a pattern has one item, its
-- chunk and the words of that.
abbrev pub matched_of : Form → List Read → Matched
matched_of Transfer reads = record { chunk = None; units = matched_items reads }
matched_of Interchunk reads = record { chunk = None; units = matched_items reads }
matched_of Postchunk reads = record {
  chunk = Some (first_name reads);
  units =
      map worded (first_words Postchunk reads);
}

abbrev pub inner_blanks : Inner → List (List ℕ)
inner_blanks (inner.Unit words) = []
inner_blanks (inner.Blank bytes) = bytes ∷ []

-- those inside a chunk too
abbrev pub item_blanks : Item → List (List ℕ)
item_blanks (Plain c) = []
item_blanks (Blank bytes) = bytes ∷ []
item_blanks (Unit words) = []
item_blanks (Chunk c) = flat_map inner_blanks c.content

-- the blanks of the items of a match, in order
abbrev pub blanks_of : List Read → List (List ℕ)
blanks_of reads = flat_map (λ read. item_blanks read.item) reads
