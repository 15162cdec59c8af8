-- The words of a chunk as postchunk reads them, and what is written for its content.
use Rattle.std.specs.Prelude.{ℕ, zero, suc, ◌+◌, ◌-◌, ◌*◌, nat_le, Bool, true, false, ◌&&◌, List, [], ◌∷◌, ◌++◌, map, take, Option, Some, None, slice_get, if◌then◌else◌}
use Rattle.std.specs.List.{filter, flat_map, list_all}
use Rattle.ap_symbol.specs.Kinds.{is_tag}
use Rattle.ap_symbol.specs.Recasing.{case_of_lem, carry_lem}
use Rattle.ap_symbol.specs.Rendering.{rendering}
use Rattle.ap_symbol.specs.declared.recasing.Case.{Case}
use Rattle.ap_symbol.specs.declared.recasing.Case.TheVariants.{Low, First, All}
use Rattle.ap_symbol.specs.declared.symbol.Symbol.{Symbol}
use Rattle.ap_symbol.specs.declared.symbol.Symbol.TheVariants.{Tag}
use Rattle.ap_stream.specs.declared.item.Inner.{Inner}
use Rattle.ap_stream.specs.declared.item.Inner.TheVariants as inner
use Rattle.ap_stream.specs.declared.item.Item.{Item}
use Rattle.ap_stream.specs.declared.item.Item.TheVariants.{Chunk}
use Rattle.ap_stream.specs.declared.item.Read.{Read}
use Rattle.ap_rules.specs.declared.rules.Form.{Form}
use Rattle.ap_rules.specs.declared.rules.Form.TheVariants.{Postchunk}
use Rattle.ap_chunk.specs.Tests.{first_tag}
use Rattle.ap_chunk.specs.Parts.{word_of}

-- a word as a unit; nothing where it is empty
abbrev pub lone_unit : List Symbol → List ℕ
lone_unit [] = []
lone_unit (x ∷ word) = 94 ∷ (rendering (x ∷ word) ++ 36 ∷ [])

abbrev pub is_digit : ℕ → Bool
is_digit b = nat_le 48 b && nat_le b 57

-- the number that decimal digits write, where this number stands before them
abbrev pub number_from : ℕ → List ℕ → ℕ
number_from n [] = n
number_from n (b ∷ bs) = number_from (10 * n + (b - 48)) bs

abbrev pub alone : Option Symbol → List Symbol
alone None = []
alone (Some x) = x ∷ []

-- the tag of a number, counted from 1; nothing where there is none
abbrev pub tag_of : List Symbol → ℕ → List Symbol
tag_of tags zero = []
tag_of tags (suc n) = alone (slice_get tags n)

-- a tag whose name is decimal digits is replaced by the chunk's tag of that number
abbrev pub fill_symbol : List Symbol → Symbol → List Symbol
fill_symbol tags (Tag name) = if list_all is_digit name then tag_of tags (number_from 0 name) else
    Tag name ∷ []
fill_symbol tags x = x ∷ []

abbrev pub fill_word : List Symbol → List Symbol → List Symbol
fill_word tags word = flat_map (fill_symbol tags) word

-- the words of a content, in order; there is one in a unit
abbrev pub content_words : List Inner → List (List Symbol)
content_words [] = []
content_words (inner.Unit words ∷ parts) = word_of 0 words ∷ content_words parts
content_words (inner.Blank bytes ∷ parts) = content_words parts

-- a capital at the start goes to the first word, capitals throughout go to every word
abbrev pub carry_words : Case → List (List Symbol) → List (List Symbol)
carry_words Low words = words
carry_words First [] = []
carry_words First (word ∷ words) = carry_lem First word ∷ words
carry_words All words = map (carry_lem All) words

-- what a case does to the first word, or to a later one
abbrev pub carry_one : Case → Bool → List Symbol → List Symbol
carry_one Low first word = word
carry_one First true word = carry_lem First word
carry_one First false word = word
carry_one All first word = carry_lem All word

-- the word of a part, where it is a unit
abbrev pub part_words : Case → List Symbol → Bool → Inner → List (List Symbol)
part_words c tags first (inner.Unit words) = carry_one c first (fill_word tags (word_of 0 words)) ∷
    []
part_words c tags first (inner.Blank bytes) = []

-- the words of a chunk: their numbered tags are filled with all tags of its name, and then the case
-- of its lemma is carried
abbrev pub chunk_words : List Symbol → List Inner → List (List Symbol)
chunk_words name content = carry_words (case_of_lem (take (first_tag name) name))
    (map (fill_word (filter is_tag name)) (content_words content))

-- the blanks of a content, and these words as its units
abbrev pub content_text : List Inner → List (List Symbol) → List ℕ
content_text [] words = []
content_text (inner.Blank bytes ∷ parts) words = bytes ++ content_text parts words
content_text (inner.Unit old ∷ parts) [] = content_text parts []
content_text (inner.Unit old ∷ parts) (word ∷ words) = lone_unit word ++ content_text parts words

-- the words of an item in postchunk, where it is a chunk
abbrev pub item_words : Form → Item → List (List Symbol)
item_words Postchunk (Chunk c) = chunk_words c.name c.content
item_words form item = []

abbrev pub first_words : Form → List Read → List (List Symbol)
first_words form [] = []
first_words form (read ∷ reads) = item_words form read.item

-- what is written for an item with these words in postchunk, where it is a chunk
abbrev pub item_text : Form → Item → List (List Symbol) → List ℕ
item_text Postchunk (Chunk c) words = content_text c.content words
item_text form item words = []

abbrev pub first_text : Form → List Read → List (List Symbol) → List ℕ
first_text form [] words = []
first_text form (read ∷ reads) words = item_text form read.item words
