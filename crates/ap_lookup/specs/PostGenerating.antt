-- Post-generation (`lt-proc -p`): what is written for the items of a text.
use Rattle.std.specs.Prelude.{ℕ, Bool, true, false, nat_lt, not, ◌&&◌, ◌==◌, List, [], ◌∷◌, ◌++◌, length, take, drop, Option, Some, None, if◌then◌else◌}
use Rattle.std.specs.List.{flat_map}
use Rattle.ap_symbol.specs.Rendering.{symbol_bytes, rendering}
use Rattle.ap_symbol.specs.Words.{is_white}
use Rattle.ap_symbol.specs.declared.symbol.Symbol.{Symbol}
use Rattle.ap_symbol.specs.declared.symbol.Symbol.TheVariants as symbol
use Rattle.ap_stream.specs.Limits.{span_max, unit_max}
use Rattle.ap_stream.specs.Spelling.{spelled}
use Rattle.ap_stream.specs.Steps.{Step, Gives, Stops, bytes_of, front}
use Rattle.ap_stream.specs.Supers.{blank_supers}
use Rattle.ap_stream.specs.declared.fault.LimitKind.TheVariants.{SpanTooLong, UnitTooLong}
use Rattle.ap_stream.specs.declared.item.Character.{Character}
use Rattle.ap_stream.specs.declared.item.Item.{Item}
use Rattle.ap_stream.specs.declared.item.Item.TheVariants.{Plain, Blank, Unit, Chunk}
use Rattle.ap_stream.specs.declared.item.Read.{Read}
use Rattle.ap_live.specs.Lexicon.{Lexicon}
use Rattle.ap_live.specs.Readings.{carried_words}
use Rattle.ap_lookup.specs.Matching.{longest_match, fitting}

-- a bare ~ is the alarm
abbrev pub is_alarm : Character → Bool
is_alarm c = not c.escaped && (c.letter == 126)

abbrev pub character_symbol : Character → Option Symbol
character_symbol c = if is_alarm c then Some symbol.Alarm
    else (if is_white c.letter then None else Some (symbol.Letter c.letter))

-- An item as an input symbol: the alarm, a whole blank as Blank, and any other character, escaped
-- or not, as its letter. An escaped white-space character fits nothing, and neither does a unit or
-- a chunk.
abbrev pub symbol_of : Item → Option Symbol
symbol_of (Plain c) = character_symbol c
symbol_of (Blank bytes) = Some symbol.Blank
symbol_of (Unit words) = None
symbol_of (Chunk c) = None

-- the symbols of the items, up to the first that fits nothing
abbrev pub symbols : List Read → List Symbol
symbols reads = front symbol_of reads

abbrev pub is_alarm_item : Item → Bool
is_alarm_item (Plain c) = is_alarm c
is_alarm_item (Blank bytes) = false
is_alarm_item (Unit words) = false
is_alarm_item (Chunk c) = false

-- a match begins at an alarm alone
abbrev pub begins_alarm : List Read → Bool
begins_alarm [] = false
begins_alarm (read ∷ reads) = is_alarm_item read.item

-- the greatest length that fits a left word, of any kind and without a test of what follows, or 0
unfoldable pub matched : Lexicon → List Read → ℕ
matched lexicon reads = longest_match lexicon 0 (symbols reads)

-- how many items must be seen together: at an alarm those that fit a beginning of a left word
unfoldable pub span : Lexicon → List Read → ℕ
span lexicon reads = if begins_alarm reads then fitting lexicon (symbols reads) else 0

abbrev pub least : List (List Symbol) → List Symbol
least [] = []
least (word ∷ words) = word

-- the least of the right words, once the case of what was matched was carried to each
abbrev pub chosen : Lexicon → Bool → List Symbol → List Symbol
chosen lexicon sensitive seen = least (carried_words lexicon sensitive seen seen)

abbrev pub blank_of : Item → List (List ℕ)
blank_of (Plain c) = []
blank_of (Blank bytes) = bytes ∷ []
blank_of (Unit words) = []
blank_of (Chunk c) = []

-- the blanks of the items, whole
abbrev pub blanks : List Read → List (List ℕ)
blanks reads = flat_map (λ read. blank_of read.item) reads

-- the superblanks of blanks, without the white space beside them
abbrev pub left_over : List (List ℕ) → List ℕ
left_over blanks = flat_map (λ bytes. bytes) (flat_map (blank_supers 0) blanks)

abbrev pub is_slot : Symbol → Bool
is_slot symbol.Blank = true
is_slot _ = false

-- what fills a slot: the next blank, or a space where there is none
abbrev pub filling : List (List ℕ) → List ℕ
filling [] = 32 ∷ []
filling (blank ∷ blanks) = blank

-- what is written of a symbol of a word whose Blanks are slots, and the blanks that are left for
-- the next ones
abbrev pub part : Symbol → List (List ℕ) → List ℕ
part x blanks = if is_slot x then filling blanks else symbol_bytes x

abbrev pub unused : Symbol → List (List ℕ) → List (List ℕ)
unused x blanks = if is_slot x then drop 1 blanks else blanks

-- such a word: its slots are filled in order with the blanks, whole, and the superblanks of those
-- left over follow
abbrev pub filled : List Symbol → List (List ℕ) → List ℕ
filled [] blanks = left_over blanks
filled (x ∷ word) blanks = part x blanks ++ filled word (unused x blanks)

-- so many items give this word with these blanks, unless it has too many bytes
abbrev pub word_step : ℕ → List Symbol → List (List ℕ) → Step
word_step n word blanks = if nat_lt unit_max (length (rendering word)) then Stops UnitTooLong
    else Gives n (filled word blanks)

abbrev pub matched_step : Lexicon → Bool → List Read → ℕ → Step
matched_step lexicon sensitive reads n =
    word_step n (chosen lexicon sensitive (take n (symbols reads))) (blanks (take n reads))

-- the longest match is taken, and without one the alarm is dropped
abbrev pub match_step : Lexicon → Bool → List Read → ℕ → Step
match_step lexicon sensitive reads n = if nat_lt 0 n then matched_step lexicon sensitive reads n
    else Gives 1 []

abbrev pub alarm_step : Lexicon → Bool → List Read → Step
alarm_step lexicon sensitive reads = if nat_lt span_max (bytes_of (take (span lexicon reads) reads))
    then Stops SpanTooLong else match_step lexicon sensitive reads (matched lexicon reads)

-- one item as it is spelled
abbrev pub copied : List Read → Step
copied reads = Gives 1 (flat_map (λ read. spelled read.item) (take 1 reads))

-- the first step: a match is begun at an alarm, and every other item is copied
unfoldable pub post_step : Lexicon → Bool → List Read → Step
post_step lexicon sensitive reads = if begins_alarm reads then alarm_step lexicon sensitive reads
    else copied reads
