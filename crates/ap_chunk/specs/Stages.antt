-- Transfer, interchunk and postchunk of the items of a text, and of a whole text.
use Rattle.std.specs.Prelude.{ℕ, nat_lt, Bool, false, List, [], ◌∷◌, length, take, Option, Some, None, Ok, Err, if◌then◌else◌}
use Rattle.ap_stream.specs.Limits.{span_max, unit_max}
use Rattle.ap_stream.specs.Reading.{Reads, reads}
use Rattle.ap_stream.specs.Rest.{worked}
use Rattle.ap_stream.specs.Steps.{bytes_of}
use Rattle.ap_stream.specs.Told.{Told, Ending}
use Rattle.ap_stream.specs.declared.dialect.Dialect.{Dialect}
use Rattle.ap_stream.specs.declared.dialect.Dialect.TheVariants.{Bilingual, Chunked}
use Rattle.ap_stream.specs.declared.fault.LimitKind.{LimitKind}
use Rattle.ap_stream.specs.declared.fault.LimitKind.TheVariants as limit
use Rattle.ap_stream.specs.declared.item.Item.{Item}
use Rattle.ap_stream.specs.declared.item.Read.{Read}
use Rattle.ap_rules.specs.Views.{plain_rules}
use Rattle.ap_rules.specs.declared.rules.Form.{Form}
use Rattle.ap_rules.specs.declared.rules.Form.TheVariants.{Transfer, Interchunk, Postchunk}
use Rattle.ap_rules.specs.declared.rules.Rules.{Rules}
use Rattle.ap_exec.specs.Acting.{act_of, Outcome}
use Rattle.ap_exec.specs.Filling.{fill_of}
use Rattle.ap_exec.specs.Results.{Ran, RuleLimit, ValueTooLong, OutputTooLong}
use Rattle.ap_exec.specs.Starting.{start_of}
use Rattle.ap_exec.specs.declared.matched.Matched.{Matched}
use Rattle.ap_chunk.specs.Carrying.{Held, Step, Gives, Stops, carried}
use Rattle.ap_chunk.specs.Going.{chosen_of}
use Rattle.ap_chunk.specs.Chunks.{first_words, first_text}
use Rattle.ap_chunk.specs.Matches.{matched_of, blanks_of}
use Rattle.ap_chunk.specs.Parts.{parts_of, units_in, taken_by, together}
use Rattle.ap_chunk.specs.Patterns.{patterns_of}
use Rattle.ap_chunk.specs.Unmatched.{unmatched_text}
use Rattle.ap_chunk.specs.declared.choice.Choice.{Choice}

-- how many items must be seen together at the front
unfoldable pub span : Rules → List Read → ℕ
span rules items = together (patterns_of rules) [] false (parts_of rules items)

-- the rule that is chosen for the row of units at the front: every rule is tried on the whole row
unfoldable pub choice : Rules → List Read → Option Choice
choice rules items = chosen_of (patterns_of rules) (units_in false (parts_of rules items))

-- the limit that a rule meets, as one of the stream
abbrev pub limit_of : RuleLimit → LimitKind
limit_of ValueTooLong = limit.ValueTooLong
limit_of OutputTooLong = limit.OutputTooLong

abbrev pub filled_step : ℕ → Held → Ran (List ℕ) → Step
filled_step n vars (Ok text) = Gives n text vars
filled_step n vars (Err met) = Stops (limit_of met)

abbrev pub acted_step : ℕ → List (List ℕ) → Ran Outcome → Step
acted_step n blanks (Ok outcome) = filled_step n outcome.vars (fill_of outcome.pieces blanks)
acted_step n blanks (Err met) = Stops (limit_of met)

-- a rule is run on a match of these items, and its template is filled with their blanks
abbrev pub run_step : Rules → ℕ → Held → List Read → Matched → Step
run_step rules rule vars taken matched = acted_step (length taken) (blanks_of taken)
    (act_of (plain_rules rules) rule matched vars)

abbrev pub rule_step : Rules → ℕ → Held → List Read → Step
rule_step rules rule vars taken = run_step rules rule vars taken (matched_of rules.form taken)

-- one item gives this, unless that has too many bytes
abbrev pub lone_step : Held → List ℕ → Step
lone_step vars text = if nat_lt unit_max (length text) then Stops limit.UnitTooLong else Gives 1
    text vars

-- one item without a match, by what is written for it
abbrev pub alone_step : (Item → List ℕ) → Held → List Read → Step
alone_step text_of vars [] = Gives 0 [] vars
alone_step text_of vars (read ∷ more) = lone_step vars (text_of read.item)

abbrev pub unmatched_step : Rules → Held → List Read → Step
unmatched_step rules vars items = alone_step (unmatched_text rules) vars items

-- where a rule matches some units, it is run on their items; else the first item stands alone
abbrev pub match_step : (ℕ → List Read → Step) → Step → Rules → List Read → Option Choice → Step
match_step run alone rules items None = alone
match_step run alone rules items (Some c) =
    if nat_lt 0 c.size then run c.rule (take (taken_by c.size (parts_of rules items)) items)
    else alone

abbrev pub chosen_step : Rules → Held → List Read → Option Choice → Step
chosen_step rules vars items chosen =
    match_step (λ rule taken. rule_step rules rule vars taken) (unmatched_step rules vars items)
    rules items chosen

-- what postchunk writes of the first item, a chunk, has too many bytes
abbrev pub is_overfull : Form → List Read → Bool
is_overfull form items = nat_lt unit_max (length (first_text form items (first_words form items)))

-- that is tested before a rule is chosen
abbrev pub tested_step : Rules → Held → List Read → Step
tested_step rules vars items = if is_overfull rules.form items then Stops limit.UnitTooLong else
    chosen_step rules vars items (choice rules items)

-- a step, unless the items that must be seen together have too many bytes
abbrev pub spanned_step : Rules → List Read → Step → Step
spanned_step rules items step =
    if nat_lt span_max (bytes_of (take (span rules items) items)) then Stops limit.SpanTooLong else
    step

-- the first step
unfoldable pub chunk_step : Rules → Held → List Read → Step
chunk_step rules vars items = spanned_step rules items (tested_step rules vars items)

-- the items of a text, step by step; the variables begin with what the rules state
abbrev pub chunked : Rules → Held → List Read → Told
chunked rules vars items = carried (chunk_step rules) vars 0 items

-- the items of a text, step by step, on what is read of it; the variables begin with what the rules
-- state
abbrev pub stepped_by : (Held → List Read → Step) → Rules → Reads → Ending → Told
stepped_by step rules read ending = worked (carried step (start_of rules) 0) read ending

abbrev pub chunked_by : Rules → Reads → Ending → Told
chunked_by rules read ending = stepped_by (chunk_step rules) rules read ending

-- transfer of a bilingual text
abbrev pub transferred_text : Rules → List ℕ → Ending → Told
transferred_text rules text ending = chunked_by rules (reads Bilingual 0 text) ending

-- the dialect that rules of a form read
abbrev pub dialect_of : Form → Dialect
dialect_of Transfer = Bilingual
dialect_of Interchunk = Chunked
dialect_of Postchunk = Chunked

-- interchunk of a chunked text
abbrev pub interchunked_text : Rules → List ℕ → Ending → Told
interchunked_text rules text ending = chunked_by rules (reads Chunked 0 text) ending

-- postchunk of a chunked text
abbrev pub postchunked_text : Rules → List ℕ → Ending → Told
postchunked_text rules text ending = chunked_by rules (reads Chunked 0 text) ending
