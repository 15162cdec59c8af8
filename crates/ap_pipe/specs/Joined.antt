-- Transfer by what a rule sees of a unit. Behind bilingual lookup a unit is its first word with its
-- first translation; in joined transfer it is a word whose translation is looked up at once.
use Rattle.std.specs.Prelude.{ℕ, Bool, true, false, List, [], ◌∷◌, ◌++◌, None}
use Rattle.ap_symbol.specs.Kinds.{is_marked}
use Rattle.ap_symbol.specs.declared.symbol.Symbol.{Symbol}
use Rattle.ap_symbol.specs.declared.symbol.Symbol.TheVariants.{At}
use Rattle.ap_stream.specs.Reading.{reads}
use Rattle.ap_stream.specs.Told.{Told, Ending}
use Rattle.ap_stream.specs.declared.dialect.Dialect.{Dialect}
use Rattle.ap_stream.specs.declared.dialect.Dialect.TheVariants.{Lexical}
use Rattle.ap_stream.specs.declared.item.Read.{Read}
use Rattle.ap_live.specs.Lexicon.{Lexicon}
use Rattle.ap_lookup.specs.Translation.{Translated, translation}
use Rattle.ap_rules.specs.declared.rules.Rules.{Rules}
use Rattle.ap_exec.specs.declared.matched.MatchedUnit.{MatchedUnit}
use Rattle.ap_chunk.specs.Carrying.{Held, Step}
use Rattle.ap_chunk.specs.Matches.{Sees, seen_items}
use Rattle.ap_chunk.specs.Parts.{word_of}
use Rattle.ap_chunk.specs.Stages.{choice, run_step, alone_step, match_step, spanned_step, stepped_by}
use Rattle.ap_chunk.specs.Unmatched.{default_text, lone_text}

-- what is written for a unit without a match: its target, which is its head and its queue
abbrev pub default_of : Rules → MatchedUnit → List ℕ
default_of rules unit = default_text rules.default unit.source (unit.head ++ unit.queue)

-- a rule is run on what it sees of these items
abbrev pub seen_run : Sees → Rules → ℕ → Held → List Read → Step
seen_run sees rules rule vars taken =
    run_step rules rule vars taken (record { chunk = None; units = seen_items sees taken })

-- one item without a match
abbrev pub seen_alone : Sees → Rules → Held → List Read → Step
seen_alone sees rules vars items =
    alone_step (lone_text (λ words. default_of rules (sees words)) rules) vars items

-- the first step
unfoldable pub seen_step : Sees → Rules → Held → List Read → Step
seen_step sees rules vars items = spanned_step rules items
    (match_step (λ rule taken. seen_run sees rules rule vars taken)
    (seen_alone sees rules vars items) rules items (choice rules items))

-- transfer of a text of this dialect
abbrev pub transferred_as : Sees → Dialect → Rules → List ℕ → Ending → Told
transferred_as sees dialect rules text ending =
    stepped_by (seen_step sees rules) rules (reads dialect 0 text) ending

-- joined transfer

-- the first head of a translation, and the symbols left over; without a head @ and the word
abbrev pub headed : List Symbol → List (List Symbol) → List Symbol → MatchedUnit
headed word [] left = record { source = word; head = At ∷ word; queue = []; content = [] }
headed word (head ∷ heads) left =
    record { source = word; head = head; queue = left; content = [] }

-- a word that begins with * or @ is its own translation
abbrev pub marked_or : Bool → List Symbol → Translated → MatchedUnit
marked_or true word made = record { source = word; head = word; queue = []; content = [] }
marked_or false word made = headed word made.heads made.left

-- a word with its translation
abbrev pub looked_up : Lexicon → List Symbol → MatchedUnit
looked_up lexicon word = marked_or (is_marked word) word (translation lexicon false word)

-- joined transfer of a lexical text
abbrev pub joined_text : Lexicon → Rules → List ℕ → Ending → Told
joined_text lexicon rules text ending =
    transferred_as (λ words. looked_up lexicon (word_of 0 words)) Lexical rules text ending
