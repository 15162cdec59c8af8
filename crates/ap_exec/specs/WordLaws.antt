-- What the comparisons of words and the writing to a part come to.
use Rattle.std.specs.Prelude.{◌≡◌, ◌⊎◌, ℕ, ◌+◌, ◌<◌, ◌≤◌, Bool, true, false, List, [], ◌∷◌, ◌++◌, length, take, drop, Some, IsTrue, ◌↔◌}
use Rattle.std.specs.List.{list_all}
use Rattle.ap_symbol.specs.Case.{lower_lem}
use Rattle.ap_symbol.specs.Lists.{IsIn}
use Rattle.ap_symbol.specs.Recasing.{each_letter}
use Rattle.ap_symbol.specs.declared.symbol.Symbol.{Symbol}
use Rattle.ap_rules.specs.Soundness.{Each}
use Rattle.ap_rules.specs.declared.rules.Form.{Form}
use Rattle.ap_rules.specs.declared.value.Clip.{Clip}
use Rattle.ap_rules.specs.declared.value.ClipPart.TheVariants.{Lem, Lemh, Lemq, Tags, Whole, Attribute}
use Rattle.ap_rules.specs.declared.value.Side.TheVariants.{Source}
use Rattle.ap_exec.specs.declared.comparing.Way.{Way}
use Rattle.ap_exec.specs.declared.comparing.Way.TheVariants.{Equals, Begins, Ends, Contains}
use Rattle.ap_exec.specs.Comparing.{compared, compared_some}
use Rattle.ap_symbol.specs.Kinds.{is_tag, is_queue}
use Rattle.ap_exec.specs.Parts.{Span, is_lemma, is_head, items_of, span_of, cut, side_in, word_on, part_at}
use Rattle.ap_exec.specs.Units.{Shown, Sight, unit_at}
use Rattle.ap_exec.specs.Writing.{moved, spliced, written}

-- a word as it is compared: itself, or with all its letters in lower case
abbrev pub read_as : Bool → List Symbol → List Symbol
read_as false word = word
read_as true word = each_letter lower_lem word

-- words are equal where they are one list
abbrev pub EqualsIsEquality : Type 0
EqualsIsEquality = (caseless : Bool) (a b : List Symbol) → IsTrue (compared Equals caseless a b)
    ↔ (read_as caseless a ≡ read_as caseless b)

-- a word begins with another where it is the other with something behind it
abbrev pub BeginsIsAFront : Type 0
BeginsIsAFront = (caseless : Bool) (word part : List Symbol) →
    IsTrue (compared Begins caseless word part)
    ↔ ((after : List Symbol) × (read_as caseless word ≡ read_as caseless part ++ after))

-- a word ends with another where it is the other with something before it
abbrev pub EndsIsABack : Type 0
EndsIsABack = (caseless : Bool) (word part : List Symbol) →
    IsTrue (compared Ends caseless word part)
    ↔ ((before : List Symbol) × (read_as caseless word ≡ before ++ read_as caseless part))

-- a word holds another where it is the other between two others
abbrev pub ContainsIsWithin : Type 0
ContainsIsWithin = (caseless : Bool) (word part : List Symbol)
    → IsTrue (compared Contains caseless word part)
    ↔ ((before : List Symbol)
    × ((after : List Symbol)
    × (read_as caseless word ≡ before ++ (read_as caseless part ++ after))))

-- a word compares so with a list where it does with an item of it
abbrev pub SomeIsAnItem : Type 0
SomeIsAnItem = (way : Way) (caseless : Bool) (word : List Symbol) (items : List (List Symbol))
    → IsTrue (compared_some way caseless word items)
    ↔ ((item : List Symbol) × (IsIn item items × IsTrue (compared way caseless word item)))

-- the clip names a part of the whole word on its side, the queue too
abbrev pub IsOnWhole : Form → Clip → Type 0
IsOnWhole form c = (side_in form c.side ≡ Source) ⊎ (c.queue ≡ true)

-- at the clip's position stands the unit that was written to by the clip
pub record IsWrittenAt (sight : Sight) (c : Clip) (value : List Symbol) : Type 0 where
  pub before : Shown
  pub stands : unit_at sight.positions sight.units c.pos
      ≡ Some (written sight.form sight.attributes c value before)

-- a whole word that was written is read as what was written
abbrev pub WholeIsRead : Type 0
WholeIsRead = (sight : Sight) (c : Clip) (value : List Symbol) → c.part ≡ Whole →
    IsOnWhole sight.form c → IsWrittenAt sight c value →
    part_at sight c.pos c.part c.side c.queue ≡ value

-- so is a lemma, where no tag was written
abbrev pub LemmaIsRead : Type 0
LemmaIsRead = (sight : Sight) (c : Clip) (value : List Symbol) → c.part ≡ Lem →
    IsOnWhole sight.form c → list_all is_lemma value ≡ true → IsWrittenAt sight c value →
    part_at sight c.pos c.part c.side c.queue ≡ value

-- so is the lemma before a queue, where neither a queue nor a tag was written
abbrev pub HeadIsRead : Type 0
HeadIsRead = (sight : Sight) (c : Clip) (value : List Symbol) → c.part ≡ Lemh →
    IsOnWhole sight.form c → list_all is_head value ≡ true → IsWrittenAt sight c value →
    part_at sight c.pos c.part c.side c.queue ≡ value

-- the part that the clip names wasn't empty in the unit before
abbrev pub WasThere : Sight → Clip → Shown → Type 0
WasThere sight c before = 0 < (span_of sight.attributes c.part
    (word_on (side_in sight.form c.side) c.queue before)).count

-- it begins with a queue and has no tag
abbrev pub IsQueuePart : List Symbol → Type 0
IsQueuePart [] = ⊥
IsQueuePart (s ∷ more) = (is_queue s ≡ true) × (list_all is_lemma more ≡ true)

-- so is the queue of a lemma that had one, where such a queue was written
abbrev pub QueueIsRead : Type 0
QueueIsRead = (sight : Sight) (c : Clip) (value : List Symbol) → c.part ≡ Lemq →
    IsOnWhole sight.form c → IsQueuePart value → (w : IsWrittenAt sight c value) →
    WasThere sight c w.before → part_at sight c.pos c.part c.side c.queue ≡ value

-- it has tags alone, and at least one
abbrev pub AreTags : List Symbol → Type 0
AreTags [] = ⊥
AreTags (s ∷ more) = (is_tag s ≡ true) × (list_all is_tag more ≡ true)

-- so are the tags of a word that had some, where tags were written
abbrev pub TagsAreRead : Type 0
TagsAreRead = (sight : Sight) (c : Clip) (value : List Symbol) → c.part ≡ Tags →
    IsOnWhole sight.form c → AreTags value → (w : IsWrittenAt sight c value) →
    WasThere sight c w.before → part_at sight c.pos c.part c.side c.queue ≡ value

abbrev pub IsOneTag : List Symbol → Type 0
IsOneTag [] = ⊥
IsOneTag (s ∷ []) = is_tag s ≡ true
IsOneTag (s ∷ t ∷ more) = ⊥

-- so is an attribute of which an item was found, where each of its items is one tag and one of them
-- was written
abbrev pub AttributeIsRead : Type 0
AttributeIsRead = (sight : Sight) (c : Clip) (n : ℕ) (value : List Symbol) → c.part ≡ Attribute n →
    IsOnWhole sight.form c → Each IsOneTag (items_of sight.attributes n) →
    IsIn value (items_of sight.attributes n) → (w : IsWrittenAt sight c value) →
    WasThere sight c w.before → part_at sight c.pos c.part c.side c.queue ≡ value

-- Where a word's stretch was written over, the value stands in its place, and what stands before it
-- and behind it is as it was.
abbrev pub WrittenIsRead : Type 0
WrittenIsRead = (span : Span) (value word : List Symbol) → span.start + span.count ≤ length word
    → (cut (record { start = span.start; count = length value }) (spliced span value word) ≡ value)
    × (take span.start (spliced span value word) ≡ take span.start word)
    × (drop (span.start + length value) (spliced span value word)
    ≡ drop (span.start + span.count) word)

-- Where a part is replaced that lies wholly in the head of a target, the queue behind the border is
-- as it was; where one is that lies wholly in the queue, the head before the border is.
abbrev pub OtherSideStays : Type 0
OtherSideStays = (span : Span) (value word : List Symbol) (border : ℕ) →
    span.start + span.count ≤ length word → border ≤ length word
    → (span.start + span.count ≤ border →
    drop (moved span (length value) border) (spliced span value word) ≡ drop border word)
    × (border ≤ span.start → border < span.start + span.count →
    take (moved span (length value) border) (spliced span value word) ≡ take border word)
