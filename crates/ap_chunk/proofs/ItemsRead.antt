-- Items that were read: their blanks and superblanks, and what a match of them gives to a rule.
use Rattle.std.specs.Prelude.{◌≡◌, ℕ, zero, suc, false, List, [], ◌∷◌, ◌++◌, map, take, refl}
use Rattle.std.specs.List.{flat_map, AllByRecursion}
use Rattle.std.proofs.Common.{ap, sym, subst, ◌∙◌}
use Rattle.std.proofs.lemmas.Bool.{false≢true}
use Rattle.std.proofs.lemmas.Grind.{flat_map-append}
use Rattle.std.proofs.lemmas.List.{append-nil}
use Rattle.std.proofs.lemmas.List.Concat.{flat_map-cons}
use Rattle.ap_symbol.specs.declared.symbol.Symbol.{Symbol}
use Rattle.ap_stream.specs.Laws.{AreSpelt, EachSpelt, AreWords, AreParts}
use Rattle.ap_stream.specs.Pieces.{supers_of}
use Rattle.ap_stream.specs.Reading.{reads}
use Rattle.ap_stream.specs.Supers.{blank_supers, inner_supers, item_supers}
use Rattle.ap_stream.specs.declared.dialect.Dialect.{Dialect}
use Rattle.ap_stream.specs.declared.dialect.Dialect.TheVariants.{Raw, Analysed, Lexical, Bilingual, Chunked, Generated}
use Rattle.ap_stream.specs.declared.item.Chunk.{Chunk}
use Rattle.ap_stream.specs.declared.item.Inner.{Inner}
use Rattle.ap_stream.specs.declared.item.Inner.TheVariants as inner
use Rattle.ap_stream.specs.declared.item.Item.{Item}
use Rattle.ap_stream.specs.declared.item.Item.TheVariants as item
use Rattle.ap_stream.specs.declared.item.Read.{Read}
use Rattle.ap_stream.proofs.Rows.{ChunkRow, IsRow, WasRead, AreRead, reads_read, supers_more}
use Rattle.ap_rules.specs.Soundness.{Each}
use Rattle.ap_rules.specs.Worded.{IsWorded}
use Rattle.ap_rules.specs.declared.rules.Form.{Form}
use Rattle.ap_rules.specs.declared.rules.Form.TheVariants.{Transfer, Interchunk, Postchunk}
use Rattle.ap_exec.specs.FillingLaws.{supers_in}
use Rattle.ap_exec.specs.RunningLaws.{IsWordedInner, IsWordedMatched, IsWordedMatch}
use Rattle.ap_exec.specs.declared.matched.MatchedUnit.{MatchedUnit}
use Rattle.ap_exec.proofs.Worded.{none_worded}
use Rattle.ap_chunk.specs.Laws.{IsSpeltUnit}
use Rattle.ap_chunk.specs.Chunks.{item_words, first_words}
use Rattle.ap_chunk.specs.Matches.{worded, matched_item, matched_items, item_name, first_name, matched_of, inner_blanks, item_blanks, blanks_of}
use Rattle.ap_chunk.specs.Stages.{dialect_of}
use Rattle.ap_chunk.proofs.ChunksFilled.{IsGood, AreGood, GoodParts}
use Rattle.ap_chunk.proofs.OpenBlanks.{IsOpen, ItemOpen, AreOpen, open_row, reads_open}
use Rattle.ap_chunk.proofs.WordsWritten.{spelt_worded, all_worded, word_spelt, inner_spelt, chunk_words_spelt}

-- what is known of an item that was read: its bytes, and that a blank is one throughout
abbrev pub IsKnown : Dialect → Read → Type 0
IsKnown dialect read = WasRead dialect read × ItemOpen read.item

abbrev pub AreKnown : Dialect → List Read → Type 0
AreKnown dialect items = AllByRecursion (IsKnown dialect) items

both_known : (dialect : Dialect) (items : List Read) → AreRead dialect items → AreOpen items →
    AreKnown dialect items
both_known dialect [] h k = tt
both_known dialect (read ∷ items) h k = ((h.0, k.0), both_known dialect items h.1 k.1)

-- those before a stop too
pub reads_known : (dialect : Dialect) (text : List ℕ) →
    AreKnown dialect (reads dialect 0 text).items
reads_known dialect text = both_known dialect (reads dialect 0 text).items
    (reads_read dialect 0 text) (reads_open dialect 0 text)

pub known_take : (dialect : Dialect) (n : ℕ) (items : List Read) → AreKnown dialect items →
    AreKnown dialect (take n items)
known_take dialect zero items h = tt
known_take dialect (suc n) [] h = tt
known_take dialect (suc n) (read ∷ items) h = (h.0, known_take dialect n items h.1)

-- a chunk that was read has a name that can be written, and such parts
chunk_read : (dialect : Dialect) (c : Chunk) (bytes : List ℕ) → ChunkRow dialect c bytes →
    AreSpelt false c.name × AreParts c.content
chunk_read Raw c bytes h = absurd h
chunk_read Analysed c bytes h = absurd h
chunk_read Lexical c bytes h = absurd h
chunk_read Bilingual c bytes h = absurd h
chunk_read Chunked c bytes h = (h.1, h.2)
chunk_read Generated c bytes h = absurd h

-- a chunked text has no units outside of chunks
pub no_unit : {A : Type 0} (words : List (List Symbol)) → AreWords Chunked words → A
no_unit [] h = absurd h
no_unit (word ∷ words) h = absurd (false≢true h.0)

-- superblanks

blanks_more : (read : Read) (items : List Read) → blanks_of (read ∷ items)
    ≡ item_blanks read.item ++ blanks_of items
blanks_more read items = flat_map-cons (λ (r : Read). item_blanks r.item) read items

units_more : (read : Read) (items : List Read) → matched_items (read ∷ items)
    ≡ matched_item read.item ++ matched_items items
units_more read items = flat_map-cons (λ (r : Read). matched_item r.item) read items

one_supers : (bytes : List ℕ) → blank_supers 0 bytes ≡ supers_in (bytes ∷ [])
one_supers bytes = sym (flat_map-cons (blank_supers 0) bytes []
    ∙ append-nil (blank_supers 0 bytes))

inner_own : (part : Inner) → inner_supers part ≡ supers_in (inner_blanks part)
inner_own (inner.Unit words) = refl
inner_own (inner.Blank bytes) = one_supers bytes

content_own : (parts : List Inner) → flat_map inner_supers parts
    ≡ supers_in (flat_map inner_blanks parts)
content_own [] = refl
content_own (part ∷ parts) =
    flat_map-cons inner_supers part parts
    ∙ ap (λ (q : List (List ℕ)). q ++ flat_map inner_supers parts) (inner_own part)
    ∙ ap (λ (q : List (List ℕ)). supers_in (inner_blanks part) ++ q) (content_own parts)
    ∙ sym (flat_map-append (blank_supers 0) (inner_blanks part) (flat_map inner_blanks parts))
    ∙ ap supers_in (sym (flat_map-cons inner_blanks part parts))

-- those of an item are those of its blanks
own_supers : (thing : Item) → item_supers thing ≡ supers_in (item_blanks thing)
own_supers (item.Plain c) = refl
own_supers (item.Blank bytes) = one_supers bytes
own_supers (item.Unit words) = refl
own_supers (item.Chunk c) = content_own c.content

pub blank_supers_of : (items : List Read) → supers_of items ≡ supers_in (blanks_of items)
blank_supers_of [] = refl
blank_supers_of (read ∷ items) =
    supers_more read items
    ∙ ap (λ (q : List (List ℕ)). q ++ supers_of items) (own_supers read.item)
    ∙ ap (λ (q : List (List ℕ)). supers_in (item_blanks read.item) ++ q) (blank_supers_of items)
    ∙ sym (flat_map-append (blank_supers 0) (item_blanks read.item) (blanks_of items))
    ∙ ap supers_in (sym (blanks_more read items))

-- blanks

all_both : {A : Type 0} (P : A → Type 0) (a b : List A) → AllByRecursion P a → AllByRecursion P b →
    AllByRecursion P (a ++ b)
all_both P [] b h k = k
all_both P (x ∷ a) b h k = (h.0, all_both P a b h.1 k)

good_open : (bytes : List ℕ) → IsOpen bytes → IsGood bytes
good_open bytes h = (h, open_row bytes h)

parts_blanks : (parts : List Inner) → AreParts parts → AreGood (flat_map inner_blanks parts)
parts_blanks [] h = tt
parts_blanks (inner.Unit words ∷ parts) h =
    subst AreGood (sym (flat_map-cons inner_blanks (inner.Unit words) parts))
    (parts_blanks parts h.1)
parts_blanks (inner.Blank bytes ∷ parts) h =
    subst AreGood (sym (flat_map-cons inner_blanks (inner.Blank bytes) parts))
    (good_open bytes h.0.1, parts_blanks parts h.2)

pub good_parts : (parts : List Inner) → AreParts parts → GoodParts parts
good_parts [] h = tt
good_parts (inner.Unit words ∷ parts) h = (h.0, good_parts parts h.1)
good_parts (inner.Blank bytes ∷ parts) h = (good_open bytes h.0.1, good_parts parts h.2)

own_blanks : (dialect : Dialect) (thing : Item) (bytes : List ℕ) → IsRow dialect thing bytes →
    ItemOpen thing → AreGood (item_blanks thing)
own_blanks dialect (item.Plain c) bytes h k = tt
own_blanks dialect (item.Blank all) bytes h k = (good_open all k, tt)
own_blanks dialect (item.Unit words) bytes h k = tt
own_blanks dialect (item.Chunk c) bytes h k =
    parts_blanks c.content (chunk_read dialect c bytes h).1

pub read_blanks : (dialect : Dialect) (items : List Read) → AreKnown dialect items →
    AreGood (blanks_of items)
read_blanks dialect [] h = tt
read_blanks dialect (read ∷ items) h =
    subst AreGood (sym (blanks_more read items))
    (all_both IsGood (item_blanks read.item) (blanks_of items)
    (own_blanks dialect read.item h.0.0.0 h.0.0.1 h.0.1) (read_blanks dialect items h.1))

-- words

-- what holds of the units of an item that was read holds of those of all
units_read : (P : MatchedUnit → Type 0) (dialect : Dialect) →
    ((thing : Item) (bytes : List ℕ) → IsRow dialect thing bytes →
    AllByRecursion P (matched_item thing))
    → (items : List Read) → AreKnown dialect items → AllByRecursion P (matched_items items)
units_read P dialect own [] h = tt
units_read P dialect own (read ∷ items) h =
    subst (AllByRecursion P) (sym (units_more read items))
    (all_both P (matched_item read.item) (matched_items items) (own read.item h.0.0.0 h.0.0.1)
    (units_read P dialect own items h.1))

own_translated : (thing : Item) (bytes : List ℕ) → IsRow Bilingual thing bytes →
    AllByRecursion IsSpeltUnit (matched_item thing)
own_translated (item.Plain c) bytes h = tt
own_translated (item.Blank all) bytes h = tt
own_translated (item.Unit []) bytes h = absurd h.1
own_translated (item.Unit (word ∷ words)) bytes h =
    (record { source = h.1.2; head = word_spelt words h.1.3; queue = refl; content = refl }, tt)
own_translated (item.Chunk c) bytes h = absurd h

pub translated_read : (items : List Read) → AreKnown Bilingual items →
    AllByRecursion IsSpeltUnit (matched_items items)
translated_read items h = units_read IsSpeltUnit Bilingual own_translated items h

parts_worded : (parts : List Inner) → AreParts parts → Each IsWordedInner parts
parts_worded [] h = tt
parts_worded (inner.Unit words ∷ parts) h =
    (all_worded words (inner_spelt words h.0), parts_worded parts h.1)
parts_worded (inner.Blank bytes ∷ parts) h = (tt, parts_worded parts h.2)

own_named : (thing : Item) (bytes : List ℕ) → IsRow Chunked thing bytes →
    AllByRecursion IsWordedMatched (matched_item thing)
own_named (item.Plain c) bytes h = tt
own_named (item.Blank all) bytes h = tt
own_named (item.Unit words) bytes h = no_unit words h.1
own_named (item.Chunk c) bytes h = (
  record {
    source = none_worded;
    head = spelt_worded c.name h.1;
    queue = none_worded;
    content =
        parts_worded c.content h.2;
  },
  tt,
)

-- one list of facts as the other
pub each_of : {A : Type 0} (P Q : A → Type 0) → ((x : A) → P x → Q x) → (xs : List A) →
    AllByRecursion P xs → Each Q xs
each_of P Q on [] h = tt
each_of P Q on (x ∷ xs) h = (on x h.0, each_of P Q on xs h.1)

pub unit_worded : (u : MatchedUnit) → IsSpeltUnit u → IsWordedMatched u
unit_worded u h = record {
  source = spelt_worded u.source h.source;
  head = spelt_worded u.head h.head;
  queue = subst IsWorded (sym h.queue) none_worded;
  content = subst (Each IsWordedInner) (sym h.content) tt;
}

words_worded : (words : List (List Symbol)) → EachSpelt words →
    Each IsWordedMatched (map worded words)
words_worded [] h = tt
words_worded (word ∷ words) h = (
  record {
    source = none_worded;
    head = spelt_worded word h.0;
    queue = none_worded;
    content =
        tt;
  },
  words_worded words h.1,
)

item_name_spelt : (thing : Item) (bytes : List ℕ) → IsRow Chunked thing bytes →
    AreSpelt false (item_name thing)
item_name_spelt (item.Plain c) bytes h = tt
item_name_spelt (item.Blank all) bytes h = tt
item_name_spelt (item.Unit words) bytes h = tt
item_name_spelt (item.Chunk c) bytes h = h.1

first_name_spelt : (items : List Read) → AreKnown Chunked items → AreSpelt false (first_name items)
first_name_spelt [] h = tt
first_name_spelt (read ∷ items) h = item_name_spelt read.item h.0.0.0 h.0.0.1

item_words_spelt : (thing : Item) (bytes : List ℕ) → IsRow Chunked thing bytes →
    EachSpelt (item_words Postchunk thing)
item_words_spelt (item.Plain c) bytes h = tt
item_words_spelt (item.Blank all) bytes h = tt
item_words_spelt (item.Unit words) bytes h = tt
item_words_spelt (item.Chunk c) bytes h = chunk_words_spelt c.name c.content h.1 h.2

first_words_spelt : (items : List Read) → AreKnown Chunked items →
    EachSpelt (first_words Postchunk items)
first_words_spelt [] h = tt
first_words_spelt (read ∷ items) h = item_words_spelt read.item h.0.0.0 h.0.0.1

-- what a match gives to a rule are words of the program
pub match_worded : (form : Form) (items : List Read) → AreKnown (dialect_of form) items →
    IsWordedMatch (matched_of form items)
match_worded Transfer items h = record {
  chunk = tt;
  units = each_of IsSpeltUnit IsWordedMatched unit_worded (matched_items items)
      (translated_read items h);
}
match_worded Interchunk items h = record {
  chunk = tt;
  units = each_of IsWordedMatched IsWordedMatched (λ u k. k) (matched_items items)
      (units_read IsWordedMatched Chunked own_named items h);
}
match_worded Postchunk items h = record {
  chunk = spelt_worded (first_name items) (first_name_spelt items h);
  units = words_worded (first_words Postchunk items) (first_words_spelt items h);
}
