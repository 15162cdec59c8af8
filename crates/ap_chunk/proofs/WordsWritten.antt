-- Words that can be written are words of the program, and the other way round. Those that postchunk
-- makes of a chunk can be written.
use Rattle.std.specs.Prelude.{ℕ, zero, suc, Bool, true, false, cond, List, [], ◌∷◌, map, slice_get, if◌then◌else◌}
use Rattle.std.specs.List.{filter, list_all}
use Rattle.std.proofs.Common.{subst, sym}
use Rattle.std.proofs.lemmas.List.Concat.{flat_map-cons}
use Rattle.ap_symbol.specs.Coded.{AreCoded}
use Rattle.ap_symbol.specs.Kinds.{is_tag}
use Rattle.ap_symbol.specs.Recasing.{carry_lem}
use Rattle.ap_symbol.specs.declared.recasing.Case.{Case}
use Rattle.ap_symbol.specs.declared.recasing.Case.TheVariants.{Low, First, All}
use Rattle.ap_symbol.specs.declared.symbol.Symbol.{Symbol}
use Rattle.ap_symbol.specs.declared.symbol.Symbol.TheVariants as symbol
use Rattle.ap_symbol.proofs.Coded.{stays_coded}
use Rattle.ap_symbol.proofs.RecasedWords.{stays_proper}
use Rattle.ap_stream.specs.Laws.{IsSpelt, AreSpelt, EachSpelt, AreWords, AreParts}
use Rattle.ap_stream.specs.declared.dialect.Dialect.TheVariants.{Lexical}
use Rattle.ap_stream.specs.declared.item.Inner.{Inner}
use Rattle.ap_stream.specs.declared.item.Inner.TheVariants as inner
use Rattle.ap_stream.proofs.Proper.{word_proper}
use Rattle.ap_stream.proofs.Spelt.{words_are_spelt}
use Rattle.ap_stream.proofs.Written.{spelt_append}
use Rattle.ap_rules.specs.Soundness.{Each}
use Rattle.ap_rules.specs.Worded.{IsWorded}
use Rattle.ap_chunk.specs.Chunks.{is_digit, number_from, alone, tag_of, fill_symbol, fill_word, content_words, carry_words, chunk_words}
use Rattle.ap_chunk.specs.Parts.{word_of}

spelt_coded : (word : List Symbol) → AreSpelt false word → AreCoded word
spelt_coded [] h = tt
spelt_coded (symbol.Letter c ∷ word) h = (h.0.0, spelt_coded word h.1)
spelt_coded (symbol.Tag name ∷ word) h = (h.0.1, spelt_coded word h.1)
spelt_coded (symbol.Blank ∷ word) h = (tt, spelt_coded word h.1)
spelt_coded (symbol.Join ∷ word) h = (tt, spelt_coded word h.1)
spelt_coded (symbol.Queue ∷ word) h = (tt, spelt_coded word h.1)
spelt_coded (symbol.Alarm ∷ word) h = (tt, spelt_coded word h.1)
spelt_coded (symbol.Star ∷ word) h = (tt, spelt_coded word h.1)
spelt_coded (symbol.At ∷ word) h = (tt, spelt_coded word h.1)

pub spelt_worded : (word : List Symbol) → AreSpelt false word → IsWorded word
spelt_worded word h = (word_proper false word h, spelt_coded word h)

pub all_worded : (words : List (List Symbol)) → EachSpelt words → Each IsWorded words
all_worded [] h = tt
all_worded (word ∷ words) h = (spelt_worded word h.0, all_worded words h.1)

pub all_spelt : (words : List (List Symbol)) → Each IsWorded words → EachSpelt words
all_spelt [] h = tt
all_spelt (word ∷ words) h = (words_are_spelt word h.0.0 h.0.1, all_spelt words h.1)

pub word_spelt : (words : List (List Symbol)) → EachSpelt words → AreSpelt false (word_of 0 words)
word_spelt [] h = tt
word_spelt (word ∷ words) h = h.0

map_spelt : (f : List Symbol → List Symbol) →
    ((word : List Symbol) → AreSpelt false word → AreSpelt false (f word)) →
    (words : List (List Symbol)) → EachSpelt words → EachSpelt (map f words)
map_spelt f on [] h = tt
map_spelt f on (word ∷ words) h = (on word h.0, map_spelt f on words h.1)

-- numbered tags

alone_spelt : (tags : List Symbol) (n : ℕ) → AreSpelt false tags →
    AreSpelt false (alone (slice_get tags n))
alone_spelt [] n h = tt
alone_spelt (tag ∷ tags) zero h = (h.0, tt)
alone_spelt (tag ∷ tags) (suc n) h = alone_spelt tags n h.1

tag_spelt : (tags : List Symbol) (n : ℕ) → AreSpelt false tags → AreSpelt false (tag_of tags n)
tag_spelt tags zero h = tt
tag_spelt tags (suc n) h = alone_spelt tags n h

symbol_spelt : (tags : List Symbol) (x : Symbol) → AreSpelt false tags → IsSpelt false x →
    AreSpelt false (fill_symbol tags x)
symbol_spelt tags (symbol.Tag name) t h = by (list_all is_digit name)
  where
    by : (v : Bool) → AreSpelt false (if v then tag_of tags (number_from 0 name) else
        symbol.Tag name ∷ [])
    by true = tag_spelt tags (number_from 0 name) t
    by false = (h, tt)
symbol_spelt tags x t h = (h, tt)

filled_spelt : (tags word : List Symbol) → AreSpelt false tags → AreSpelt false word →
    AreSpelt false (fill_word tags word)
filled_spelt tags [] t h = tt
filled_spelt tags (x ∷ word) t h =
    subst (AreSpelt false) (sym (flat_map-cons (fill_symbol tags) x word))
    (spelt_append (fill_symbol tags x) (fill_word tags word) (symbol_spelt tags x t h.0)
    (filled_spelt tags word t h.1))

tags_spelt : (word : List Symbol) → AreSpelt false word → AreSpelt false (filter is_tag word)
tags_spelt [] h = tt
tags_spelt (x ∷ word) h = by (is_tag x) (tags_spelt word h.1)
  where
    by : (v : Bool) → AreSpelt false (filter is_tag word) →
        AreSpelt false (cond v (x ∷ filter is_tag word) (filter is_tag word))
    by true k = (h.0, k)
    by false k = k

-- the case that is carried

carried_spelt : (c : Case) (word : List Symbol) → AreSpelt false word →
    AreSpelt false (carry_lem c word)
carried_spelt c word h = let w = spelt_worded word h in
    words_are_spelt (carry_lem c word) (stays_proper c word w.0).0 (stays_coded c word w.1).0

carry_spelt : (c : Case) (words : List (List Symbol)) → EachSpelt words →
    EachSpelt (carry_words c words)
carry_spelt Low words h = h
carry_spelt First [] h = tt
carry_spelt First (word ∷ words) h = (carried_spelt First word h.0, h.1)
carry_spelt All words h = map_spelt (carry_lem All) (carried_spelt All) words h

-- a unit of a chunk

pub inner_spelt : (words : List (List Symbol)) → AreWords Lexical words → EachSpelt words
inner_spelt [] h = absurd h
inner_spelt (word ∷ words) h = (h.2, h.3)

content_spelt : (parts : List Inner) → AreParts parts → EachSpelt (content_words parts)
content_spelt [] h = tt
content_spelt (inner.Unit words ∷ parts) h =
    (word_spelt words (inner_spelt words h.0), content_spelt parts h.1)
content_spelt (inner.Blank bytes ∷ parts) h = content_spelt parts h.2

pub chunk_words_spelt : (name : List Symbol) (content : List Inner) → AreSpelt false name →
    AreParts content → EachSpelt (chunk_words name content)
chunk_words_spelt name content s h =
    carry_spelt _ (map (fill_word (filter is_tag name)) (content_words content))
    (map_spelt (fill_word (filter is_tag name))
    (λ word k. filled_spelt (filter is_tag name) word (tags_spelt name s) k)
    (content_words content) (content_spelt content h))
