-- What is written for an item without a match has the superblanks of the item: a unit of transfer
-- has none, a chunk of interchunk stays, and a chunk of postchunk leaves its content.
use Rattle.std.specs.Prelude.{◌≡◌, ℕ, Bool, true, false, List, [], ◌∷◌, ◌++◌, refl, codes}
use Rattle.std.specs.List.{flat_map}
use Rattle.std.proofs.Common.{arith, ap, sym, subst, ◌∙◌, inl}
use Rattle.std.proofs.lemmas.List.{append-nil}
use Rattle.std.proofs.lemmas.List.Concat.{flat_map-cons}
use Rattle.ap_symbol.specs.Coded.{AreNamed}
use Rattle.ap_symbol.specs.Rendering.{rendering}
use Rattle.ap_symbol.specs.declared.symbol.Symbol.{Symbol}
use Rattle.ap_symbol.specs.declared.symbol.Symbol.TheVariants.{Letter, Tag}
use Rattle.ap_stream.specs.Laws.{AreSpelt, EachSpelt, AreWords, AreParts}
use Rattle.ap_stream.specs.Pieces.{HasSuperblanks, nothing, plain, BareStay, MakesNone}
use Rattle.ap_stream.specs.Spelling.{inner_bytes, chunk_bytes, spelled}
use Rattle.ap_stream.specs.Supers.{blank_supers, item_supers, inner_supers}
use Rattle.ap_stream.specs.declared.dialect.Dialect.{Dialect}
use Rattle.ap_stream.specs.declared.dialect.Dialect.TheVariants.{Bilingual, Lexical, Chunked}
use Rattle.ap_stream.specs.declared.item.Chunk.{Chunk}
use Rattle.ap_stream.specs.declared.item.Inner.{Inner}
use Rattle.ap_stream.specs.declared.item.Inner.TheVariants as inner
use Rattle.ap_stream.specs.declared.item.Item.{Item}
use Rattle.ap_stream.specs.declared.item.Item.TheVariants as item
use Rattle.ap_stream.proofs.Joined.{joined, one_piece}
use Rattle.ap_stream.proofs.Rows.{ChunkRow, IsRow}
use Rattle.ap_rules.specs.declared.rules.DefaultPiece.{DefaultPiece}
use Rattle.ap_rules.specs.declared.rules.DefaultPiece.TheVariants as default
use Rattle.ap_rules.specs.declared.rules.Form.{Form}
use Rattle.ap_rules.specs.declared.rules.Form.TheVariants.{Transfer, Interchunk, Postchunk}
use Rattle.ap_rules.specs.declared.rules.Rules.{Rules}
use Rattle.ap_chunk.specs.Chunks.{lone_unit, chunk_words, content_text}
use Rattle.ap_chunk.specs.Laws.{given_dialect}
use Rattle.ap_chunk.specs.Parts.{word_of}
use Rattle.ap_chunk.specs.Stages.{dialect_of}
use Rattle.ap_chunk.specs.Unmatched.{is_unknown, chunk_front, default_text, unit_text, chunk_text, unmatched_text}
use Rattle.ap_chunk.proofs.ChunksFilled.{chunk_has}
use Rattle.ap_chunk.proofs.FilledKept.{lone_none}
use Rattle.ap_chunk.proofs.ItemsRead.{no_unit, good_parts}
use Rattle.ap_chunk.proofs.OpenBlanks.{open_row}
use Rattle.ap_chunk.proofs.WordsWritten.{word_spelt, chunk_words_spelt}

-- what rules of a form give, chunks or units: those of transfer as their default says
abbrev pub given_by : Form → DefaultPiece → DefaultPiece
given_by Transfer d = d
given_by Interchunk d = default.Chunk
given_by Postchunk d = default.Lu

-- the dialect that they write
abbrev pub written_by : Form → DefaultPiece → Dialect
written_by form d = given_dialect (given_by form d)

-- a unit of transfer in a chunk of its own

fallback_name : Bool → List Symbol
fallback_name true = Letter 117 ∷ Letter 110 ∷ Letter 107 ∷ Letter 110 ∷ Letter 111 ∷ Letter 119
    ∷ Letter 110 ∷ Tag (codes "unknown") ∷ []
fallback_name false = Letter 100 ∷ Letter 101 ∷ Letter 102 ∷ Letter 97 ∷ Letter 117 ∷ Letter 108
    ∷ Letter 116 ∷ Tag (codes "default") ∷ []

lone_part : List Symbol → List Inner
lone_part [] = []
lone_part (x ∷ word) = inner.Unit ((x ∷ word) ∷ []) ∷ []

unknown_end : AreNamed (111 ∷ 119 ∷ 110 ∷ [])
unknown_end = (inl (omega arith), refl, (inl (omega arith), refl, (inl (omega arith), refl, tt)))

unknown_named : AreNamed (117 ∷ 110 ∷ 107 ∷ 110 ∷ 111 ∷ 119 ∷ 110 ∷ [])
unknown_named = (
  inl (omega arith),
  refl,
  (inl (omega arith), refl, (inl (omega arith), refl, (inl (omega arith), refl, unknown_end))),
)

default_end : AreNamed (117 ∷ 108 ∷ 116 ∷ [])
default_end = (inl (omega arith), refl, (inl (omega arith), refl, (inl (omega arith), refl, tt)))

default_named : AreNamed (100 ∷ 101 ∷ 102 ∷ 97 ∷ 117 ∷ 108 ∷ 116 ∷ [])
default_named = (
  inl (omega arith),
  refl,
  (inl (omega arith), refl, (inl (omega arith), refl, (inl (omega arith), refl, default_end))),
)

unknown_tag : AreSpelt false (Tag (codes "unknown") ∷ [])
unfolding lib.Utf8.encode
unknown_tag = ((refl, (codes "unknown", refl, unknown_named, omega arith)), tt)

default_tag : AreSpelt false (Tag (codes "default") ∷ [])
unfolding lib.Utf8.encode
default_tag = ((refl, (codes "default", refl, default_named, omega arith)), tt)

unknown_rest : AreSpelt false (Letter 111 ∷ Letter 119 ∷ Letter 110 ∷ Tag (codes "unknown") ∷ [])
unknown_rest = (
  (inl (omega arith), refl),
  ((inl (omega arith), refl), ((inl (omega arith), refl), unknown_tag)),
)

default_rest : AreSpelt false (Letter 117 ∷ Letter 108 ∷ Letter 116 ∷ Tag (codes "default") ∷ [])
default_rest = (
  (inl (omega arith), refl),
  ((inl (omega arith), refl), ((inl (omega arith), refl), default_tag)),
)

name_spelt : (v : Bool) → AreSpelt false (fallback_name v)
unfolding fallback_name
name_spelt true = (
  (inl (omega arith), refl),
  (
    (inl (omega arith), refl),
    ((inl (omega arith), refl), ((inl (omega arith), refl), unknown_rest)),
  ),
)
name_spelt false = (
  (inl (omega arith), refl),
  (
    (inl (omega arith), refl),
    ((inl (omega arith), refl), ((inl (omega arith), refl), default_rest)),
  ),
)

part_bytes : (word : List Symbol) → lone_unit word ≡ flat_map inner_bytes (lone_part word)
unfolding lone_part
part_bytes [] = refl
part_bytes (x ∷ word) =
    sym (flat_map-cons inner_bytes (inner.Unit ((x ∷ word) ∷ [])) []
    ∙ append-nil (inner_bytes (inner.Unit ((x ∷ word) ∷ [])))
    ∙ ap (λ (q : List ℕ). 94 ∷ (q ++ 36 ∷ [])) (append-nil (rendering (x ∷ word))))

part_supers : (word : List Symbol) → flat_map inner_supers (lone_part word) ≡ []
unfolding lone_part
part_supers [] = refl
part_supers (x ∷ word) = flat_map-cons inner_supers (inner.Unit ((x ∷ word) ∷ [])) []

front_is : (v : Bool) (q : List ℕ) → chunk_front v ++ (q ++ codes "}$")
    ≡ 94 ∷ (rendering (fallback_name v) ++ (123 ∷ (q ++ 125 ∷ 36 ∷ [])))
unfolding fallback_name lib.Utf8.encode
front_is true q = refl
front_is false q = refl

lone_chunk : (name word : List Symbol) → AreSpelt false name → AreSpelt false word →
    HasSuperblanks Chunked (chunk_bytes name (lone_part word))
    (flat_map inner_supers (lone_part word))
unfolding lone_part
lone_chunk name [] s k = chunk_has name [] s tt
lone_chunk name (x ∷ word) s k =
    chunk_has name (inner.Unit ((x ∷ word) ∷ []) ∷ []) s ((refl, omega arith, k, tt, refl), tt)

chunk_none : (v : Bool) (word : List Symbol) → AreSpelt false word →
    HasSuperblanks Chunked (chunk_front v ++ (lone_unit word ++ codes "}$")) []
chunk_none v word s =
    let same : chunk_front v ++ (lone_unit word ++ codes "}$")
    ≡ chunk_bytes (fallback_name v) (lone_part word) =
    front_is v (lone_unit word) ∙ ap (λ (q : List ℕ).
    94 ∷ (rendering (fallback_name v) ++ (123 ∷ (q ++ 125 ∷ 36 ∷ [])))) (part_bytes word) in
    subst (λ (q : List ℕ). HasSuperblanks Chunked q []) (sym same)
    (subst (λ (q : List (List ℕ)).
    HasSuperblanks Chunked (chunk_bytes (fallback_name v) (lone_part word)) q) (part_supers word)
    (lone_chunk (fallback_name v) word (name_spelt v) s))

abbrev given : DefaultPiece → List (List Symbol) → List ℕ
given d words = default_text d (word_of 0 words) (word_of 1 words)

given_none : (d : DefaultPiece) → MakesNone Bilingual (given_dialect d) (given d)
given_none d [] h = absurd h
given_none default.Lu (word ∷ words) h = lone_none (word_of 0 words) (word_spelt words h.3)
given_none default.Chunk (word ∷ words) h =
    chunk_none (is_unknown word) (word_of 0 words) (word_spelt words h.3)

-- characters that stand bare

bare_stays : (form : Form) (d : DefaultPiece) → BareStay (dialect_of form) (written_by form d)
bare_stays Transfer default.Lu = λ c h. h
bare_stays Transfer default.Chunk = λ c h. h
bare_stays Interchunk d = λ c h. h
bare_stays Postchunk d = λ c h. h

-- units

unit_kept : (form : Form) (d : DefaultPiece) (words : List (List Symbol)) →
    AreWords (dialect_of form) words →
    HasSuperblanks (written_by form d) (unit_text form d words) []
unit_kept Transfer d words h = given_none d words h
unit_kept Interchunk d words h = no_unit words h
unit_kept Postchunk d words h = no_unit words h

-- chunks

-- a content has the superblanks of its blanks, whatever words stand in it
content_has : (parts : List Inner) (words : List (List Symbol)) → AreParts parts →
    EachSpelt words →
    HasSuperblanks Lexical (content_text parts words) (flat_map inner_supers parts)
content_has [] words h k = nothing refl refl
content_has (inner.Blank bytes ∷ parts) words h k =
    subst (λ (q : List (List ℕ)). HasSuperblanks Lexical (bytes ++ content_text parts words) q)
    (sym (flat_map-cons inner_supers (inner.Blank bytes) parts))
    (joined Lexical bytes (content_text parts words) (blank_supers 0 bytes)
    (flat_map inner_supers parts) (open_row bytes h.0.1 Lexical) (content_has parts words h.2 k))
content_has (inner.Unit old ∷ parts) [] h k =
    subst (λ (q : List (List ℕ)). HasSuperblanks Lexical (content_text parts []) q)
    (sym (flat_map-cons inner_supers (inner.Unit old) parts)) (content_has parts [] h.1 k)
content_has (inner.Unit old ∷ parts) (word ∷ words) h k =
    subst
    (λ (q : List (List ℕ)). HasSuperblanks Lexical (lone_unit word ++ content_text parts words) q)
    (sym (flat_map-cons inner_supers (inner.Unit old) parts))
    (joined Lexical (lone_unit word) (content_text parts words) [] (flat_map inner_supers parts)
    (lone_none word k.0) (content_has parts words h.1 k.1))

chunk_kept : (form : Form) (d : DefaultPiece) (c : Chunk) (bytes : List ℕ) →
    ChunkRow (dialect_of form) c bytes →
    HasSuperblanks (written_by form d) (chunk_text form c.name c.content)
    (flat_map inner_supers c.content)
chunk_kept Transfer d c bytes h = absurd h
chunk_kept Interchunk d c bytes h = chunk_has c.name c.content h.1 (good_parts c.content h.2)
chunk_kept Postchunk d c bytes h =
    content_has c.content (chunk_words c.name c.content) h.2
    (chunk_words_spelt c.name c.content h.1 h.2)

-- items

pub unmatched_kept : (rules : Rules) (thing : Item) (bytes : List ℕ) →
    IsRow (dialect_of rules.form) thing bytes →
    HasSuperblanks (written_by rules.form rules.default) (unmatched_text rules thing)
    (item_supers thing)
unmatched_kept rules (item.Plain c) bytes h =
    one_piece (written_by rules.form rules.default) (spelled (item.Plain c)) []
    (plain (record {
      character = c;
      code = h.0;
      allowed = λ e. bare_stays rules.form rules.default c.letter (h.1 e);
      spelled = refl;
    }) refl)
unmatched_kept rules (item.Blank all) bytes h =
    subst (λ (q : List ℕ). HasSuperblanks (written_by rules.form rules.default) q
    (blank_supers 0 q)) (sym h.0) (h.1 (written_by rules.form rules.default))
unmatched_kept rules (item.Unit words) bytes h = unit_kept rules.form rules.default words h.1
unmatched_kept rules (item.Chunk c) bytes h = chunk_kept rules.form rules.default c bytes h
