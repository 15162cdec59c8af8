-- Bilingual lookup (`lt-proc -b`) and generation (`lt-proc -g`, `-n`, `-d`) of the items of a text,
-- and of a whole text.
use Rattle.std.specs.Prelude.{ℕ, Bool, List, ◌++◌}
use Rattle.ap_symbol.specs.Kinds.{first_word}
use Rattle.ap_symbol.specs.declared.symbol.Symbol.{Symbol}
use Rattle.ap_stream.specs.Each.{Single, each, held_items}
use Rattle.ap_stream.specs.Reading.{reads}
use Rattle.ap_stream.specs.Rest.{worked}
use Rattle.ap_stream.specs.Told.{Told, Ending}
use Rattle.ap_stream.specs.declared.dialect.Dialect.TheVariants.{Lexical}
use Rattle.ap_stream.specs.declared.item.Read.{Read}
use Rattle.ap_live.specs.Lexicon.{Lexicon, lexicon_of}
use Rattle.ap_lookup.specs.Generating.{Generating}
use Rattle.ap_lookup.specs.Looking.{Looking}
use Rattle.ap_lookup.specs.Lookup.{bilingual, generated}
use Rattle.ap_lookup.specs.declared.generation_writer.Marks.{Marks}

-- what a unit gives
abbrev pub bilingual_unit : Lexicon → Bool → List (List Symbol) → List ℕ
bilingual_unit lexicon sensitive words = bilingual lexicon sensitive (first_word words)

abbrev pub generated_unit : Lexicon → Marks → Bool → List (List Symbol) → List ℕ
generated_unit lexicon marks sensitive words = generated lexicon marks sensitive (first_word words)

abbrev pub bilingual_text : Lexicon → Bool → List ℕ → Ending → Told
bilingual_text lexicon sensitive text ending =
    worked (each (bilingual_unit lexicon sensitive)) (reads Lexical 0 text) ending

abbrev pub generated_text : Lexicon → Marks → Bool → List ℕ → Ending → Told
generated_text lexicon marks sensitive text ending =
    worked (each (generated_unit lexicon marks sensitive)) (reads Lexical 0 text) ending

-- what is still to come of work where these items still come
abbrev pub bilingual_work : Single Looking → List Read → Told
bilingual_work h xs = each
    (bilingual_unit (lexicon_of h.writer.compiled h.writer.sensitive) h.writer.sensitive)
    (held_items h.item ++ xs)

abbrev pub generation_work : Single Generating → List Read → Told
generation_work h xs = each
    (generated_unit (lexicon_of h.writer.compiled h.writer.sensitive) h.writer.marks
    h.writer.sensitive) (held_items h.item ++ xs)
