-- Rows of stages, and what each gives for a text.
use Rattle.std.specs.Prelude.{◌≡◌, ℕ, Bool, false, List, [], ◌∷◌, ◌++◌, None}
use Rattle.ap_stream.specs.declared.dialect.Dialect.{Dialect}
use Rattle.ap_stream.specs.declared.dialect.Dialect.TheVariants.{Raw, Analysed, Lexical, Bilingual, Chunked, Generated}
use Rattle.ap_stream.specs.Pieces.{HaveSameSuperblanks}
use Rattle.ap_stream.specs.ReadOn.{WritesFor, NeverMalformed, Links}
use Rattle.ap_stream.specs.Told.{Told, Ending, Clean as Whole}
use Rattle.ap_live.specs.Lexicon.{Lexicon}
use Rattle.ap_analysis.specs.Whole.{analysis}
use Rattle.ap_lookup.specs.PostWorks.{post_generated_text}
use Rattle.ap_lookup.specs.Works.{bilingual_text, generated_text}
use Rattle.ap_lookup.specs.declared.generation_writer.Marks.TheVariants.{Marked, Clean, Tagged}
use Rattle.ap_passes.specs.Passes.{first_pass, split_pass}
use Rattle.ap_choose.specs.Sentences.{chosen_text}
use Rattle.ap_choose.specs.declared.forbidden.Pair.{Pair}
use Rattle.ap_compound.specs.Works.{compounds_text}
use Rattle.ap_format.specs.Deformatted.{des_text}
use Rattle.ap_format.specs.Reformatted.{ret_text}
use Rattle.ap_rules.specs.Plain.{PlainRules}
use Rattle.ap_rules.specs.Views.{plain_rules}
use Rattle.ap_rules.specs.declared.rules.Rules.{Rules}
use Rattle.ap_chunk.specs.Laws.{given_dialect}
use Rattle.ap_chunk.specs.Stages.{transferred_text, interchunked_text, postchunked_text}
use Rattle.ap_command.specs.Said.{Said}
use Rattle.ap_command.specs.declared.words.Mode.{Mode}
use Rattle.ap_command.specs.declared.words.Mode.TheVariants.{A, B, G, N, D, P}
use Rattle.ap_command.specs.Output.{IsLexicon, IsLexiconAlone}
use Rattle.ap_command.specs.Reading.{made_way}
use Rattle.ap_command.specs.Words.{way_of}

-- A stage of a row, with what the files say that it stands on.
pub data Stage : Type 0 where
  -- what `lt-proc` does in this mode by what the file says, and whether case counts
  ByFile : Mode → Said → Bool → Stage
  -- the first reading of each unit
  FirstReadings : Stage
  -- words taken apart
  SplitWords : Stage
  -- one reading of each unit, by these forbidden pairs of tags
  Chooses : List Pair → Stage
  -- transfer by these rules
  Transfers : PlainRules → Stage
  -- interchunk by these rules
  Interchunks : PlainRules → Stage
  -- postchunk by these rules
  Postchunks : PlainRules → Stage
  -- a plain text made a text of the stream
  Deformats : Stage
  -- a generated text made a plain text
  Reformats : Stage
  -- analysis by the words of a file that stand alone, and whether case counts
  AnalysesAlone : Said → Bool → Stage
  -- unknown words explained as compounds by the file, and whether case counts
  Explains : Said → Bool → Stage

-- What a stage reads or writes: a plain text, or a text of the stream in a dialect.
pub data TextKind : Type 0 where
  PlainText : TextKind
  StreamText : Dialect → TextKind

-- the nine stages of a whole translation, by what its seven files say: analysis, first readings,
-- words taken apart, bilingual lookup, transfer, interchunk, postchunk, generation with marks and
-- post-generation
abbrev pub translation : Said → Said → PlainRules → PlainRules → PlainRules → Said → Said →
    List Stage
translation mono bi t1x t2x t3x gen post = ByFile A mono false ∷ FirstReadings ∷ SplitWords
    ∷ ByFile B bi false ∷ Transfers t1x ∷ Interchunks t2x ∷ Postchunks t3x ∷ ByFile G gen false
    ∷ ByFile P post false ∷ []

-- the eleven stages of a whole translation of a plain text
abbrev pub plain_translation : Said → Said → PlainRules → PlainRules → PlainRules → Said → Said →
    List Stage
plain_translation mono bi t1x t2x t3x gen post =
    Deformats ∷ (translation mono bi t1x t2x t3x gen post ++ Reformats ∷ [])

-- the dialect that `lt-proc` reads in each mode, and the one in which it writes
abbrev pub read_by : Mode → Dialect
read_by A = Raw
read_by B = Lexical
read_by G = Lexical
read_by N = Lexical
read_by D = Lexical
read_by P = Generated

abbrev pub written_by : Mode → Dialect
written_by A = Analysed
written_by B = Bilingual
written_by G = Generated
written_by N = Generated
written_by D = Generated
written_by P = Generated

-- what a stage reads, and what it writes
abbrev pub stage_reads : Stage → TextKind
stage_reads (ByFile mode content sensitive) = StreamText (read_by mode)
stage_reads FirstReadings = StreamText Analysed
stage_reads SplitWords = StreamText Lexical
stage_reads (Chooses pairs) = StreamText Analysed
stage_reads (Transfers rules) = StreamText Bilingual
stage_reads (Interchunks rules) = StreamText Chunked
stage_reads (Postchunks rules) = StreamText Chunked
stage_reads Deformats = PlainText
stage_reads Reformats = StreamText Generated
stage_reads (AnalysesAlone content sensitive) = StreamText Raw
stage_reads (Explains content sensitive) = StreamText Analysed

abbrev pub stage_writes : Stage → TextKind
stage_writes (ByFile mode content sensitive) = StreamText (written_by mode)
stage_writes FirstReadings = StreamText Lexical
stage_writes SplitWords = StreamText Lexical
stage_writes (Chooses pairs) = StreamText Lexical
stage_writes (Transfers rules) = StreamText (given_dialect rules.default)
stage_writes (Interchunks rules) = StreamText Chunked
stage_writes (Postchunks rules) = StreamText Lexical
stage_writes Deformats = StreamText Raw
stage_writes Reformats = PlainText
stage_writes (AnalysesAlone content sensitive) = StreamText Analysed
stage_writes (Explains content sensitive) = StreamText Analysed

-- what a row of stages reads, and what it writes
abbrev pub row_reads : List Stage → TextKind
row_reads [] = PlainText
row_reads (s ∷ ss) = stage_reads s

abbrev pub row_writes : List Stage → TextKind
row_writes [] = PlainText
row_writes (s ∷ []) = stage_writes s
row_writes (s ∷ t ∷ ss) = row_writes (t ∷ ss)

-- what is written in a dialect is read in that dialect; no stage reads what another one writes as a
-- plain text
abbrev pub ReadAsWritten : TextKind → TextKind → Type 0
ReadAsWritten (StreamText written) (StreamText read) = read ≡ written
ReadAsWritten written read = ⊥

-- there are stages, and each reads what the one before it writes
abbrev pub AreJoined : List Stage → Type 0
AreJoined [] = ⊥
AreJoined (s ∷ []) = Unit {0}
AreJoined (s ∷ t ∷ ss) = ReadAsWritten (stage_writes s) (stage_reads t) × AreJoined (t ∷ ss)

-- what a stage gives for a text with this ending
abbrev pub Meaning : Type 0
Meaning = List ℕ → Ending → Told

-- what `lt-proc` gives in each mode, by a lexicon: analysis, bilingual lookup, generation,
-- post-generation
abbrev pub given_by : Mode → Lexicon → Bool → Meaning
given_by A lexicon sensitive = analysis lexicon sensitive
given_by B lexicon sensitive = bilingual_text lexicon sensitive
given_by G lexicon sensitive = generated_text lexicon Marked sensitive
given_by N lexicon sensitive = generated_text lexicon Clean sensitive
given_by D lexicon sensitive = generated_text lexicon Tagged sensitive
given_by P lexicon sensitive = post_generated_text lexicon sensitive

-- The stage gives this. Transfer, interchunk and postchunk are by the rules of a file, whose plain
-- rules alone decide it.
abbrev pub IsMeaning : Stage → Meaning → Type 0
IsMeaning (ByFile mode content sensitive) meaning =
    (lexicon : Lexicon) × IsLexicon (made_way (way_of mode)) content sensitive lexicon
    × (meaning ≡ given_by mode lexicon sensitive)
IsMeaning FirstReadings meaning = meaning ≡ first_pass
IsMeaning SplitWords meaning = meaning ≡ split_pass
IsMeaning (Chooses pairs) meaning = meaning ≡ chosen_text pairs
IsMeaning (Transfers rules) meaning =
    (file : Rules) × (plain_rules file ≡ rules) × (meaning ≡ transferred_text file)
IsMeaning (Interchunks rules) meaning =
    (file : Rules) × (plain_rules file ≡ rules) × (meaning ≡ interchunked_text file)
IsMeaning (Postchunks rules) meaning =
    (file : Rules) × (plain_rules file ≡ rules) × (meaning ≡ postchunked_text file)
IsMeaning Deformats meaning = meaning ≡ des_text
IsMeaning Reformats meaning = meaning ≡ ret_text
IsMeaning (AnalysesAlone content sensitive) meaning =
    (lexicon : Lexicon) × IsLexiconAlone (made_way (way_of A)) content sensitive lexicon
    × (meaning ≡ analysis lexicon sensitive)
IsMeaning (Explains content sensitive) meaning =
    (lexicon : Lexicon) × IsLexicon (made_way (way_of A)) content sensitive lexicon
    × (meaning ≡ compounds_text lexicon sensitive)

-- the stages give these, one after another
abbrev pub AreMeanings : List Stage → List Meaning → Type 0
AreMeanings [] [] = Unit {0}
AreMeanings [] (m ∷ ms) = ⊥
AreMeanings (s ∷ ss) [] = ⊥
AreMeanings (s ∷ ss) (m ∷ ms) = IsMeaning s m × AreMeanings ss ms

-- What is given without a fault for a whole text has the superblanks of that text.
abbrev pub KeepsSuperblanks : Dialect → Dialect → Meaning → Type 0
KeepsSuperblanks from to m = (text : List ℕ) → (m text Whole).fault ≡ None →
    HaveSameSuperblanks from to text (m text Whole).text

-- A text and what is written of it have the same superblanks. Of a plain text nothing is said.
abbrev pub HaveSame : TextKind → TextKind → List ℕ → List ℕ → Type 0
HaveSame (StreamText from) (StreamText to) text written = HaveSameSuperblanks from to text written
HaveSame from to text written = Unit {0}

-- the same of what a stage gives
abbrev pub KeepsAs : TextKind → TextKind → Meaning → Type 0
KeepsAs (StreamText from) (StreamText to) m = KeepsSuperblanks from to m
KeepsAs from to m = Unit {0}

-- each of the stages gives such texts
abbrev pub EachKeepsSuperblanks : List Stage → List Meaning → Type 0
EachKeepsSuperblanks [] [] = Unit {0}
EachKeepsSuperblanks [] (m ∷ ms) = ⊥
EachKeepsSuperblanks (s ∷ ss) [] = ⊥
EachKeepsSuperblanks (s ∷ ss) (m ∷ ms) = KeepsAs (stage_reads s) (stage_writes s) m
    × EachKeepsSuperblanks ss ms

-- This has the superblanks of the text that the last of the stages reads, where this text goes into
-- the first one.
abbrev pub KeptTo : TextKind → List ℕ → List Stage → List Meaning → List ℕ → Type 0
KeptTo from first (s ∷ []) (m ∷ ms) text = HaveSame from (stage_reads s) first text
KeptTo from first (s ∷ t ∷ ss) (m ∷ ms) text = KeptTo from first (t ∷ ss) ms (m text Whole).text
KeptTo from first ss ms text = Unit {0}

-- In a row of three stages or more what the last stage reads has the superblanks of what the first
-- one writes.
abbrev pub KeptInside : List Stage → List Meaning → List ℕ → Type 0
KeptInside (s ∷ t ∷ u ∷ ss) (m ∷ n ∷ ms) text = KeptTo (stage_writes s) (m text Whole).text
    (u ∷ ss) ms (n (m text Whole).text Whole).text
KeptInside ss ms text = Unit {0}

-- What is written of any text, with a fault or without, is read on in the dialect in which it is
-- written; and a text that is read on in the dialect in which it is read is never malformed for the
-- stage. Of a plain text nothing is said.
abbrev pub LinksAs : TextKind → TextKind → Meaning → Type 0
LinksAs (StreamText from) (StreamText to) m = Links from to m
LinksAs (StreamText from) PlainText m = NeverMalformed from m
LinksAs PlainText (StreamText to) m = WritesFor to m
LinksAs PlainText PlainText m = Unit {0}

-- each of the stages does so
abbrev pub EachLinks : List Stage → List Meaning → Type 0
EachLinks [] [] = Unit {0}
EachLinks [] (m ∷ ms) = ⊥
EachLinks (s ∷ ss) [] = ⊥
EachLinks (s ∷ ss) (m ∷ ms) = LinksAs (stage_reads s) (stage_writes s) m × EachLinks ss ms
