-- What the laws of look-ups say.
use Rattle.std.specs.Prelude.{◌≡◌, ◌⊎◌, ℕ, ◌<◌, ◌≤◌, Bool, true, List, length, take, None}
use Rattle.ap_symbol.specs.Kinds.{is_marked}
use Rattle.ap_symbol.specs.Lists.{IsIn}
use Rattle.ap_symbol.specs.declared.symbol.Symbol.{Symbol}
use Rattle.ap_fst.specs.declared.compiled.Kind2.{Kind2}
use Rattle.ap_live.specs.Lexicon.{Lexicon}
use Rattle.ap_live.specs.Readable.{GivesReadable}
use Rattle.ap_stream.specs.Pieces.{HaveSameSuperblanks}
use Rattle.ap_stream.specs.ReadOn.{Links}
use Rattle.ap_stream.specs.Told.{Clean}
use Rattle.ap_stream.specs.declared.dialect.Dialect.TheVariants.{Lexical, Bilingual, Generated}
use Rattle.ap_lookup.specs.PostWorks.{post_generated_text}
use Rattle.ap_lookup.specs.Translation.{lemma_length}
use Rattle.ap_lookup.specs.Works.{bilingual_text, generated_text}
use Rattle.ap_lookup.specs.declared.generation_writer.Marks.{Marks}

-- the first n symbols of a word hold its whole lemma, and a left word of some kind fits them
pub record IsPrefix (lexicon : Lexicon) (word : List Symbol) (n : ℕ) : Type 0 where
  pub some : 0 < n
  pub within : n ≤ length word
  pub whole : lemma_length word ≤ n
  pub kind : Kind2
  pub right : List Symbol
  pub read : IsIn right (lexicon.readings kind (take n word))

-- and no longer prefix does so
pub record IsLongest (lexicon : Lexicon) (word : List Symbol) (n : ℕ) : Type 0 where
  pub prefix : IsPrefix lexicon word n
  pub none_longer : (m : ℕ) → n < m → IsPrefix lexicon word m → ⊥

-- the word begins with * or @, or has no such prefix
abbrev pub HasNone : Lexicon → List Symbol → Type 0
HasNone lexicon word = (is_marked word ≡ true) ⊎ ((n : ℕ) → IsPrefix lexicon word n → ⊥)

-- where the bilingual text of a lexical one has no fault, it has its superblanks
abbrev pub BilingualKeeps : Type 0
BilingualKeeps = (lexicon : Lexicon) (sensitive : Bool) (text : List ℕ) → GivesReadable lexicon
    → (bilingual_text lexicon sensitive text Clean).fault ≡ None
    → HaveSameSuperblanks Lexical Bilingual text (bilingual_text lexicon sensitive text Clean).text

-- so has the text that is generated of it
abbrev pub GenerationKeeps : Type 0
GenerationKeeps = (lexicon : Lexicon) (marks : Marks) (sensitive : Bool) (text : List ℕ) →
    GivesReadable lexicon
    → (generated_text lexicon marks sensitive text Clean).fault ≡ None
    → HaveSameSuperblanks Lexical Generated text
    (generated_text lexicon marks sensitive text Clean).text

-- and so has the text that post-generation makes of a generated one
abbrev pub PostGenerationKeeps : Type 0
PostGenerationKeeps = (lexicon : Lexicon) (sensitive : Bool) (text : List ℕ) → GivesReadable lexicon
    → (post_generated_text lexicon sensitive text Clean).fault ≡ None
    → HaveSameSuperblanks Generated Generated text
    (post_generated_text lexicon sensitive text Clean).text

-- the bilingual text of any text is read on as bilingual text, and a lexical text that is read on
-- is never malformed for the look-up
abbrev pub BilingualIsRead : Type 0
BilingualIsRead = (lexicon : Lexicon) (sensitive : Bool) → GivesReadable lexicon →
    Links Lexical Bilingual (bilingual_text lexicon sensitive)

-- so it is with what is generated
abbrev pub GenerationIsRead : Type 0
GenerationIsRead = (lexicon : Lexicon) (marks : Marks) (sensitive : Bool) → GivesReadable lexicon →
    Links Lexical Generated (generated_text lexicon marks sensitive)

-- and with what post-generation makes
abbrev pub PostGenerationIsRead : Type 0
PostGenerationIsRead = (lexicon : Lexicon) (sensitive : Bool) → GivesReadable lexicon →
    Links Generated Generated (post_generated_text lexicon sensitive)
