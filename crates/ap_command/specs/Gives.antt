-- What each command reads and gives. A new command has one line in each of these, and its words.
use Rattle.std.specs.Prelude.{ℕ, false, List, [], ◌∷◌, ◌++◌, length, decimal, codes}
use Rattle.ap_dix.specs.declared.dictionary.Dictionary.{Dictionary}
use Rattle.ap_dix.specs.declared.dictionary.Direction.{Direction}
use Rattle.ap_fst.specs.Machines.{Machine}
use Rattle.ap_fst.specs.Sections.{Parts}
use Rattle.ap_fst.specs.declared.compiled.Way.TheVariants as told
use Rattle.ap_fst.specs.declared.compiled.Kind2.{Kind2}
use Rattle.ap_fst.specs.declared.compiled.Kind2.TheVariants.{Standard, Inconditional, Postblank, Preblank}
use Rattle.ap_compile.specs.Compiling.{IsCompiledFrom}
use Rattle.ap_binary.specs.Text.{then_space, then_end}
use Rattle.ap_trim.specs.Trimming.{IsTrimmedBy}
use Rattle.ap_command.specs.declared.content.Content.TheVariants as code
use Rattle.ap_command.specs.declared.reading.Manner.TheVariants.{Either}
use Rattle.ap_command.specs.Reading.{IsKeptAs}
use Rattle.ap_command.specs.Said.{Said, Entries, Pairs, Rules}
use Rattle.ap_command.specs.declared.words.Command.{Command}
use Rattle.ap_command.specs.declared.words.Command.TheVariants.{Proc, Expand, Comp, Trim, First, Pretransfer, Choose, TransferAlone, Transfer, Interchunk, Postchunk, Destxt, Retxt, Compound, Run, Text, Work}
use Rattle.ap_command.specs.Listing.{listing}
use Rattle.ap_command.specs.Rows.{Stage, ByFile, FirstReadings, SplitWords, Chooses, Transfers, Interchunks, Postchunks, Deformats, Reformats, AnalysesAlone, Explains, translation, plain_translation}
use Rattle.ap_command.specs.declared.words.Mode.TheVariants.{B}

-- What is made of what the files say, to be stored.
pub data Making : Type 0 where
  -- a dictionary is compiled in this direction
  Compiles : Dictionary → Direction → Making
  -- what of an analyser a bilingual dictionary can translate
  Trims : Said → Said → Making

-- The analyser is what the one file says, compiled from left to right where it is to be compiled,
-- and so is the bilingual dictionary what the other one says; this is what is left of the analyser.
pub record IsLeftOf (mono bilingual : Said) (made : Parts) : Type 0 where
  pub analyser : Parts
  pub analyser_is : IsKeptAs (Either told.Lr) mono (code.Sections analyser)
  pub dictionary : Parts
  pub dictionary_is : IsKeptAs (Either told.Untold) bilingual (code.Sections dictionary)
  pub trimmed : IsTrimmedBy analyser dictionary made

-- The sections are made so.
abbrev pub IsMade : Making → Parts → Type 0
IsMade (Compiles d way) made = IsCompiledFrom d way made
IsMade (Trims mono bilingual) made = IsLeftOf mono bilingual made

-- What a command gives once its files are accepted.
pub data Gives : Type 0 where
  -- the stream goes through this row of stages
  Streams : List Stage → Gives
  -- this text is written, and nothing is taken
  Lists : List ℕ → Gives
  -- this is made and stored under the name at that place among the words, its summary is written,
  -- and nothing is taken
  Stores : ℕ → Making → Gives
  -- so many made sentences are translated by the built-in files, what is counted is written, and
  -- nothing is taken
  Works : ℕ → Gives
  -- what the files say isn't what the command reads: this never comes
  Nothing : Gives

abbrev pub gives_of : Command → List Said → Gives
gives_of (Proc mode sensitive file) (said ∷ []) = Streams (ByFile mode said sensitive ∷ [])
gives_of (Expand dix) (Entries d ∷ []) = Lists (listing d)
gives_of (Comp way dix out) (Entries d ∷ []) = Stores out (Compiles d way)
gives_of (Trim mono bi out) (m ∷ b ∷ []) = Stores out (Trims m b)
gives_of First [] = Streams (FirstReadings ∷ [])
gives_of Pretransfer [] = Streams (SplitWords ∷ [])
gives_of (Choose pairs) (Pairs ps ∷ []) = Streams (Chooses ps ∷ [])
gives_of (TransferAlone t1x) (Rules r ∷ []) = Streams (Transfers r ∷ [])
gives_of (Transfer t1x bidix) (Rules r ∷ said ∷ []) =
    Streams (ByFile B said false ∷ Transfers r ∷ [])
gives_of (Interchunk t2x) (Rules r ∷ []) = Streams (Interchunks r ∷ [])
gives_of (Postchunk t3x) (Rules r ∷ []) = Streams (Postchunks r ∷ [])
gives_of Destxt [] = Streams (Deformats ∷ [])
gives_of Retxt [] = Streams (Reformats ∷ [])
gives_of (Compound sensitive file) (said ∷ []) =
    Streams (AnalysesAlone said sensitive ∷ Explains said sensitive ∷ [])
gives_of (Run room at) (mono ∷ bi ∷ Rules t1x ∷ Rules t2x ∷ Rules t3x ∷ gen ∷ post ∷ []) =
    Streams (translation mono bi t1x t2x t3x gen post)
gives_of (Text room at) (mono ∷ bi ∷ Rules t1x ∷ Rules t2x ∷ Rules t3x ∷ gen ∷ post ∷ []) =
    Streams (plain_translation mono bi t1x t2x t3x gen post)
gives_of (Work sentences) [] = Works sentences
gives_of command said = Nothing

-- the name of a kind of sections
abbrev pub kind_name : Kind2 → List ℕ
kind_name Standard = codes "standard"
kind_name Inconditional = codes "inconditional"
kind_name Postblank = codes "postblank"
kind_name Preblank = codes "preblank"

-- the line of a section: its kind, how many states it has, and how many edges
abbrev pub section_line : Kind2 → Machine → List ℕ
section_line kind m = then_space (kind_name kind)
    ++ (then_space (decimal m.states) ++ then_end (decimal (length m.edges)))

-- what is written of sections that are stored: a line for each kind
abbrev pub summary : Parts → List ℕ
summary p = section_line Standard p.standard
    ++ (section_line Inconditional p.inconditional
    ++ (section_line Postblank p.postblank ++ section_line Preblank p.preblank))
