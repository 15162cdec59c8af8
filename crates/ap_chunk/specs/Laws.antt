-- What the laws of chunk stages say.
use Rattle.std.specs.Prelude.{◌≡◌, ℕ, false, List, [], ◌∷◌, None, Ok}
use Rattle.std.specs.List.{AllByRecursion}
use Rattle.ap_symbol.specs.Coded.{AreCoded}
use Rattle.ap_symbol.specs.Words.{AreProper}
use Rattle.ap_stream.specs.Laws.{AreSpelt, EachSpelt}
use Rattle.ap_stream.specs.Pieces.{HaveSameSuperblanks}
use Rattle.ap_stream.specs.ReadOn.{Links}
use Rattle.ap_stream.specs.Told.{Ending, Clean}
use Rattle.ap_stream.specs.declared.dialect.Dialect.{Dialect}
use Rattle.ap_stream.specs.declared.dialect.Dialect.TheVariants.{Bilingual, Lexical, Chunked}
use Rattle.ap_rules.specs.Soundness.{IsSound}
use Rattle.ap_rules.specs.Views.{plain_rules}
use Rattle.ap_rules.specs.Worded.{AreWorded}
use Rattle.ap_rules.specs.declared.rules.DefaultPiece.{DefaultPiece}
use Rattle.ap_rules.specs.declared.rules.DefaultPiece.TheVariants as default
use Rattle.ap_rules.specs.declared.rules.Form.TheVariants.{Transfer, Interchunk, Postchunk}
use Rattle.ap_rules.specs.declared.rules.Rules.{Rules}
use Rattle.ap_exec.specs.Acting.{act_of, Outcome}
use Rattle.ap_exec.specs.FillingLaws.{HoldUnits, IsWordedAtom}
use Rattle.ap_exec.specs.Starting.{start_of}
use Rattle.ap_exec.specs.declared.matched.MatchedUnit.{MatchedUnit}
use Rattle.ap_exec.specs.declared.template.Atom.{Atom}
use Rattle.ap_exec.specs.declared.template.Atom.TheVariants.{Unit as The_unit, Slot, Space}
use Rattle.ap_exec.specs.declared.template.Piece.{Piece}
use Rattle.ap_exec.specs.declared.template.Piece.TheVariants.{Atom as The_atom, Chunk}
use Rattle.ap_chunk.specs.Carrying.{Held}
use Rattle.ap_chunk.specs.Stages.{transferred_text, interchunked_text, postchunked_text}

-- the words of a unit of transfer can be written
pub record IsSpeltUnit (unit : MatchedUnit) : Type 0 where
  pub source : AreSpelt false unit.source
  pub head : AreSpelt false unit.head
  pub queue : unit.queue ≡ []
  pub content : unit.content ≡ []

-- the words of a chunk's atoms are words of the program
abbrev pub HoldAtoms : List Atom → Type 0
HoldAtoms [] = Unit {0}
HoldAtoms (a ∷ more) = IsWordedAtom a × HoldAtoms more

-- the template has units in chunks alone, and its words are words of the program
abbrev pub HoldChunks : List Piece → Type 0
HoldChunks [] = Unit {0}
HoldChunks (The_atom (The_unit word) ∷ more) = ⊥
HoldChunks (The_atom Slot ∷ more) = HoldChunks more
HoldChunks (The_atom Space ∷ more) = HoldChunks more
HoldChunks (Chunk name atoms ∷ more) =
    (AreProper name × AreCoded name) × HoldAtoms atoms × HoldChunks more

-- what rules of transfer may give, by their default: units, or chunks
abbrev pub MayGive : DefaultPiece → List Piece → Type 0
MayGive default.Lu pieces = HoldUnits pieces
MayGive default.Chunk pieces = HoldChunks pieces

-- the dialect that they give
abbrev pub given_dialect : DefaultPiece → Dialect
given_dialect default.Lu = Lexical
given_dialect default.Chunk = Chunked

-- Rules of transfer whose words can be written: so do their variables at the start, and what a rule
-- gives and leaves in them, where it is run on such words; and a rule gives chunks alone where they
-- are the default, and else units alone.
pub record GivesWritten (rules : Rules) : Type 0 where
  pub start : EachSpelt (start_of rules)
  pub on : (rule : ℕ) (units : List MatchedUnit) (vars : Held) (o : Outcome) →
      AllByRecursion IsSpeltUnit units → EachSpelt vars
      → act_of (plain_rules rules) rule (record { chunk = None; units = units }) vars ≡ Ok o →
      MayGive rules.default o.pieces × EachSpelt o.vars

-- where transfer by such rules gives a text without a fault, it has the superblanks of the
-- bilingual
-- one
abbrev pub TransferKeeps : Type 0
TransferKeeps = (rules : Rules) (text : List ℕ) → rules.form ≡ Transfer → GivesWritten rules
    → (transferred_text rules text Clean).fault ≡ None →
    HaveSameSuperblanks Bilingual (given_dialect rules.default) text
    (transferred_text rules text Clean).text

-- Where the words of rules of transfer are words of the program and the rules are sound, their
-- words can be written, and they give what their default says.
abbrev pub SoundGivesWritten : Type 0
SoundGivesWritten = (rules : Rules) → rules.form ≡ Transfer → AreWorded (plain_rules rules)
    → IsSound (plain_rules rules) → GivesWritten rules

-- so where transfer by them gives a text without a fault, it has the superblanks of the bilingual
-- one
abbrev pub SoundTransferKeeps : Type 0
SoundTransferKeeps = (rules : Rules) (text : List ℕ) → rules.form ≡ Transfer
    → AreWorded (plain_rules rules) → IsSound (plain_rules rules)
    → (transferred_text rules text Clean).fault ≡ None →
    HaveSameSuperblanks Bilingual (given_dialect rules.default) text
    (transferred_text rules text Clean).text

-- Interchunk by sound rules whose words are words of the program: where it gives a text without a
-- fault, that has the superblanks of the one that it reads, those in chunks too.
abbrev pub SoundInterchunkKeeps : Type 0
SoundInterchunkKeeps = (rules : Rules) (text : List ℕ) → rules.form ≡ Interchunk
    → AreWorded (plain_rules rules) → IsSound (plain_rules rules)
    → (interchunked_text rules text Clean).fault ≡ None →
    HaveSameSuperblanks Chunked Chunked text (interchunked_text rules text Clean).text

-- Postchunk by such rules: the text of units has the superblanks of the text of chunks.
abbrev pub SoundPostchunkKeeps : Type 0
SoundPostchunkKeeps = (rules : Rules) (text : List ℕ) → rules.form ≡ Postchunk
    → AreWorded (plain_rules rules) → IsSound (plain_rules rules)
    → (postchunked_text rules text Clean).fault ≡ None →
    HaveSameSuperblanks Chunked Lexical text (postchunked_text rules text Clean).text

-- What transfer by such rules writes, with a fault or without, is read on as chunks or as units; and
-- a bilingual text that is read on is never malformed for it.
abbrev pub TransferIsRead : Type 0
TransferIsRead = (rules : Rules) → rules.form ≡ Transfer → AreWorded (plain_rules rules)
    → IsSound (plain_rules rules) →
    Links Bilingual (given_dialect rules.default) (transferred_text rules)

-- so it is of interchunk, and of a text of chunks
abbrev pub InterchunkIsRead : Type 0
InterchunkIsRead = (rules : Rules) → rules.form ≡ Interchunk → AreWorded (plain_rules rules)
    → IsSound (plain_rules rules) → Links Chunked Chunked (interchunked_text rules)

-- and of postchunk, which writes units
abbrev pub PostchunkIsRead : Type 0
PostchunkIsRead = (rules : Rules) → rules.form ≡ Postchunk → AreWorded (plain_rules rules)
    → IsSound (plain_rules rules) → Links Chunked Lexical (postchunked_text rules)

-- what the stages give depends on the plain rules alone
abbrev pub PlainRulesDecide : Type 0
PlainRulesDecide = (r s : Rules) (text : List ℕ) (ending : Ending) → plain_rules r ≡ plain_rules s →
    (transferred_text r text ending ≡ transferred_text s text ending)
    × (interchunked_text r text ending ≡ interchunked_text s text ending)
    × (postchunked_text r text ending ≡ postchunked_text s text ending)
