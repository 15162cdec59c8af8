-- What running a rule keeps: its words are words of the program. And what it may give.
use Rattle.std.specs.Prelude.{◌≡◌, ℕ, Bool, true, false, List, Ok}
use Rattle.ap_symbol.specs.declared.symbol.Symbol.{Symbol}
use Rattle.ap_rules.specs.Plain.{PlainRules}
use Rattle.ap_rules.specs.Soundness.{Opt, Each, IsSound, have_chunks}
use Rattle.ap_rules.specs.Views.{plain_rules}
use Rattle.ap_rules.specs.Worded.{IsWorded, AreWorded}
use Rattle.ap_rules.specs.declared.rules.Rules.{Rules}
use Rattle.ap_stream.specs.declared.item.Inner.{Inner}
use Rattle.ap_stream.specs.declared.item.Inner.TheVariants as inner
use Rattle.ap_exec.specs.Acting.{act_of, Outcome}
use Rattle.ap_exec.specs.FillingLaws.{IsWordedAtom}
use Rattle.ap_exec.specs.Starting.{start_of}
use Rattle.ap_exec.specs.declared.matched.Matched.{Matched}
use Rattle.ap_exec.specs.declared.matched.MatchedUnit.{MatchedUnit}
use Rattle.ap_exec.specs.declared.template.Atom.TheVariants.{Unit as The_unit, Slot, Space}
use Rattle.ap_exec.specs.declared.template.Piece.{Piece}
use Rattle.ap_exec.specs.declared.template.Piece.TheVariants.{Atom as The_atom, Chunk}

-- the words of a part of a chunk are words of the program
abbrev pub IsWordedInner : Inner → Type 0
IsWordedInner (inner.Unit words) = Each IsWorded words
IsWordedInner (inner.Blank bytes) = Unit {0}

-- those of a unit of a match
pub record IsWordedMatched (unit : MatchedUnit) : Type 0 where
  pub source : IsWorded unit.source
  pub head : IsWorded unit.head
  pub queue : IsWorded unit.queue
  pub content : Each IsWordedInner unit.content

-- those of a match
pub record IsWordedMatch (m : Matched) : Type 0 where
  pub chunk : Opt IsWorded m.chunk
  pub units : Each IsWordedMatched m.units

-- those of a piece of an output: of its units, and its name
abbrev pub IsWordedOutput : Piece → Type 0
IsWordedOutput (The_atom a) = IsWordedAtom a
IsWordedOutput (Chunk name atoms) = IsWorded name × Each IsWordedAtom atoms

-- where the words of the rules, of the match and of the variables are words of the program, so are
-- those that a rule gives and leaves in the variables
abbrev pub RunningKeepsWords : Type 0
RunningKeepsWords = (r : PlainRules) (rule : ℕ) (matched : Matched) (vars : List (List Symbol))
    (o : Outcome) → AreWorded r → IsWordedMatch matched → Each IsWorded vars
    → act_of r rule matched vars ≡ Ok o → Each IsWordedOutput o.pieces × Each IsWorded o.vars

-- so are those that the variables hold at the start
abbrev pub StartingKeepsWords : Type 0
StartingKeepsWords = (rules : Rules) → AreWorded (plain_rules rules) →
    Each IsWorded (start_of rules)

-- a piece of an output that holds chunks, or of one that holds units; blanks may stand in both
abbrev pub IsOfOutput : Bool → Piece → Type 0
IsOfOutput chunks (The_atom (The_unit word)) = chunks ≡ false
IsOfOutput chunks (The_atom Slot) = Unit {0}
IsOfOutput chunks (The_atom Space) = Unit {0}
IsOfOutput chunks (Chunk name atoms) = chunks ≡ true

-- Sound rules give chunks and no units outside of them where their outputs hold chunks, and else
-- units alone. Those of transfer hold chunks where these are the default.
abbrev pub SoundRulesGive : Type 0
SoundRulesGive = (r : PlainRules) (rule : ℕ) (matched : Matched) (vars : List (List Symbol))
    (o : Outcome) → IsSound r → act_of r rule matched vars ≡ Ok o
    → Each (IsOfOutput (have_chunks r.form r.default)) o.pieces
