-- What the limit on an output counts.
use Rattle.std.specs.Prelude.{◌≡◌, ◌↔◌, ℕ, ◌+◌, ◌<◌, ◌≤◌, List, Ok, Err, [], ◌∷◌, ◌++◌, length}
use Rattle.ap_symbol.specs.declared.symbol.Symbol.{Symbol}
use Rattle.ap_rules.specs.Plain.{PlainRules, PlainStatements}
use Rattle.ap_stream.specs.declared.TheConstants.{SPAN_MAX}
use Rattle.ap_exec.specs.declared.matched.Matched.{Matched}
use Rattle.ap_exec.specs.declared.template.Piece.{Piece}
use Rattle.ap_exec.specs.Acting.{Outcome, act_of}
use Rattle.ap_exec.specs.Filling.{Mark, text, gap, marks}
use Rattle.ap_exec.specs.Pieces.{pieces_size}
use Rattle.ap_exec.specs.Results.{OutputTooLong}
use Rattle.ap_exec.specs.Running.{Definitions, RunState, placed, run_all, macros_below}
use Rattle.ap_exec.specs.Units.{Positions}

-- statements add pieces behind those that stand there, and take none back
abbrev pub PiecesAreAdded : Type 0
PiecesAreAdded = (w : Definitions) (macros : ℕ) (positions : Positions) (body : PlainStatements)
    (s t : RunState) → run_all w (macros_below w macros) positions body s ≡ Ok t →
    (more : List Piece) × (t.pieces ≡ s.pieces ++ more)

-- a further piece is too long exactly where the pieces with it have more bytes than an output may
-- have
abbrev pub LimitIsBySizes : Type 0
LimitIsBySizes = (s : RunState) (piece : Piece) →
    (placed piece s ≡ Err OutputTooLong) ↔ (SPAN_MAX < pieces_size (s.pieces ++ piece ∷ []))

-- what a rule gives has no more bytes than an output may have
abbrev pub OutputsAreWithin : Type 0
OutputsAreWithin = (r : PlainRules) (n : ℕ) (m : Matched) (vars : List (List Symbol)) (o : Outcome)
    → act_of r n m vars ≡ Ok o → pieces_size o.pieces ≤ SPAN_MAX

-- the bytes of the texts of a template, its slots aside
abbrev pub texts_size : List Mark → ℕ
texts_size [] = 0
texts_size (text bytes ∷ more) = length bytes + texts_size more
texts_size (gap ∷ more) = texts_size more

-- the bytes of the pieces are those that are written for them
abbrev pub TextsAreCounted : Type 0
TextsAreCounted = (template : List Piece) → texts_size (marks template) ≡ pieces_size template
