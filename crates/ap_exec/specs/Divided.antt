-- Where the lemma of a word ends.
use Rattle.std.specs.Prelude.{◌≡◌, ◌≤◌, List, length}
use Rattle.std.specs.List.{prefix_len}
use Rattle.ap_symbol.specs.declared.symbol.Symbol.{Symbol}
use Rattle.ap_exec.specs.Parts.{is_lemma, is_head}
use Rattle.ap_exec.specs.declared.divided.Division.{Division}

pub record IsDivision (word : List Symbol) (division : Division) : Type 0 where
  pub lemma : division.lemma ≡ prefix_len is_lemma word
  pub lemma_within : division.lemma ≤ length word
  pub head : division.head ≡ prefix_len is_head word
  pub head_within : division.head ≤ length word
