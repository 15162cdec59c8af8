use Rattle.std.proofs.Common.{◌≤◌, take}
use Rattle.ap_symbol.specs.Case.{is_upper_lem}
use Rattle.ap_symbol.specs.Recasing.{letters}
use Rattle.ap_symbol.proofs.Letters.{HasSeen}
use Rattle.ap_symbol.proofs.recasing.case_of_symbols.Given as goal

abbrev pub invariant-loop-symbol : goal.invariant-loop-symbol
invariant-loop-symbol l = record {
  seen : HasSeen is_upper_lem (letters (take l.symbol-index l.symbols)) l.count l.first_upper
      l.last_upper;
  few : l.count ≤ l.symbol-index;
}
