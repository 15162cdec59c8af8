use Rattle.ap_symbol.proofs.Partners.{partner_twice}
use Rattle.ap_symbol.proofs.CaseLaws.{inverse, not_both, upper_moves, lower_moves}
use Rattle.ap_symbol.proofs.case_laws.partners_are_inverse.Goals as goal

pub returns : goal.returns
returns c = record {
  inverse = inverse;
  not_both = not_both;
  upper_moves =
      upper_moves;
  lower_moves = lower_moves;
  partner = partner_twice;
}
