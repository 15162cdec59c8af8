use Rattle.ap_symbol.proofs.Partners.{lower_white, upper_white}
use Rattle.ap_symbol.proofs.Coded.{stays_coded}
use Rattle.ap_symbol.proofs.RecasedWords.{stays_proper, keeps_bytes}
use Rattle.ap_symbol.proofs.case_laws.case_keeps_words.Goals as goal

pub returns : goal.returns
returns c = record {
  white = λ n. (lower_white n, upper_white n);
  proper = stays_proper;
  coded =
      stays_coded;
  bytes = keeps_bytes;
}
