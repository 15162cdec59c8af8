use Rattle.ap_pipe.proofs.JoinedRows.{joined_rows_agree}
use Rattle.ap_pipe.proofs.joined.joined_rows_agree.Goals as goal

pub returns : goal.returns
returns c = λ sensitive. joined_rows_agree _ (c.words_are_readable.ensures sensitive)
