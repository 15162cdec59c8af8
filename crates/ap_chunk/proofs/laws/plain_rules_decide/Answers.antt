use Rattle.ap_chunk.proofs.SamePlain.{transferred_same, interchunked_same, postchunked_same}
use Rattle.ap_chunk.proofs.laws.plain_rules_decide.Goals as goal

pub returns : goal.returns
returns c = λ r s text ending same. (
  transferred_same r s same text ending,
  interchunked_same r s same text ending,
  postchunked_same r s same text ending,
)
