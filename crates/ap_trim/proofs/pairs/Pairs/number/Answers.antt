use Rattle.ap_trim.proofs.Numbered.{key_numbered}
use Rattle.ap_trim.proofs.Pairing.{same_pair, pair_same}
use Rattle.ap_trim.proofs.pairs.Pairs.number.Goals as goal

pub returns : goal.returns
returns c =
    let s = c.in_ok-number.ensures.stored in
    rw (← c.self.view_is) (key_numbered same_pair c.self.inside.pairs.keys
    c.insert_full.new.self.keys c.args.pair c.in_ok-number.number pair_same
    c.in_ok-number.ensures.keys c.in_ok-number.ensures.index s.0 s.1 s.2)
