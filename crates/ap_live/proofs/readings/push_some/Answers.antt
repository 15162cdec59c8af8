use Rattle.std.proofs.lemmas.Result.{IfOk-weaker}
use Rattle.ap_symbol.specs.Recasing.{carry_lem}
use Rattle.ap_live.specs.Lexicon.{lexicon_of}
use Rattle.ap_live.proofs.AnyWords.{adds_carried}
use Rattle.ap_live.proofs.readings.push_some.Goals as goal

pub returns : goal.returns
returns c = IfOk-weaker c.push_carried.result _ _ (λ done added sensitive symbols live.
    adds_carried (carry_lem c.args.case) c.in_ok-words.words.items
    ((lexicon_of c.args.compiled.now sensitive).readings c.args.kind symbols)
    c.args.into.now.items c.push_carried.new.into.items added
    (c.in_ok-words.ensures sensitive symbols live)) c.push_carried.ensures
