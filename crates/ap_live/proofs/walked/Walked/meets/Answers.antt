use Rattle.std.proofs.Common.{inl, inr}
use Rattle.std.proofs.lemmas.Option.{IfSome_then}
use Rattle.ap_live.proofs.Walks.{found_met}
use Rattle.ap_live.proofs.walked.Walked.meets.Goals as goal

pub returns-in-None : goal.returns-in-None
returns-in-None c = IfSome_then c.find-in-None.result c.find-in-None.ensures (λ ahead found.
    found_met c.args.compiled.now c.args.self.now c.args.self.now.earlier c.args.place
    c.in_ok-place.place ahead c.in_ok-met.met c.args.lives.now c.alphabet.ensures.sound
    c.in_ok-place.ensures.1 (λ note i. inr i) c.in_ok-met.ensures found)

pub returns : goal.returns
returns c = IfSome_then c.find.result c.find.ensures (λ ahead found.
    found_met c.args.compiled.now c.args.self.now c.args.self.now.recent c.args.place
    c.in_ok-place.place ahead c.in_ok-met.met c.args.lives.now c.alphabet.ensures.sound
    c.in_ok-place.ensures.1 (λ note i. inl i) c.in_ok-met.ensures found)
