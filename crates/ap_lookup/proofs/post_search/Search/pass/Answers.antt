use Rattle.std.proofs.Common.{ℕ, drop, subst}
use Rattle.ap_live.proofs.Coherence.{coherent}
use Rattle.ap_lookup.specs.PostSearching.{IsAgreement}
use Rattle.ap_lookup.proofs.PostSearches.{search_left}
use Rattle.ap_lookup.proofs.post_search.Search.pass.Goals as goal

pub returns-then-self-lt-WORTH_KEEPING : goal.returns-then-self-lt-WORTH_KEEPING
returns-then-self-lt-WORTH_KEEPING c = λ sensitive is.
    c.restart.ensures c.args.compiled.now sensitive c.args.reads.now
    (drop c.args.count c.args.reads.now) is

pub returns : goal.returns
returns c = λ sensitive is.
    let agreed = subst (λ (k : ℕ). IsAgreement (drop k c.args.reads.now) c.left-self.result)
    c.extend-agreement.ensures.by (c.left-self.ensures c.args.reads.now
    c.extend-agreement.ensures.agreed) in
    let here = rw c.extend-agreement.ensures.by at c.extend-agreement.ensures.agreed in
    search_left c.args.compiled.now sensitive c.args.reads.now c.args.self.now _ c.args.count
    c.extend-agreement.result.count
    (coherent c.args.compiled.now sensitive c.alphabet.ensures.sound) is here
    c.cut.ensures.seen (c.cut.ensures.lives c.args.compiled.now sensitive is.lives_are)
    c.cut.ensures.vain c.cut.ensures.within agreed
