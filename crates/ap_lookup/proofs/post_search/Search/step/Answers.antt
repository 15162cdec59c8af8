use Rattle.std.proofs.Common.{ap, refl, Ok, arith}
use Rattle.ap_lookup.proofs.PostSearches.{stops_here, dead_here, goes_on, search_same}
use Rattle.ap_lookup.proofs.post_search.Search.step.Goals as goal

pub returns-in_err-fits-in-Some-clause-search : goal.returns-in_err-fits-in-Some-clause-search
returns-in_err-fits-in-Some-clause-search c =
    search_same c.args.compiled.now c.args.sensitive c.args.reads.now c.args.self.now _
    c.requires.search refl (c.in_err-fits-in-Some.ensures.err c.args.self.now.seen.items
    c.requires.search.lives_are) refl refl

pub returns-in-None-clause-ends : goal.returns-in-None-clause-ends
returns-in-None-clause-ends c = λ _. (
  refl,
  stops_here c.args.compiled.now c.args.sensitive c.args.reads.now c.args.self.now c.requires.search
      c.requires.more c.len-at.result (omega (arith, c.len-at.ensures)) c.index-reads-at.result
      c.in-None.ensures,
)

pub returns-then-not-fits-clause-ends : goal.returns-then-not-fits-clause-ends
returns-then-not-fits-clause-ends c = λ _. (
  refl,
  dead_here c.args.compiled.now c.args.sensitive c.args.reads.now c.args.self.now c.requires.search
      c.requires.more c.len-at.result (omega (arith, c.len-at.ensures)) c.index-reads-at.result
      c.in-Some.symbol c.in-Some.ensures
      (c.in_ok-fits-in-Some.ensures.off (ap Ok c.if-not-fits.true) c.args.self.now.seen.items
      (omega (arith, c.len-at.ensures)) c.requires.search.lives_are).1,
)

pub returns-in_err-keep-in-Some-clause-search : goal.returns-in_err-keep-in-Some-clause-search
returns-in_err-keep-in-Some-clause-search c =
    let on = c.in_ok-fits-in-Some.ensures.on (ap Ok c.if-not-fits.false) c.args.self.now.seen.items
    c.requires.search.lives_are in
    search_same c.args.compiled.now c.args.sensitive c.args.reads.now c.args.self.now _
    c.requires.search c.in_err-keep-in-Some.ensures.same
    (c.in_err-keep-in-Some.ensures.back c.args.compiled.now c.args.sensitive on.0)
    c.in_err-keep-in-Some.ensures.vain c.in_err-keep-in-Some.ensures.agreement

pub returns-in_ok-keep-in-Some-clause-search : goal.returns-in_ok-keep-in-Some-clause-search
returns-in_ok-keep-in-Some-clause-search c =
    let on = c.in_ok-fits-in-Some.ensures.on (ap Ok c.if-not-fits.false) c.args.self.now.seen.items
    c.requires.search.lives_are in
    goes_on c.args.compiled.now c.args.sensitive c.args.reads.now c.args.self.now c.requires.search
    c.requires.more c.len-at.result (omega (arith, c.len-at.ensures)) c.index-reads-at.result
    c.in-Some.symbol c.in-Some.ensures
    c.keep.new.self c.in_ok-keep-in-Some.ensures.seen
    (rw c.in_ok-keep-in-Some.ensures.lives on.0) on.1 c.in_ok-keep-in-Some.ensures.vain
    c.in_ok-keep-in-Some.ensures.agreement
