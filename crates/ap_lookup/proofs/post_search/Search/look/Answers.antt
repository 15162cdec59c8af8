use Rattle.std.proofs.Common.{arith, ◌∙◌, ap, Ok, length}
use Rattle.ap_live.specs.Lexicon.{lexicon_of}
use Rattle.ap_live.proofs.Coherence.{coherent}
use Rattle.ap_lookup.proofs.PostSearches.{end_is, search_back, match_is_seen, found_is, settled_by}
use Rattle.ap_lookup.proofs.post_search.Search.look.Goals as goal

pub returns-then-is_open-clause-waits : goal.returns-then-is_open-clause-waits
returns-then-is_open-clause-waits c = λ _.
    let both = c.is_open.ensures.unknown c.if-is_open.true in (
      both.1,
      end_is (lexicon_of c.args.compiled.now c.args.sensitive) c.args.reads.now
          (length c.step_on.new.self.seen.items)
          (coherent c.args.compiled.now c.args.sensitive c.alphabet.ensures.sound)
          c.in_ok-ends.ensures.ends ∙ c.in_ok-ends.ensures.all (ap Ok both.0),
    )

pub returns-clause-search : goal.returns-clause-search
returns-clause-search c =
    search_back c.args.compiled.now c.args.sensitive c.args.reads.now c.step_on.new.self
    c.step_back-matched.new.self c.step_back-matched.result
    (coherent c.args.compiled.now c.args.sensitive c.alphabet.ensures.sound)
    c.in_ok-ends.ensures.search c.step_back-matched.ensures.value c.step_back-matched.ensures.back
    c.step_back-matched.ensures.lives

pub returns-clause-found : goal.returns-clause-found
returns-clause-found c =
    let n = length c.step_on.new.self.seen.items in
    let settled = settled_by c.in_ok-ends.ends c.args.finished n (length c.args.reads.now)
    (λ e. c.in_ok-ends.ensures.more (ap Ok e)) (c.is_open.ensures.known c.if-is_open.false) in
    found_is (lexicon_of c.args.compiled.now c.args.sensitive) c.args.reads.now
    c.step_on.new.self.seen.items c.step_back-matched.result c.len-span.result c.args.finished
    (coherent c.args.compiled.now c.args.sensitive c.alphabet.ensures.sound)
    c.in_ok-ends.ensures.search.seen_are c.in_ok-ends.ensures.ends c.step_back-matched.ensures.value
    (omega (arith, c.len-span.ensures)) settled

pub returns-clause-at : goal.returns-clause-at
returns-clause-at c =
    match_is_seen c.args.compiled.now c.args.sensitive c.args.reads.now c.step_on.new.self
    c.step_back-matched.new.self c.step_back-matched.result
    (coherent c.args.compiled.now c.args.sensitive c.alphabet.ensures.sound)
    c.in_ok-ends.ensures.search c.step_back-matched.ensures.value c.step_back-matched.ensures.back
