use Rattle.ap_command.specs.Words.{texts}
use Rattle.ap_command.specs.Outside.{stands}
use Rattle.ap_command.proofs.Honest.{exact-from, complete-from, flawed-from}
use Rattle.ap_command.proofs.Leaving.{untouched-from, loaded-from}
use Rattle.ap_command.proofs.OneReading.{Laws}
use Rattle.ap_command.proofs.Reasons.{usage-from, reason-from, calm-from, spared-from}
use Rattle.ap_command.proofs.Behind.{behind-from}
use Rattle.ap_command.proofs.Fronts.{broken-from, stored-from, starved-from}
use Rattle.ap_command.proofs.Kept.{superblanks-from}
use Rattle.ap_command.proofs.top.run_words.Goals as goal

pub returns-clause-account : goal.returns-clause-account
returns-clause-account g c =
    let laws : Laws = record {
      one = c.one_reading.ensures.one;
      one_fault = c.one_reading.ensures.one_fault;
      no_fault = c.one_reading.ensures.no_fault;
    } in
    let words = texts c.args.words.now in
    let before = stands g.F.Files g.S.Source g.K.Sink c.args.files.now c.args.source.now
    c.args.sink.now in
    let after = stands g.F.Files g.S.Source g.K.Sink c.run-status.new.files c.run-status.new.source
    c.run-status.new.sink in
    let status = c.run-status.result in
    let answer = c.run-status.ensures.answer in
    record {
      exact = exact-from laws words before after status answer;
      complete = complete-from laws c.one_meaning.ensures words before after status answer;
      refuses = flawed-from laws words before after status answer;
      usage = usage-from words before after status answer;
      reason = reason-from words before after status answer;
      superblanks = superblanks-from words before after status answer;
      behind = behind-from c.behind_the_first.ensures words before after status answer;
      broken = broken-from words before after status answer;
      stored = stored-from words before after status answer;
      starved = starved-from words before after status answer;
      untouched = untouched-from words before after status answer;
      loaded = loaded-from words before after status answer;
      calm = calm-from words before after status answer;
      spared = spared-from words before after status answer;
    }
