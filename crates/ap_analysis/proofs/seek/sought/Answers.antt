use Rattle.std.proofs.Common.{sym, subst, ap, ◌∙◌, List, length, false, Option, ◌≡◌}
use Rattle.std.specs.Prelude.{IfSome}
use Rattle.ap_stream.specs.declared.item.Read.{Read}
use Rattle.ap_live.specs.Lexicon.{lexicon_of}
use Rattle.ap_live.proofs.Coherence.{coherent}
use Rattle.ap_stream.specs.Steps.{Gives}
use Rattle.ap_analysis.specs.Analysis.{step_within}
use Rattle.ap_analysis.specs.Searching.{IsFound}
use Rattle.ap_analysis.specs.declared.search.Found.{Found}
use Rattle.ap_analysis.proofs.FrontSteps.{sought_gives}
use Rattle.ap_analysis.proofs.Running.{some_weaker}
use Rattle.ap_analysis.proofs.seek.sought.Goals as goal

pub returns-in-Gives-clause-step : goal.returns-in-Gives-clause-step
returns-in-Gives-clause-step c =
    let read = c.in_ok-found.ensures.read in
    let found : IsFound (lexicon_of c.args.compiled.now c.args.sensitive) c.found_in.new.reads.items
    false c.in-Some.found =
    subst (λ (o : Option Found). IfSome o (IsFound (lexicon_of c.args.compiled.now c.args.sensitive)
    c.found_in.new.reads.items false)) c.in-Some.is c.in_ok-found.ensures.found in
    let made : Gives c.in-Gives.count c.in-Gives.written
    ≡ step_within (lexicon_of c.args.compiled.now c.args.sensitive) c.args.sensitive
    c.as_slice-items.result.now = rw c.in-Gives.is at c.in_ok-step_within.ensures in
    some_weaker c.keyed.result _ _ (λ key is. is
    (lexicon_of c.args.compiled.now c.args.sensitive) c.args.sensitive
    (length c.found_in.new.reads.items) c.in-Gives.written
    (coherent c.args.compiled.now c.args.sensitive c.alphabet.ensures.sound) read.most read.few
    (subst (λ (rs : List Read). IsFound (lexicon_of c.args.compiled.now c.args.sensitive) rs false
    c.in-Some.found) read.are found)
    (sought_gives (lexicon_of c.args.compiled.now c.args.sensitive) c.args.sensitive
    c.args.piece.now c.found_in.new.reads.items c.in-Gives.count c.in-Gives.written read
    (ap (step_within (lexicon_of c.args.compiled.now c.args.sensitive) c.args.sensitive)
    (sym c.as_slice-items.ensures.value) ∙ sym made))) c.keyed.ensures.step
