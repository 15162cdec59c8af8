use Rattle.std.proofs.Common.{arith, sym, ◌∙◌, ◌≡◌, ◌++◌, ◌∷◌, [], true, take, length}
use Rattle.std.proofs.lemmas.Bool.{not-true}
use Rattle.std.proofs.lemmas.List.{length-take}
use Rattle.ap_live.specs.Lexicon.{viable_in}
use Rattle.ap_live.specs.SectionLives.{AreLive}
use Rattle.ap_analysis.specs.Items.{symbols}
use Rattle.ap_analysis.proofs.Stepped.{cut_back}
use Rattle.ap_analysis.proofs.search.Search.is_end.Goals as goal
use Rattle.ap_analysis.proofs.search.Search.is_end.Goals.{After-is_dead-dead}

live : (c : After-is_dead-dead) →
    AreLive c.args.compiled.now c.args.sensitive
    (take c.args.self.now.looked (symbols c.args.reads.now) ++ c.args.symbol.now ∷ [])
    c.step.new.self
live c = c.in_ok-step.ensures.ok (take c.args.self.now.looked (symbols c.args.reads.now))
    c.requires.search.lives_are

pub returns-in_err-step-clause-search : goal.returns-in_err-step-clause-search
returns-in_err-step-clause-search c = record {
  within = c.requires.search.within;
  lives_are = c.in_err-step.ensures.err
      (take c.args.self.now.looked (symbols c.args.reads.now)) c.requires.search.lives_are;
  phase_is = c.requires.search.phase_is;
  carried = c.requires.search.carried;
}

pub returns-clause-search : goal.returns-clause-search
returns-clause-search c =
    let at = (goal.at.returns-clause-search c).After-is_dead-dead in
    let size : length (take c.args.self.now.looked (symbols c.args.reads.now))
    ≡ c.args.self.now.looked = (let t = length-take c.args.self.now.looked
    (symbols c.args.reads.now) in omega (arith, t, c.requires.search.within)) in
    record {
      within = c.requires.search.within;
      lives_are = cut_back c.args.compiled.now c.args.sensitive
          (take c.args.self.now.looked (symbols c.args.reads.now)) c.args.symbol.now
          c.args.self.now.looked c.cut.new.self size
          (c.cut.ensures c.args.compiled.now c.args.sensitive _ (live at));
      phase_is = c.requires.search.phase_is;
      carried = c.requires.search.carried;
    }

pub returns-clause-ends : goal.returns-clause-ends
returns-clause-ends c = λ e.
    let at = (goal.at.returns-clause-ends c).After-is_dead-dead in
    let dead : c.is_dead-dead.result ≡ true = cc in
    not-true (viable_in c.args.compiled.now c.args.sensitive
    (take c.args.self.now.looked (symbols c.args.reads.now) ++ c.args.symbol.now ∷ []))
    (sym (c.is_dead-dead.ensures c.args.sensitive _ (live at)) ∙ dead)
