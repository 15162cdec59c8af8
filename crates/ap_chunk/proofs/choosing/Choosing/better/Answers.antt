use Rattle.std.proofs.Common.{sym, ◌∙◌, ap, ◌++◌, ◌∷◌, []}
use Rattle.ap_chunk.specs.Live.{Standing}
use Rattle.ap_chunk.proofs.Chosen.{none_more, none_first, some_chosen}
use Rattle.ap_chunk.proofs.choosing.Choosing.better.Goals as goal

pub returns-in-None-clause-more : goal.returns-in-None-clause-more
returns-in-None-clause-more c =
    none_more c.args.self.now c.args.before (sym (ap (λ (s : Standing). s.over) c.self.view_is)
    ∙ c.in-None.is)

pub returns-in-None-clause-first : goal.returns-in-None-clause-first
returns-in-None-clause-first c =
    none_first c.args.self.now c.args.before (sym (ap (λ (s : Standing). s.over) c.self.view_is)
    ∙ c.in-None.is)

pub returns-in-Some-clause-more : goal.returns-in-Some-clause-more
returns-in-Some-clause-more c = λ units u stands was.
    some_chosen c.args.self.now c.in-Some.rule c.self.inside.count
    (sym (ap (λ (s : Standing). s.over) c.self.view_is) ∙ c.in-Some.is)
    (sym (ap (λ (s : Standing). s.count) c.self.view_is)) (units ++ u ∷ []) stands

pub returns-in-Some-clause-first : goal.returns-in-Some-clause-first
returns-in-Some-clause-first c = λ e stands.
    some_chosen c.args.self.now c.in-Some.rule c.self.inside.count
    (sym (ap (λ (s : Standing). s.over) c.self.view_is) ∙ c.in-Some.is)
    (sym (ap (λ (s : Standing). s.count) c.self.view_is)) [] stands
