use Rattle.std.proofs.Common.{ap, refl, subst, ◌∙◌, List, ℕ, ◌++◌, take}
use Rattle.ap_stream.specs.UnitBytes.{UnitOf}
use Rattle.ap_stream.specs.declared.dialect.Dialect.{Dialect}
use Rattle.ap_stream.proofs.EachLaws as laws
use Rattle.ap_stream.proofs.each.EachByUnit.recall.Goals as goal

pub returns-in_ok-extend-in-Some-clause-wrote : goal.returns-in_ok-extend-in-Some-clause-wrote
returns-in_ok-extend-in-Some-clause-wrote g c = λ some.
    let given = g.W.UnitWriter.given c.self.inside.writer in
    let key : List ℕ = take c.front_of-front.result.size c.args.piece.now in
    let is = c.in-Some.ensures c.self.inside.dialect given c.self.invariant.1 in
    record {
      words = is.words;
      unit = subst (λ (d : Dialect). UnitOf d key is.words)
          (ap (λ s. s.dialect) c.self.view_is) is.unit;
      given = given is.words;
      is = c.in_ok-extend-in-Some.ensures.ok
          ∙ ap (λ (q : List ℕ). c.args.into.now ++ q) is.is;
      gives = laws.unit_gives g.W.UnitWriter.given c.args.self.now c.self.inside.writer
          c.self.inside.writer c.self.inside.dialect c.self.inside.item c.self.inside.finished
          c.self.view_is c.requires refl key is.words is.unit (rw is.is at is.short);
    }
