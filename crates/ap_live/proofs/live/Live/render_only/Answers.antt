use Rattle.std.proofs.Common.{arith, ap, sym}
use Rattle.ap_live.specs.Lives.{Lives}
use Rattle.ap_live.specs.Trails.{IsOnlyBytes}
use Rattle.ap_live.proofs.Finding.{words_found}
use Rattle.ap_live.proofs.LiveLaws.{held_as, outline_there}
use Rattle.ap_live.proofs.WordLaws.{few_sorted}
use Rattle.ap_live.proofs.live.Live.render_only.Goals as goal

pub returns : goal.returns
returns c = λ done seen live.
    let o : IsOnlyBytes c.args.fst.now seen c.args.into.now c.render_only.new.into =
    c.render_only.ensures done
    (outline_there c.args.fst.now seen c.args.self.now c.self.inside.outline
    (ap (λ (l : Lives). l.outline) c.self.view_is) live) seen
    (held_as c.args.fst.now seen c.args.self.now c.self.inside.ways
    (ap (λ (l : Lives). l.ways) c.self.view_is) live) in (
      o.word,
      sym (words_found c.args.fst.now seen _ c.states.ensures.sound c.requires.no_cycle
          (few_sorted _ (omega arith)) o.only),
      o.is,
    )
