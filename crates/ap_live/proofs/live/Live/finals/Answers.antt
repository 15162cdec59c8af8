use Rattle.std.proofs.Common.{ap, subst, sym, List}
use Rattle.std.specs.List.Sorted.{IsStrictlySortedBy}
use Rattle.ap_symbol.specs.Rendering.{word_cmp}
use Rattle.ap_symbol.specs.declared.symbol.Symbol.{Symbol}
use Rattle.ap_live.specs.Lives.{Lives}
use Rattle.ap_live.proofs.Finding.{words_found}
use Rattle.ap_live.proofs.LiveLaws.{held_as, outline_there, same_members}
use Rattle.ap_live.proofs.live.Live.finals.Goals as goal

pub returns-clause-outputs : goal.returns-clause-outputs
returns-clause-outputs c =
    λ seen live. same_members c.args.fst.now seen c.in_ok-words.words.items c.from_vec.result
    c.from_vec.ensures
    (c.in_ok-words.ensures.members (outline_there c.args.fst.now seen c.args.self.now c.self.inside.outline
    (ap (λ (l : Lives). l.outline) c.self.view_is) live) seen
    (held_as c.args.fst.now seen c.args.self.now c.self.inside.ways
    (ap (λ (l : Lives). l.ways) c.self.view_is) live))

pub returns-clause-found : goal.returns-clause-found
returns-clause-found c =
    λ seen live. words_found c.args.fst.now seen c.from_vec.result c.states.ensures.sound
    c.requires.no_cycle
    (let P : List (List Symbol) → Type 0 = λ z. IsStrictlySortedBy word_cmp z in
    subst P (sym c.from_vec.ensures) c.in_ok-words.ensures.order)
    (same_members c.args.fst.now seen c.in_ok-words.words.items c.from_vec.result
    c.from_vec.ensures
    (c.in_ok-words.ensures.members (outline_there c.args.fst.now seen c.args.self.now c.self.inside.outline
    (ap (λ (l : Lives). l.outline) c.self.view_is) live) seen
    (held_as c.args.fst.now seen c.args.self.now c.self.inside.ways
    (ap (λ (l : Lives). l.ways) c.self.view_is) live)))
