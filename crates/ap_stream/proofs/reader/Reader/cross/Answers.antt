use Rattle.std.proofs.Common.{arith, ap, ◌∙◌, ◌≡◌, ◌<◌, ◌≤◌, ◌++◌, ◌-◌, length, take, None, vec_len}
use Rattle.std.proofs.lemmas.Grind.{common_steps}
use Rattle.ap_stream.specs.Limits.{unit_max}
use Rattle.ap_stream.specs.Given.{Begun}
use Rattle.ap_stream.proofs.Crossed as crossing
use Rattle.ap_stream.proofs.reader.Reader.cross.Goals as goal

pub invariant_of-self : goal.invariant_of-self
invariant_of-self c =
    let none : c.self.inside.fault ≡ None = ap (λ (s : Begun). s.fault) c.self.view_is
    ∙ c.requires.going in
    let looked = ap (λ (s : Begun). s.looked) c.self.view_is ∙ c.requires.looked in
    let standing = c.self.invariant.1 none in
    let size : vec_len c.self.inside.held ≡ length c.self.inside.held.items =
    c.self.inside.held.ok.0 in
    let behind : length c.self.inside.held.items ≤ c.self.inside.done =
    omega (arith, size, c.len.ensures, c.if-self-len.false) in
    let some : 0 < c.run_in-count.result.count = omega (arith, c.if-count-eq0.false) in
    let after : c.extend_from_slice.new.self.items ≡ c.self.inside.held.items
    ++ take c.run_in-count.result.count c.args.piece.now =
    grind (arith, common_steps, c.in-Ok.ensures.items) in
    let total : c.len-self-inside.result ≡ length c.extend_from_slice.new.self.items =
    c.len-self-inside.ensures ∙ c.extend_from_slice.new.self.ok.0 in
    let most : c.min-most.result ≤ unit_max - length c.self.inside.held.items =
    omega (arith, size, c.min-most.ensures, c.len-2.ensures) in
    let stands = crossing.stands_crossed _ c.self.inside.done _ _ (c.min-most.result) _
    c.args.piece.now _ _ _ _ looked some standing behind c.run_in-count.ensures.most
    c.run_in-count.ensures.goes_on most after total in
    (let n = stands.short looked in omega (arith, n), λ _. stands)
