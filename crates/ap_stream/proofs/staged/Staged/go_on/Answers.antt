use Rattle.std.proofs.Common.{arith, ap, subst, ◌∙◌, ◌≡◌, ◌≤◌, ◌<◌, ℕ, List, ◌++◌, length, take}
use Rattle.ap_stream.specs.Fronts.{GivesFront}
use Rattle.ap_stream.specs.Seat.{Seat}
use Rattle.ap_stream.proofs.FrontLaws as lemmas
use Rattle.ap_stream.proofs.staged.Staged.go_on.Goals as goal

pub returns-clause-rest : goal.returns-clause-rest
returns-clause-rest g c =
    let front = c.in-Ok.front in
    let fresh = c.requires.fresh in
    let same = c.self.view_is in
    let text : List ℕ = c.as_slice-text.result.now in
    let piece : List ℕ = c.args.piece.now in
    let begun : c.self.inside.reader.held ≡ c.args.self.now.begun =
    ap (λ (s : Seat _). s.begun) same in
    let handler : c.self.inside.handler ≡ c.args.self.now.handler =
    ap (λ (s : Seat _). s.handler) same in
    let place : c.self.inside.reader.place ≡ c.args.self.now.place =
    ap (λ (s : Seat _). s.place) same in
    let dialect : c.self.inside.reader.dialect ≡ c.args.self.now.dialect =
    ap (λ (s : Seat _). s.dialect) same in
    let going = ap (λ (s : Seat _). s.fault) same ∙ fresh.going in
    let sound = c.self.invariant.0 going in
    let some : 0 < front.used = let z = c.if-front-eq0.false in omega (arith, z) in
    let count : c.begun-begun.result ≡ length c.args.self.now.begun =
    c.begun-begun.ensures.count ∙ ap length begun in
    let over : length c.args.self.now.begun ≤ front.seen =
    let z = c.if-front-begun.false in omega (arith, z, count) in
    let k = c.in-Ok.ensures.gave some in
    let is : text ≡ c.args.self.now.begun ++ take c.min-most.result piece =
    c.as_slice-text.ensures ∙ c.in_ok-extend-2.ensures.ok
    ∙ ap (λ (q : List ℕ). q ++ take c.min-most.result piece)
    (c.in_ok-extend.ensures.ok ∙ ap (λ (q : List ℕ). q ++ c.held.result.now) c.clear.ensures
    ∙ c.held.ensures ∙ begun) in
    let gives = subst (λ d. GivesFront g.H.Handler.work d c.args.self.now.handler
    (take front.seen text) front.used k.given) (sound.reads_it ∙ dialect)
    (subst (λ h. GivesFront g.H.Handler.work (g.H.Handler.dialect c.self.inside.handler) h
    (take front.seen text) front.used k.given) handler k.gives) in
    rw count
    (lemmas.rest_front g.H.Handler.work c.args.self.now
    (record {
      handler = _;
      dialect = _;
      begun = _;
      place = _;
      pending = _;
      ended = c.self.inside.ended;
      fault = _;
    })
    piece text k.given c.min-most.result
    front.used front.seen is over k.within k.most gives fresh.going fresh.empty
    (rw (← place) c.stand.ensures.counts) going (c.stand.ensures.dialect ∙ dialect)
    (c.give_known-known.ensures.same ∙ handler) k.is
    (c.in_ok-stand.ensures.held) (rw (← place) c.in_ok-stand.ensures.place))
