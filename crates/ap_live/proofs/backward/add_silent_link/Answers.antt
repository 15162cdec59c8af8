use Rattle.std.proofs.Common.{◌≡◌, ap, ◌∙◌, sym, Some, slice_get, List, ◌++◌, true, false}
use Rattle.std.specs.Option.{option_to_list}
use Rattle.ap_symbol.specs.declared.symbol.Symbol.{Symbol}
use Rattle.ap_live.specs.declared.items.Item.{Item}
use Rattle.ap_live.proofs.Backing.{adds_one, adds_none, one_back, edge_back}
use Rattle.ap_live.proofs.backward.add_silent_link.Goals as goal

pub returns : goal.returns
returns c = λ item there.
    let at : slice_get c.args.fst.now.edges c.args.link.edge ≡ Some c.in-Some.edge.now =
    ap (λ es. slice_get es c.args.link.edge) (sym c.edges.ensures.value)
    ∙ sym c.in-Some.ensures in
    let read : Some c.in-Some-get.item.now ≡ Some item = c.in-Some-get.ensures ∙ there in
    let same : c.in-Some-get.item.now ≡ item = cc in
    let holds = c.leads.ensures.0 c.if-not-leads.false in
    let before : List Symbol → Item =
    λ back. record {
      state = c.in-Some.edge.now.from;
      back =
          back ++ option_to_list c.in-Some.edge.now.label.right;
    } in
    let is : c.in_ok-item_before.field-0 ≡ before item.back = c.in_ok-item_before.ensures
    ∙ ap before (c.in_ok-back.ensures ∙ ap (λ (z : Item). z.back) same) in
    adds_one c.args.fst.now.edges true c.args.link item c.in_ok-item_before.field-0 c.args.items.now
    c.add.new.self
    (record {
      edge = c.in-Some.edge.now;
      at = at;
      to_is = ap (λ (z : Item). z.state) (sym same)
          ∙ holds.0;
      arrives = holds.1;
      sort = holds.2;
      is = is;
    })
    (λ z h. one_back c.args.fst.now.edges true c.args.link item z c.in-Some.edge.now at h ∙ sym is)
    c.in_ok-add.ensures

pub returns-then-not-leads : goal.returns-then-not-leads
returns-then-not-leads c = λ item there.
    let at : slice_get c.args.fst.now.edges c.args.link.edge ≡ Some c.in-Some.edge.now =
    ap (λ es. slice_get es c.args.link.edge) (sym c.edges.ensures.value)
    ∙ sym c.in-Some.ensures in
    let read : Some c.in-Some-get.item.now ≡ Some item = c.in-Some-get.ensures ∙ there in
    let same : c.in-Some-get.item.now ≡ item = cc in
    adds_none c.args.fst.now.edges true c.args.link item c.args.items.now (λ z h.
    let (to_is, arrives, sort) =
    edge_back c.args.fst.now.edges true c.args.link item z c.in-Some.edge.now at h in
    let does : c.leads.result ≡ true =
    c.leads.ensures.1 (ap (λ (y : Item). y.state) same ∙ to_is, arrives, sort) in
    let not : c.leads.result ≡ false = c.if-not-leads.true in
    absurd (cc))
