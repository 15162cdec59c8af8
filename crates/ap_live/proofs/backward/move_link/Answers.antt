use Rattle.std.proofs.Common.{◌≡◌, ap, ◌∙◌, sym, Some, slice_get, false}
use Rattle.ap_live.proofs.Backing.{adds_one, one_back}
use Rattle.ap_live.proofs.backward.move_link.Goals as goal

pub returns : goal.returns
returns c =
    let at : slice_get c.args.fst.now.edges c.args.link.edge ≡ Some c.in-Some.edge.now =
    ap (λ es. slice_get es c.args.link.edge) (sym c.edges.ensures.value)
    ∙ sym c.in-Some.ensures in
    let holds = c.leads.ensures.0 c.if-not-leads.false in
    adds_one c.args.fst.now.edges false c.args.link c.args.item c.in_ok-item_before.field-0
    c.args.found.now c.add.new.self
    (record {
      edge = c.in-Some.edge.now;
      at = at;
      to_is = holds.0;
      arrives = holds.1;
      sort =
          holds.2;
      is = c.in_ok-item_before.ensures;
    })
    (λ z h. one_back c.args.fst.now.edges false c.args.link c.args.item z c.in-Some.edge.now at h
    ∙ sym c.in_ok-item_before.ensures) c.in_ok-add.ensures
