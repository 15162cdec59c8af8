use Rattle.std.proofs.Common.{◌≡◌, ap, ◌∙◌, sym, Some, slice_get, List, ◌++◌}
use Rattle.std.specs.Option.{option_to_list}
use Rattle.ap_symbol.specs.declared.symbol.Symbol.{Symbol}
use Rattle.ap_live.specs.declared.items.Item.{Item}
use Rattle.ap_live.proofs.Backing.{adds_one, merges_new, one_back}
use Rattle.ap_live.proofs.least_ways.push_link.Goals as goal

pub returns : goal.returns
returns c =
    let at : slice_get c.args.fst.now.edges c.args.link.edge ≡ Some c.in-Some.edge.now =
    ap (λ es. slice_get es c.args.link.edge) (sym c.edges.ensures.value)
    ∙ sym c.in-Some.ensures in
    let holds = c.leads.ensures.0 c.if-not-leads.false in
    let before : List Symbol → Item =
    λ back. record {
      state = c.in-Some.edge.now.from;
      back =
          back ++ option_to_list c.in-Some.edge.now.label.right;
    } in
    let is : c.in_ok-item_before.field-0 ≡ before c.args.item.now.back = c.in_ok-item_before.ensures
    ∙ ap before c.in_ok-back.ensures in
    adds_one c.args.fst.now.edges c.args.silent c.args.link c.args.item.now
    c.in_ok-item_before.field-0 c.args.found.now.items c.push.new.self.items
    (record {
      edge = c.in-Some.edge.now;
      at = at;
      to_is = holds.0;
      arrives = holds.1;
      sort =
          holds.2;
      is = is;
    })
    (λ z h. one_back c.args.fst.now.edges c.args.silent c.args.link c.args.item.now z
    c.in-Some.edge.now at h ∙ sym is)
    (merges_new c.args.found.now.items c.push.new.self.items c.in_ok-item_before.field-0
    c.in_ok-push.ensures.items)
