use Rattle.std.proofs.Common.{◌≡◌, ap, ◌∙◌, arith, Some, slice_get, length, refl, sym}
use Rattle.std.proofs.lemmas.Option.{slice_get_read}
use Rattle.ap_fst.specs.declared.label.Edge.{Edge}
use Rattle.ap_live.specs.Outlines.{IsEntry}
use Rattle.ap_live.specs.declared.outline.Entry.{Entry}
use Rattle.ap_live.proofs.Outlining.{entries_more}
use Rattle.ap_live.proofs.outline.add_entry.Goals as goal

pub returns : goal.returns
returns c = λ are.
    let edge : Edge = c.index-edges-place.result in
    let entry : Entry = record {
      left = c.code_of-left.result;
      to = c.in-Ok.to;
      right = c.right_code-right.result;
    } in
    let read : slice_get c.args.edges.now c.args.place ≡ Some edge =
    slice_get_read c.args.edges.now (length c.args.edges.now) c.args.place edge refl
    c.requires c.index-edges-place.is in
    let count : length c.args.entries.now.items ≡ c.args.place =
    sym c.args.entries.now.ok.0 ∙ sym c.len.ensures ∙ c.if-len-place.false in
    let is : IsEntry c.args.edges.now edge entry = record {
      left_is = c.code_of-left.ensures;
      small = omega (arith, c.code_of-left.type_inv);
      to_is = omega (arith, c.in-Ok.ensures);
      right_is = c.right_code-right.ensures edge.label.right (edge, (read, refl));
    } in
    entries_more c.args.edges.now c.args.entries.now.items c.push.new.self.items edge entry
    c.in_ok-push.ensures.items are (ap (slice_get c.args.edges.now) count ∙ read) is
